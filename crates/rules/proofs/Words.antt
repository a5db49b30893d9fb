-- Laws of the words on a state and on a slot: what each says of the others, and what a call leaves of it. They stand here once; who has a room, for one,
-- can change in one definition, and these laws with it.
use Prim.Native.Nat.{ℕ, ◌<◌}
use mathlib.Core.Path.{◌≡◌, refl, sym}
use mathlib.Core.Bool.{true}
use mathlib.Core.List.{List}
use mathlib.Core.Logic.{◌⊎◌, inl, inr}
use borrow.Author.Tests.{eq-eqb, eqb-true}
use lib.Dec.{eqb}
use Rattle.ground.proofs.Decided.{clash, and-true, true_and}
use Rattle.rules.specs.declared.Hold.TheVariants as hold
use Rattle.rules.specs.declared.State.{State}
use Rattle.rules.specs.declared.State.TheVariants as state
use Rattle.rules.specs.declared.Slot.{Slot}
use Rattle.rules.specs.Slots.{is_used, is_waiting, is_in_flight, is_hard, is_hard_patch, has_room, room_of}
use Rattle.rules.specs.Table.{slot_at, used, waits_on, hard_on, HasRoom}
use Rattle.rules.specs.Create.{turned_state}
use Rattle.rules.specs.Write.{sent_state}

-- ---- one state

pub waiting_used : (u : State) → is_waiting u ≡ true → is_used u ≡ true
waiting_used state.Free e = e
waiting_used (state.Waiting h) e = refl
waiting_used (state.InFlight k) e = refl

pub hard_waits : (u : State) → is_hard u ≡ true → is_waiting u ≡ true
hard_waits state.Free e = e
hard_waits (state.Waiting h) e = refl
hard_waits (state.InFlight k) e = e

pub hard_patch_used : (u : State) → is_hard_patch u ≡ true → is_used u ≡ true
hard_patch_used state.Free e = e
hard_patch_used (state.Waiting h) e = refl
hard_patch_used (state.InFlight k) e = refl

pub hard_is_patch : (u : State) → is_hard u ≡ true → is_hard_patch u ≡ true
hard_is_patch state.Free e = e
hard_is_patch (state.Waiting hold.Hard) e = refl
hard_is_patch (state.Waiting (hold.Soft r)) e = e
hard_is_patch (state.InFlight k) e = absurd (clash e refl)

-- a waiting patch is hard once it is turned, and a hard one that waits is a hard waiting one
pub waiting_turned : (u : State) → is_waiting u ≡ true → is_hard (turned_state u) ≡ true
waiting_turned state.Free e = e
waiting_turned (state.Waiting h) e = refl
waiting_turned (state.InFlight k) e = e

pub hard_or_flies : (u : State) → is_hard_patch u ≡ true → (is_hard u ≡ true) ⊎ (is_in_flight u ≡ true)
hard_or_flies state.Free e = inl e
hard_or_flies (state.Waiting hold.Hard) e = inl refl
hard_or_flies (state.Waiting (hold.Soft r)) e = inl e
hard_or_flies (state.InFlight k) e = inr refl

pub used_waits_or_flies : (u : State) → is_used u ≡ true → (is_waiting u ≡ true) ⊎ (is_in_flight u ≡ true)
used_waits_or_flies state.Free e = inl e
used_waits_or_flies (state.Waiting h) e = inl refl
used_waits_or_flies (state.InFlight k) e = inr refl

pub not_both : (u : State) → is_waiting u ≡ true → is_in_flight u ≡ true → ⊥
not_both state.Free w f = clash w refl
not_both (state.Waiting h) w f = clash f refl
not_both (state.InFlight k) w f = clash w refl

-- ---- its room

-- a patch with a room is in use, and has that one room
pub roomed_used : (u : State) (r : ℕ) → has_room u r ≡ true → is_used u ≡ true
roomed_used state.Free r e = e
roomed_used (state.Waiting h) r e = refl
roomed_used (state.InFlight k) r e = refl

pub room_is : (u : State) (r : ℕ) → has_room u r ≡ true → room_of u ≡ r
room_is state.Free r e = absurd (clash e refl)
room_is (state.Waiting hold.Hard) r e = absurd (clash e refl)
room_is (state.Waiting (hold.Soft q)) r e = sym (eqb-true r q e)
room_is (state.InFlight k) r e = absurd (clash e refl)

-- where every patch's room is below n, so is what room_of says of any state
pub room_below : (u : State) (n : ℕ) → 0 < n → ((r : ℕ) → has_room u r ≡ true → r < n) → room_of u < n
room_below state.Free n l f = l
room_below (state.Waiting hold.Hard) n l f = l
room_below (state.Waiting (hold.Soft r)) n l f = f r (eq-eqb r r refl)
room_below (state.InFlight k) n l f = l

-- ---- what a call leaves of it: what is in use, hard or in flight stays so, and nobody gets a room

pub turned_used : (u : State) → is_used (turned_state u) ≡ is_used u
turned_used state.Free = refl
turned_used (state.Waiting h) = refl
turned_used (state.InFlight k) = refl

pub turned_hard : (u : State) → is_hard_patch u ≡ true → is_hard_patch (turned_state u) ≡ true
turned_hard state.Free e = e
turned_hard (state.Waiting h) e = refl
turned_hard (state.InFlight k) e = e

pub turned_flies : (u : State) → is_in_flight u ≡ true → is_in_flight (turned_state u) ≡ true
turned_flies state.Free e = e
turned_flies (state.Waiting h) e = e
turned_flies (state.InFlight k) e = refl

pub turned_room : (u : State) (r : ℕ) → has_room (turned_state u) r ≡ true → has_room u r ≡ true
turned_room state.Free r e = e
turned_room (state.Waiting h) r e = absurd (clash e refl)
turned_room (state.InFlight k) r e = e

pub sent_used : (u : State) → is_used (sent_state u) ≡ is_used u
sent_used state.Free = refl
sent_used (state.Waiting h) = refl
sent_used (state.InFlight k) = refl

pub sent_hard : (u : State) → is_hard_patch u ≡ true → is_hard_patch (sent_state u) ≡ true
sent_hard state.Free e = e
sent_hard (state.Waiting hold.Hard) e = refl
sent_hard (state.Waiting (hold.Soft r)) e = e
sent_hard (state.InFlight k) e = e

pub sent_flies : (u : State) → is_in_flight u ≡ true → is_in_flight (sent_state u) ≡ true
sent_flies state.Free e = e
sent_flies (state.Waiting h) e = absurd (clash e refl)
sent_flies (state.InFlight k) e = refl

pub sent_room : (u : State) (r : ℕ) → has_room (sent_state u) r ≡ true → has_room u r ≡ true
sent_room state.Free r e = e
sent_room (state.Waiting h) r e = absurd (clash e refl)
sent_room (state.InFlight k) r e = e

-- ---- one slot

module _ (ss : List Slot) (b i : ℕ) where
  pub hard_waits_on : hard_on ss b i ≡ true → waits_on ss b i ≡ true
  hard_waits_on e =
      let p = and-true (is_hard (slot_at ss i).state) (eqb (slot_at ss i).block b) e in true_and (hard_waits (slot_at ss i).state p.0) p.1

  pub waits_on_used : waits_on ss b i ≡ true → used ss i ≡ true
  waits_on_used e = waiting_used (slot_at ss i).state (and-true (is_waiting (slot_at ss i).state) (eqb (slot_at ss i).block b) e).0

pub has_room_used : (ss : List Slot) (i r : ℕ) → HasRoom ss i r → used ss i ≡ true
has_room_used ss i = roomed_used (slot_at ss i).state
