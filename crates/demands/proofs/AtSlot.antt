-- Where a number's patch is, whether it has a room, and what it is tied to: read off its slot, in the words of `cut`.
use Prim.Native.Nat.{ℕ}
use native.Mathlib.Omega.{arith}
use mathlib.Core.Path.{◌≡◌, refl, sym, ◌∙◌}
use mathlib.Core.Bool.{Bool, true, false}
use mathlib.Core.List.{List}
use mathlib.Core.Option.{Option, none, some}
use mathlib.Core.Logic.{◌⊎◌, inl, inr, ⊎_elim}
use borrow.Author.Tests.{eq-eqb}
use Rattle.masks.specs.Sets.{has}
use Rattle.ground.proofs.Decided.{clash}
use Rattle.rules.specs.declared.Hold.TheVariants as hold
use Rattle.rules.specs.declared.State as rules
use Rattle.rules.specs.declared.State.TheVariants as state
use Rattle.rules.specs.declared.Slot.{Slot}
use Rattle.rules.specs.Slots.{is_waiting, is_in_flight, is_hard, is_hard_patch, has_room, room_of}
use Rattle.rules.specs.Table.{slot_at}
use Rattle.rules.proofs.StaysSound.{Like}
use Rattle.cut.specs.World as cut
use Rattle.cut.specs.World.{Stage, waiting, in_flight, committed}
use Rattle.demands.proofs.Lookup.{slot_of}

-- where a patch is, by its slot's state; a free slot's patch has committed
abbrev pub state_word : rules.State → Stage
state_word state.Free = committed
state_word (state.Waiting h) = waiting
state_word (state.InFlight k) = in_flight

-- does it have a room?
abbrev pub roomed : rules.State → Bool
roomed u = has_room u (room_of u)

abbrev pub state_at : List Slot → Option ℕ → Stage
state_at ss none = committed
state_at ss (some j) = state_word (slot_at ss j).state

abbrev pub roomed_at : List Slot → Option ℕ → Bool
roomed_at ss none = false
roomed_at ss (some j) = roomed (slot_at ss j).state

abbrev pub room_at : List Slot → Option ℕ → ℕ
room_at ss none = 0
room_at ss (some j) = room_of (slot_at ss j).state

-- the same of a number
abbrev pub word_of : List Slot → ℕ → Stage
word_of ss n = state_at ss (slot_of ss n)

abbrev pub roomed_of : List Slot → ℕ → Bool
roomed_of ss n = roomed_at ss (slot_of ss n)

abbrev pub room_for : List Slot → ℕ → ℕ
room_for ss n = room_at ss (slot_of ss n)

-- two patches of one block go together, or the one after the other: the one is hard, the other hard or in flight
pub record Together (s r : Slot) : Type 0 where
  pub block : s.block ≡ r.block
  pub hard : is_hard_patch s.state ≡ true
  pub its : (is_hard_patch r.state ≡ true) ⊎ (is_in_flight r.state ≡ true)

-- what ties the patch of slot i to that of slot j: it is among its befores, or the block does not go without it
pub data Tie (ss : List Slot) (i j : ℕ) : Type 0 where
  before : has (slot_at ss i).befores j ≡ true → Tie ss i j
  together : Together (slot_at ss i) (slot_at ss j) → Tie ss i j

-- patch m is tied to patch n
pub record Tied (ss : List Slot) (m n : ℕ) : Type 0 where
  pub mine : ℕ
  pub its : ℕ
  pub mine_is : slot_of ss m ≡ some mine
  pub its_is : slot_of ss n ≡ some its
  pub tie : Tie ss mine its

-- a tie stands where both numbers keep their slots, these are like they were, and the one keeps its before
pub tie_stays : (ss ss' : List Slot) (m n : ℕ) → slot_of ss' m ≡ slot_of ss m → slot_of ss' n ≡ slot_of ss n
    → ((i : ℕ) → slot_of ss m ≡ some i → Like (slot_at ss' i) (slot_at ss i)) → ((j : ℕ) → slot_of ss n ≡ some j → Like (slot_at ss' j) (slot_at ss j))
    → ((i j : ℕ) → slot_of ss m ≡ some i → slot_of ss n ≡ some j → has (slot_at ss i).befores j ≡ true → has (slot_at ss' i).befores j ≡ true)
    → Tied ss m n → Tied ss' m n
tie_stays ss ss' m n em en like like' f t = record {
  mine = t.mine;
  its = t.its;
  mine_is = em ∙ t.mine_is;
  its_is = en ∙ t.its_is;
  tie = go t.tie;
}
  where
    go : Tie ss t.mine t.its → Tie ss' t.mine t.its
    go (before e) = before (f t.mine t.its t.mine_is t.its_is e)
    go (together g) =
        let k = like t.mine t.mine_is in
        let r = like' t.its t.its_is in
        together (record {
          block = k.block ∙ g.block ∙ sym r.block;
          hard = k.hard g.hard;
          its = ⊎_elim (λ e. inl (r.hard e)) (λ e. inr (r.flies e)) g.its;
        })

-- is the state that of a change on the store; on its way
abbrev pub is_done : Stage → Bool
is_done waiting = false
is_done in_flight = false
is_done committed = true

abbrev pub is_out : Stage → Bool
is_out waiting = false
is_out in_flight = true
is_out committed = false

-- ---- laws

pub waiting_word : (u : rules.State) → is_waiting u ≡ true → state_word u ≡ waiting
waiting_word state.Free e = absurd (clash e refl)
waiting_word (state.Waiting h) e = refl
waiting_word (state.InFlight k) e = absurd (clash e refl)

pub flying_word : (u : rules.State) → is_in_flight u ≡ true → state_word u ≡ in_flight
flying_word state.Free e = absurd (clash e refl)
flying_word (state.Waiting h) e = absurd (clash e refl)
flying_word (state.InFlight k) e = refl

pub word_flying : (u : rules.State) → state_word u ≡ in_flight → is_in_flight u ≡ true
word_flying state.Free e = absurd (let z : ◌≡◌ {A = ℕ} 0 1 = cc in omega arith)
word_flying (state.Waiting h) e = absurd (let z : ◌≡◌ {A = ℕ} 0 1 = cc in omega arith)
word_flying (state.InFlight k) e = refl

-- the word of `cut` for a waiting state is that of the slot's
pub same_word : (u : rules.State) → cut.is_waiting (state_word u) ≡ is_waiting u
unfolding cut.is_waiting
same_word state.Free = refl
same_word (state.Waiting h) = refl
same_word (state.InFlight k) = refl

-- a waiting patch that is not hard has a room
pub not_hard : (u : rules.State) → is_waiting u ≡ true → (is_hard u ≡ true → ⊥) → roomed u ≡ true
not_hard state.Free e n = e
not_hard (state.Waiting hold.Hard) e n = absurd (n refl)
not_hard (state.Waiting (hold.Soft r)) e n = eq-eqb r r refl
not_hard (state.InFlight k) e n = e

-- and a hard one has none
pub hard_no_room : (u : rules.State) → is_hard u ≡ true → roomed u ≡ false
hard_no_room state.Free e = refl
hard_no_room (state.Waiting hold.Hard) e = refl
hard_no_room (state.Waiting (hold.Soft r)) e = absurd (clash e refl)
hard_no_room (state.InFlight k) e = refl

-- whatever is out is in flight
pub out_flies : (s : Stage) → is_out s ≡ true → s ≡ in_flight
out_flies waiting e = absurd (clash e refl)
out_flies in_flight e = refl
out_flies committed e = absurd (clash e refl)
