-- A table is sound just where its header is within its bounds, each slot passes the tests of `judge` and all befores are slots in
-- use: the two directions from what the loop shows of each slot to Sound, which speaks of all. Assumes nothing.
use Prim.Native.Nat.{ℕ, ◌<◌}
use mathlib.Core.Path.{◌≡◌, refl, sym, ◌∙◌, subst}
use mathlib.Core.Bool.{Bool, true, false, ◌&&◌}
use mathlib.Core.List.{List}
use native.Mathlib.Decide.{dec_lt}
use native.Mathlib.Omega.{arith}
use Rattle.std.specs.Prelude.{None}
use Rattle.std.specs.Bool.{then_some}
use Rattle.std.proofs.lemmas.Option.{none-some, same_Some}
use Rattle.masks.specs.Sets.{has, set_of, within}
use Rattle.ground.proofs.Decided.{and-true, true_and}
use Rattle.masks.proofs.Laws.{has_of, within_at, at_within}
use Rattle.rules.specs.declared.Setting.{Setting}
use Rattle.rules.specs.declared.Slot.{Slot}
use Rattle.rules.specs.Sizes.{slots}
use Rattle.rules.specs.Settings.{rooms}
use Rattle.rules.specs.Table.{Sound, table_of, used, slot_at, HasRoom}
use Rattle.sound.specs.SlotSound.{HeaderInRange, Alone}
use Rattle.slots.specs.Walks.{Carries}
use Rattle.sound.specs.declared.types.InUse.{InUse}
use Rattle.sound.specs.Verdict.{IsVerdict, SoundWith}
use Rattle.rules.proofs.Rooms.{some_room}
use Rattle.rules.proofs.Words.{room_is, room_below, has_room_used}
use Rattle.sound.proofs.Gathered.{gathered, gathered_all, gathered_only}

-- slot i has not the room of a slot below it
abbrev pub RoomApart : List Slot → ℕ → Type 0
RoomApart ss i = (j r : ℕ) → j < i → HasRoom ss i r → HasRoom ss j r → ⊥

-- slot i has not the number of a slot below it
abbrev pub NumberApart : List Slot → ℕ → Type 0
NumberApart ss i = (j : ℕ) → j < i → Carries ss (slot_at ss i).number j → ⊥

-- what judge tests of slot i, but for its befores
pub record Tested (first next n : ℕ) (ss : List Slot) (i : ℕ) : Type 0 where
  pub alone : used ss i ≡ true → Alone first next n i (slot_at ss i)
  pub number : used ss i ≡ true → NumberApart ss i
  pub room : RoomApart ss i

-- slot r is among the befores of slot i, which is in use
abbrev pub follows : List Slot → ℕ → ℕ → Bool
follows ss i r = used ss i && has (slot_at ss i).befores r

-- two slots of which each is apart from those below it and that have something in common are one
below_same : {P : ℕ → ℕ → Type 0} → ((i j : ℕ) → i < slots → j < i → P i j → ⊥) → ((i j : ℕ) → P i j → P j i)
    → (i j : ℕ) → i < slots → j < slots → P i j → i ≡ j
below_same f flip i j l m h = by (dec_lt i j) (dec_lt j i)
  where
    by : Dec (i < j) → Dec (j < i) → i ≡ j
    by (yes a) d = absurd (f j i m a (flip i j h))
    by (no n) (yes b) = absurd (f i j l b h)
    by (no n) (no k) = omega arith

module _ {g : Setting} {first next n : ℕ} {ss : List Slot} (has-rooms : n ≡ rooms g) where
  pub sound_tested : Sound (table_of g first next ss) → (i : ℕ) → i < slots → Tested first next n ss i
  sound_tested s i l = record {
    alone = λ u. record {
      range = record {
        number_least = s.number_least i l u;
        number_most = s.number_most i l u;
        block_most = s.block_most i l u;
        len_least = s.len_least i l u;
        len_most = s.len_most i l u;
        ends = s.ends i l u;
      };
      befores_other = s.befores_other i l u;
      room_most = room_below (slot_at ss i).state n (rw has-rooms (some_room g)) (λ r e. rw has-rooms (s.room_most i r l e));
    };
    number = λ u j b v. let q = s.numbers_differ j i (omega arith) l v.0 u v.1 in omega arith;
    room = λ j r b e f. let q = s.rooms_differ i j r l (omega arith) e f in omega arith;
  }

  -- all befores m of a sound table are slots in use
  module _ {m u : ℕ} (befores : m ≡ gathered (follows ss) slots) (is-used : u ≡ set_of (used ss)) where
    pub sound_within : Sound (table_of g first next ss) → within m u ≡ true
    sound_within s = at_within m u (λ k l h.
        let z = gathered_only (follows ss) befores k l h in
        let w = and-true (used ss z.0) _ z.2 in
        has_of (used ss) u k is-used l ∙ s.befores_used z.0 k z.1 l w.0 w.1)

    pub tested_sound : HeaderInRange first next → ((i : ℕ) → i < slots → Tested first next n ss i) → within m u ≡ true → Sound (table_of g first next ss)
    tested_sound h t inside = record {
      first_least = h.first_least;
      first_most = h.first_most;
      next_least = h.next_least;
      next_most = h.next_most;
      number_least = λ i l u. ((t i l).alone u).range.number_least;
      number_most = λ i l u. ((t i l).alone u).range.number_most;
      numbers_differ = λ i j l k u v e.
          below_same {P = λ i j. Carries ss (slot_at ss j).number i × Carries ss (slot_at ss i).number j}
          (λ i j l b h. (t i l).number h.0.0 j b h.1) (λ i j h. (h.1, h.0)) i j l k
          ((u, e), (v, sym e));
      block_most = λ i l u. ((t i l).alone u).range.block_most;
      len_least = λ i l u. ((t i l).alone u).range.len_least;
      len_most = λ i l u. ((t i l).alone u).range.len_most;
      ends = λ i l u. ((t i l).alone u).range.ends;
      befores_used = λ i j l k v h.
          sym (has_of (used ss) u j is-used k) ∙ within_at m u j inside k (gathered_all (follows ss) befores i j l k (true_and v h));
      befores_other = λ i l u. ((t i l).alone u).befores_other;
      room_most = λ i r l e. rw (sym has-rooms) (subst (λ (q : ℕ). q < n) (room_is (slot_at ss i).state r e)
          ((t i l).alone (has_room_used ss i r e)).room_most);
      rooms_differ = λ i j r l k e f.
          below_same {P = λ i j. HasRoom ss i r × HasRoom ss j r} (λ i j l b h. (t i l).room j r b h.0 h.1) (λ i j h. (h.1, h.0)) i j l k (e, f);
    }

module _ {g : Setting} {first next : ℕ} {ss : List Slot} where
  -- the verdict on a table that is not sound
  pub not_sound : (Sound (table_of g first next ss) → ⊥) → IsVerdict g first next ss None
  not_sound n = record { unsound = λ e. n; sound = λ u e. absurd (none-some u e) }

  -- the same where a slot fails the tests
  pub fails : {n i : ℕ} → n ≡ rooms g → i < slots → (Tested first next n ss i → ⊥) → IsVerdict g first next ss None
  fails has-rooms l n = not_sound (λ s. n (sound_tested has-rooms s _ l))

  -- the verdict where all the slots are passed
  pub judged : {u : InUse} (b : Bool) → (b ≡ true → SoundWith g first next ss u) → (b ≡ false → Sound (table_of g first next ss) → ⊥)
      → IsVerdict g first next ss (then_some b u)
  judged {u} true f n = record { unsound = λ e. absurd (none-some u (sym e)); sound = λ v e. subst (SoundWith g first next ss) (same_Some u v e) (f refl) }
  judged false f n = not_sound (n refl)
