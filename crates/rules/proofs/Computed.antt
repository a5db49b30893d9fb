-- Tests that compute, each shown to decide a word of the rules: what the worked rows are shown with. Nothing that is promised rests on them.
use Prim.Native.Nat.{ℕ, ◌≤◌, ◌<◌}
use mathlib.Core.Path.{◌≡◌, refl, sym, ap, subst, ◌∙◌}
use mathlib.Core.Bool.{Bool, true, false, ◌&&◌, not}
use mathlib.Core.List.{List, [], ◌∷◌}
use mathlib.Core.Logic.{⊎_elim}
use borrow.Author.Tests.{eqb-true, leb-true, ltb-true, not-false}
use lib.Dec.{eqb, leb, ltb}
use Rattle.masks.specs.Sets.{some_below}
use Rattle.masks.proofs.Laws.{none_at}
use Rattle.ground.proofs.Decided.{clash, and-true, or-true}
use Rattle.rules.specs.declared.Slot.{Slot}
use Rattle.rules.specs.declared.Setting.{Setting}
use Rattle.rules.specs.Sizes.{slots}
use Rattle.rules.specs.Settings.{all_soft}
use Rattle.rules.specs.Slots.{has_room}
use Rattle.rules.specs.Table.{Table, slot_at, used, waits_on, Issued}
use Rattle.masks.specs.Lowest.{Lowest}
use Rattle.rules.specs.Create.{Change, FreeSlot, FreeRoom, is_in, holds_back, WouldBeHard, LowestNumbered}
use native.Mathlib.Omega.{arith}
use Rattle.rules.specs.Refusals.{NamesUnissued}

-- ---- create

-- every number of the list was issued
unfoldable pub all_issued : Table → List ℕ → Bool
all_issued t [] = true
all_issued t (n ∷ l) = (leb 1 n && ltb n t.next) && all_issued t l

pub issued : (t : Table) (l : List ℕ) (n : ℕ) → all_issued t l ≡ true → is_in n l ≡ true → Issued t.next n
unfolding all_issued is_in
issued t [] n a e = absurd (clash e refl)
issued t (m ∷ l) n a e =
    let w = and-true (leb 1 m && ltb m t.next) (all_issued t l) a in
    let v = and-true (leb 1 m) (ltb m t.next) w.0 in
    let low = leb-true 1 m v.0 in
    let high = ltb-true m t.next v.1 in
    ⊎_elim
    (λ q. subst (Issued t.next) (sym (eqb-true n m q)) (omega arith, omega arith))
    (λ q. issued t l n w.1 q)
    (or-true (eqb n m) (is_in n l) e)

pub names_issued : (t : Table) (c : Change) → all_issued t c.named ≡ true → NamesUnissued t c → ⊥
names_issued t c a u = u.2 (issued t c.named u.0 a u.1)

pub lowest_free : (ss : List Slot) (j : ℕ) → j < slots → used ss j ≡ false → some_below (λ i. not (used ss i)) j ≡ false → Lowest slots (FreeSlot ss) j
lowest_free ss j l f p = record { within = l; holds = f; least = λ i m e. clash (not-false (used ss i) (none_at (λ i. not (used ss i)) j i p m)) e }

-- a patch that waits on its block while no other does is the lowest-numbered one
pub only_waiting : (ss : List Slot) (b j : ℕ) → j < slots → waits_on ss b j ≡ true → some_below (λ i. waits_on ss b i && not (eqb i j)) slots ≡ false
    → LowestNumbered ss b j
only_waiting ss b j l w e = record {
  is_slot = l;
  waits = w;
  lowest = λ i m v.
      let q = eqb-true i j (not-false (eqb i j) (and-false v (none_at (λ i. waits_on ss b i && not (eqb i j)) slots i e m))) in
      subst (λ (x : ℕ). (slot_at ss j).number ≤ (slot_at ss x).number) (sym q) (omega arith);
}
  where
    and-false : {a c : Bool} → a ≡ true → (a && c) ≡ false → c ≡ false
    and-false {a} {c} p q = sym (ap (λ (x : Bool). x && c) p) ∙ q

unfoldable pub soft_test : List Slot → ℕ → Bool
soft_test ss b = some_below (λ k. some_below (holds_back ss b k) slots) slots

pub hard_tested : (g : Setting) (ss : List Slot) (b : ℕ) → all_soft g ≡ false → soft_test ss b ≡ false → WouldBeHard g ss b
unfolding soft_test
hard_tested g ss b n e = record {
  not_all_soft = n;
  nobody_holds = λ k i l m. none_at (holds_back ss b k) slots i (none_at (λ k. some_below (holds_back ss b k) slots) slots k e l) m;
}

-- a patch on another block that holds a waiting one back makes the new patch soft
pub held_back : (g : Setting) (ss : List Slot) (b k i : ℕ) → k < slots → i < slots → holds_back ss b k i ≡ true → WouldBeHard g ss b → ⊥
held_back g ss b k i l m h hard = clash h (hard.nobody_holds k i l m)

pub room_free : (ss : List Slot) (r : ℕ) → some_below (λ i. has_room (slot_at ss i).state r) slots ≡ false → FreeRoom ss r
room_free ss r e i l h = clash h (none_at (λ i. has_room (slot_at ss i).state r) slots i e l)
