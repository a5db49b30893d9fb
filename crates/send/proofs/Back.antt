-- Of the slots left behind, the one with the highest number: that taking it back first and then the others is what back_down says. Assumes nothing.
use Prim.Native.Nat.{ℕ, ◌<◌, ◌^◌}
use mathlib.Core.Path.{◌≡◌, refl, sym, ap, ◌∙◌}
use mathlib.Core.Bool.{Bool, ◌&&◌, ◌||◌, not, and-false}
use mathlib.Core.List.{List}
use native.Mathlib.Omega.{arith}
use borrow.Author.Tests.{eq-eqb}
use lib.Dec.{eqb}
use Rattle.std.proofs.Common.{None}
use Rattle.masks.specs.Sets.{has, set_of, how_many}
use Rattle.ground.proofs.Decided.{clash, and-true}
use Rattle.masks.proofs.Laws.{has_none, has_of, has_slot, set_lt, size_less}
use Rattle.rules.specs.declared.Slot.{Slot}
use Rattle.rules.specs.Write.{taken_back, back_down}
use Rattle.rules.proofs.TakenBack.{numbers_nowhere, highest_first}
use Rattle.send.specs.Back.{Highest, HighestOr}

-- ---- a turn of the loop, and its end

module _ {ss : List Slot} {left top r : ℕ} (undo : List ℕ) (t : Highest ss left top 64 r) where
  -- rest is what is left behind without slot r
  module _ {one rest : ℕ} (eo : one ≡ set_of (λ k. has 0 k || eqb k r)) (er : rest ≡ set_of (λ k. has left k && not (has one k))) where
    but_one : (j : ℕ) → j < 64 → has rest j ≡ (has left j && not (eqb j r))
    but_one j k =
        let only : has one j ≡ eqb j r = has_of (λ k. has 0 k || eqb k r) one j eo k ∙ rw (has_none j) in
        has_of (λ k. has left k && not (has one k)) rest j er k ∙ ap (λ (x : Bool). has left j && not x) only

    pub highest_back : (block : List ℕ) → back_down ss (has left) undo 0 top block ≡ back_down ss (has rest) undo 0 top (taken_back ss undo r block)
    highest_back block =
        highest_first ss (has left) (has rest) undo r t.in_left (λ j k p e. t.lowest j k p e) but_one top block t.within t.low t.high

    pub rest_lt : rest < 2 ^ 64
    rest_lt = rw er (set_lt _)

    pub rest_less : left < 2 ^ 64 → how_many (has rest) 64 < how_many (has left) 64
    rest_less ll =
        size_less rest left rest_lt ll
        (λ j h. (and-true (has left j) _ (sym (but_one j (has_slot rest j rest_lt h)) ∙ h)).0)
        (λ e. clash t.in_left (sym (ap (λ (x : ℕ). has x r) e) ∙ but_one r t.within ∙ rw (eq-eqb r r refl) (and-false (has left r))))

pub none_back : (ss : List Slot) (left top : ℕ) (undo : List ℕ) → HighestOr ss left top 64 None → (block : List ℕ)
    → back_down ss (has left) undo 0 top block ≡ block
unfolding back_down
none_back ss left top undo t block = numbers_nowhere ss (has left) undo 0 0 top block (omega arith) (λ j k p a b. t j k p (omega arith))
