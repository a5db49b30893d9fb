-- Taking back, number by number: a number that no patch left behind has is passed over, one that a patch has takes that patch back, the highest
-- number goes first, and only which slots are left behind counts. Assumes nothing.
use Prim.Native.Nat.{ℕ, zero, suc, ◌+◌, ◌≤◌, ◌<◌}
use mathlib.Core.Path.{◌≡◌, refl, sym, ap, ap₂, ◌∙◌, subst}
use mathlib.Core.Bool.{Bool, true, false, cond, ◌&&◌, not, and-false}
use mathlib.Core.List.{List}
use native.Mathlib.Nat.{add-zero, zero-add, add-suc}
use native.Mathlib.Decide.{ℕ_discrete}
use native.Mathlib.Omega.{arith}
use borrow.Author.Tests.{eq-eqb, ne_eqb, eqb-true, not-true}
use lib.Dec.{eqb}
use Rattle.ground.proofs.Decided.{clash, and-true, true_and, same_bool}
use Rattle.rules.specs.declared.Slot.{Slot}
use Rattle.rules.specs.Table.{slot_at}
use Rattle.rules.specs.Write.{taken_back, back_number, back_down}

-- ---- one number

module _ (ss : List Slot) (left : ℕ → Bool) (undo : List ℕ) where
  -- a step of back_number over a slot that has not the number, or is not left behind
  other_slot : (n i : ℕ) (block : List ℕ) → (left i ≡ true → (slot_at ss i).number ≡ n → ⊥)
      → back_number ss left undo n (suc i) block ≡ back_number ss left undo n i block
  unfolding back_number
  other_slot n i block f = go (left i && eqb (slot_at ss i).number n) refl
    where
      go : (v : Bool) → (left i && eqb (slot_at ss i).number n) ≡ v
          → cond v (taken_back ss undo i (back_number ss left undo n i block)) (back_number ss left undo n i block) ≡ back_number ss left undo n i block
      go true e = let p = and-true (left i) (eqb (slot_at ss i).number n) e in absurd (f p.0 (eqb-true (slot_at ss i).number n p.1))
      go false e = refl

  pub number_nowhere : (n i : ℕ) (block : List ℕ) → ((j : ℕ) → j < i → left j ≡ true → (slot_at ss j).number ≡ n → ⊥)
      → back_number ss left undo n i block ≡ block
  unfolding back_number
  number_nowhere n zero block f = refl
  number_nowhere n (suc i) block f =
      other_slot n i block (f i (omega arith)) ∙ number_nowhere n i block (λ j l. f j (omega arith))

  pub number_there : (r i : ℕ) (block : List ℕ) → r < i → left r ≡ true
      → ((j : ℕ) → j < i → left j ≡ true → (slot_at ss j).number ≡ (slot_at ss r).number → j ≡ r)
      → back_number ss left undo (slot_at ss r).number i block ≡ taken_back ss undo r block
  unfolding back_number
  number_there r zero block l e f = absurd (omega arith)
  number_there r (suc i) block l e f = elim (ℕ_discrete r i) [
    | yes q ↦ subst (λ (k : ℕ). back_number ss left undo (slot_at ss r).number (suc k) block ≡ taken_back ss undo r block) q
        (rw (e, eq-eqb (slot_at ss r).number (slot_at ss r).number refl)
        (ap (taken_back ss undo r)
        (number_nowhere (slot_at ss r).number r block (λ j k p h. let z = f j (omega arith) p h in omega arith))))
    | no d ↦ other_slot (slot_at ss r).number i block (λ p h. d (sym (f i (omega arith) p h)))
        ∙ number_there r i block (omega arith) e (λ j k. f j (omega arith))
  ]

  -- ---- all numbers

  -- numbers that no slot left behind has are passed over
  pub numbers_nowhere : (first m n : ℕ) (block : List ℕ) → m ≤ n
      → ((j : ℕ) → j < 64 → left j ≡ true → first + m ≤ (slot_at ss j).number → (slot_at ss j).number < first + n → ⊥)
      → back_down ss left undo first n block ≡ back_down ss left undo first m block
  unfolding back_down
  numbers_nowhere first m zero block l f = let e : m ≡ 0 = omega arith in rw e
  numbers_nowhere first m (suc n) block l f = elim (ℕ_discrete m (suc n)) [
    | yes q ↦ rw q
    | no d ↦ ap (back_down ss left undo first n) (number_nowhere (first + n) 64 block (λ j k p h. f j k p (omega arith) (omega arith)))
        ∙ numbers_nowhere first m n block (omega arith) (λ j k p g h. f j k p g (omega arith))
  ]

  -- where nobody has a number below `first`, taking back from number 0 on is taking back from `first` on
  pub from_first : (first n : ℕ) (block : List ℕ) → ((j : ℕ) → j < 64 → left j ≡ true → (slot_at ss j).number < first → ⊥)
      → back_down ss left undo 0 (first + n) block ≡ back_down ss left undo first n block
  unfolding back_down
  from_first first zero block f =
      rw (add-zero first) (numbers_nowhere 0 0 first block (omega arith) (λ j l p g h. f j l p (omega arith)))
  from_first first (suc n) block f =
      ap (λ (k : ℕ). back_down ss left undo 0 k block) (add-suc first n)
      ∙ ap (λ (k : ℕ). back_down ss left undo 0 (first + n) (back_number ss left undo k 64 block)) (zero-add (first + n))
      ∙ from_first first n (back_number ss left undo (first + n) 64 block) f

-- ---- another test

module _ (ss : List Slot) (left left' : ℕ → Bool) (undo : List ℕ) where
  -- of the slots with the number it passes the same
  number_ext : (n i : ℕ) (block : List ℕ) → ((j : ℕ) → j < i → (left j && eqb (slot_at ss j).number n) ≡ (left' j && eqb (slot_at ss j).number n))
      → back_number ss left undo n i block ≡ back_number ss left' undo n i block
  unfolding back_number
  number_ext n zero block f = refl
  number_ext n (suc i) block f =
      ap₂ (λ (v : Bool) (x : List ℕ). cond v (taken_back ss undo i x) x) (f i (omega arith)) (number_ext n i block (λ j l. f j (omega arith)))

  -- of the slots with a number from `first` to first + n - 1 it passes the same
  below_ext : (first n : ℕ) (block : List ℕ)
      → ((m j : ℕ) → m < n → j < 64 → (left j && eqb (slot_at ss j).number (first + m)) ≡ (left' j && eqb (slot_at ss j).number (first + m)))
      → back_down ss left undo first n block ≡ back_down ss left' undo first n block
  unfolding back_down
  below_ext first zero block f = refl
  below_ext first (suc n) block f =
      ap (back_down ss left undo first n) (number_ext (first + n) 64 block (λ j l. f n j (omega arith) l))
      ∙ below_ext first n (back_number ss left' undo (first + n) 64 block) (λ m j k l. f m j (omega arith) l)

  pub down_ext : (first n : ℕ) (block : List ℕ) → ((j : ℕ) → j < 64 → left j ≡ left' j)
      → back_down ss left undo first n block ≡ back_down ss left' undo first n block
  down_ext first n block f = below_ext first n block (λ m j k l. ap (λ (v : Bool). v && eqb (slot_at ss j).number (first + m)) (f j l))

  -- ---- it passes all but slot r, which is the lowest with its number

  module _ (r : ℕ) (here : left r ≡ true) (lowest : (j : ℕ) → j < r → left j ≡ true → (slot_at ss j).number ≡ (slot_at ss r).number → ⊥)
      (but : (j : ℕ) → j < 64 → left' j ≡ (left j && not (eqb j r))) where
    still_left : (j : ℕ) → j < 64 → left' j ≡ true → left j ≡ true
    still_left j l e = (and-true (left j) _ (sym (but j l) ∙ e)).0

    gone_left : left' r ≡ true → r < 64 → ⊥
    gone_left e l = clash (eq-eqb r r refl) (not-true (eqb r r) (and-true (left r) _ (sym (but r l) ∙ e)).1)

    others_left : (j : ℕ) → j < 64 → (j ≡ r → ⊥) → left j ≡ left' j
    others_left j l d = same_bool (left j) (left' j) (λ e. but j l ∙ true_and e (rw (ne_eqb j r d))) (still_left j l)

    -- slot r goes back before the others with its number
    number_first : (i : ℕ) (block : List ℕ) → r < i → i ≤ 64
        → back_number ss left undo (slot_at ss r).number i block ≡ back_number ss left' undo (slot_at ss r).number i (taken_back ss undo r block)
    unfolding back_number
    number_first zero block l m = absurd (omega arith)
    number_first (suc i) block l m = elim (ℕ_discrete r i) [
      | yes q ↦ subst (λ (k : ℕ). back_number ss left undo n (suc k) block ≡ back_number ss left' undo n (suc k) (taken_back ss undo r block)) q at_r
      | no d ↦ ap₂ (λ (v : Bool) (x : List ℕ). cond (v && eqb (slot_at ss i).number n) (taken_back ss undo i x) x)
          (others_left i (omega arith) (λ q. d (sym q))) (number_first i block (omega arith) (omega arith))
    ]
      where
        n : ℕ
        n = (slot_at ss r).number

        below : List ℕ
        below = back_number ss left undo n r block

        at_r : back_number ss left undo n (suc r) block ≡ back_number ss left' undo n (suc r) (taken_back ss undo r block)
        at_r =
            ap (λ (v : Bool). cond v (taken_back ss undo r below) below) (true_and here (eq-eqb n n refl))
            ∙ ap (taken_back ss undo r) (number_nowhere ss left undo n r block lowest)
            ∙ sym (other_slot ss left' undo n r (taken_back ss undo r block) (λ e q. gone_left e (omega arith))
            ∙ number_nowhere ss left' undo n r (taken_back ss undo r block) (λ j k e. lowest j k (still_left j (omega arith) e)))

    -- slots with another number are passed alike
    other_number : (n j : ℕ) → j < 64 → ((slot_at ss r).number ≡ n → ⊥) → (left j && eqb (slot_at ss j).number n) ≡ (left' j && eqb (slot_at ss j).number n)
    other_number n j l d = elim (ℕ_discrete j r) [
      | yes q ↦ rw (ne_eqb (slot_at ss j).number n (λ e. d (ap (λ (k : ℕ). (slot_at ss k).number) (sym q) ∙ e)))
          (and-false (left j) ∙ sym (and-false (left' j)))
      | no q ↦ ap (λ (v : Bool). v && eqb (slot_at ss j).number n) (others_left j l q)
    ]

    -- where slot r has the highest number below `top`, it goes back first of all
    pub highest_first : (top : ℕ) (block : List ℕ) → r < 64 → (slot_at ss r).number < top
        → ((j : ℕ) → j < 64 → left j ≡ true → (slot_at ss j).number < top → (slot_at ss j).number ≤ (slot_at ss r).number)
        → back_down ss left undo 0 top block ≡ back_down ss left' undo 0 top (taken_back ss undo r block)
    unfolding back_down
    highest_first top block l m high =
        numbers_nowhere ss left undo 0 (suc n) top block m (λ j k p a b. let z = high j k p (omega arith) in omega arith)
        ∙ ap (λ (k : ℕ). back_down ss left undo 0 n (back_number ss left undo k 64 block)) (zero-add n)
        ∙ ap (back_down ss left undo 0 n) (number_first 64 block l (omega arith))
        ∙ below_ext 0 n (back_number ss left' undo n 64 back) (λ k j h i. other_number (0 + k) j i (λ e. omega arith))
        ∙ sym (ap (λ (k : ℕ). back_down ss left' undo 0 n (back_number ss left' undo k 64 back)) (zero-add n))
        ∙ sym (numbers_nowhere ss left' undo 0 (suc n) top back m (λ j k p a b. let z = high j k (still_left j k p) (omega arith) in omega arith))
      where
        n : ℕ
        n = (slot_at ss r).number

        back : List ℕ
        back = taken_back ss undo r block
