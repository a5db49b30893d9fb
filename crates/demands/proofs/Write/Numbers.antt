-- The numbers of a set of slots, as a write notes them: each is that of a slot of the set, and stands there once.
use Prim.Native.Nat.{ℕ, zero, suc, ◌≤◌, ◌<◌}
use native.Mathlib.Omega.{arith}
use mathlib.Core.Path.{◌≡◌, refl, sym, ◌∙◌, ap}
use mathlib.Core.Bool.{Bool, true, false, cond}
use mathlib.Core.List.{List, ◌∷◌}
use mathlib.Core.Logic.{◌≢◌, ◌⊎◌, inl, inr, ⊎_elim}
use borrow.Author.Tests.{eq-eqb, eqb-true}
use lib.Dec.{eqb}
use Rattle.masks.specs.Sets.{has}
use Rattle.ground.proofs.Decided.{clash, or-true, true_or_l, true_or_r}
use Rattle.rules.specs.declared.Slot.{Slot}
use Rattle.rules.specs.Sizes.{slots}
use Rattle.rules.specs.Table.{slot_at}
use Rattle.rules.specs.Create.{is_in}
use Rattle.ground.proofs.Decided.{same_or_other}
use Rattle.demands.specs.History.{numbers_below}
use Rattle.demands.specs.Demand3.{times_in}

module _ (ss : List Slot) (s n : ℕ) where
  -- a slot of the set, below k, with number n
  abbrev Source : ℕ → Type 0
  Source k = (i : ℕ) × (i < k) × (has s i ≡ true) × ((slot_at ss i).number ≡ n)

  pub number_in : (k : ℕ) → is_in n (numbers_below ss s k) ≡ true → (i : ℕ) × (i < k) × (has s i ≡ true) × ((slot_at ss i).number ≡ n)
  unfolding numbers_below is_in
  number_in zero e = absurd (clash e refl)
  number_in (suc k) e = go (has s k) refl e (λ f. number_in k f)
    where
      older : Source k → Source (suc k)
      older r = let l = r.1 in (r.0, omega arith, r.2, r.3)

      go : (v : Bool) → has s k ≡ v → is_in n (cond v ((slot_at ss k).number ∷ numbers_below ss s k) (numbers_below ss s k)) ≡ true
          → (is_in n (numbers_below ss s k) ≡ true → Source k) → Source (suc k)
      go true q f ih =
          ⊎_elim (λ p. (k, omega arith, q, sym (eqb-true n (slot_at ss k).number p))) (λ p. older (ih p))
          (or-true (eqb n (slot_at ss k).number) (is_in n (numbers_below ss s k)) f)
      go false q f ih = older (ih f)

  pub in_numbers : (k i : ℕ) → i < k → has s i ≡ true → (slot_at ss i).number ≡ n → is_in n (numbers_below ss s k) ≡ true
  unfolding numbers_below is_in
  in_numbers zero i l h e = absurd (omega arith)
  in_numbers (suc k) i l h e = go (has s k) refl (same_or_other i k) (λ m. in_numbers k i m h e)
    where
      go : (v : Bool) → has s k ≡ v → (i ≡ k) ⊎ (i ≢ k) → (i < k → is_in n (numbers_below ss s k) ≡ true)
          → is_in n (cond v ((slot_at ss k).number ∷ numbers_below ss s k) (numbers_below ss s k)) ≡ true
      go true q (inl p) ih =
          true_or_l (is_in n (numbers_below ss s k)) (eq-eqb n (slot_at ss k).number (sym e ∙ ap (λ (x : ℕ). (slot_at ss x).number) p))
      go true q (inr p) ih = true_or_r (eqb n (slot_at ss k).number) (ih (omega arith))
      go false q (inl p) ih = absurd (clash h (ap (has s) p ∙ q))
      go false q (inr p) ih = ih (omega arith)

  -- where the slots of the set have different numbers, each stands once
  module _ (differ : (i k : ℕ) → i < slots → k < slots → has s i ≡ true → has s k ≡ true → (slot_at ss i).number ≡ (slot_at ss k).number → i ≡ k) where
    -- and not at all below the slot that has it
    abbrev NotBelow : ℕ → List ℕ → Type 0
    NotBelow k l = (i : ℕ) → i < slots → k ≤ i → has s i ≡ true → (slot_at ss i).number ≡ n → times_in n l ≡ 0

    times_below : (k : ℕ) → k ≤ slots → (times_in n (numbers_below ss s k) ≤ 1) × NotBelow k (numbers_below ss s k)
    unfolding times_in numbers_below
    times_below zero l = (omega arith, λ i q p e f. refl)
    times_below (suc k) l = go (has s k) refl (eqb n (slot_at ss k).number) refl (times_below k (omega arith))
      where
        next : Bool → List ℕ
        next v = cond v ((slot_at ss k).number ∷ numbers_below ss s k) (numbers_below ss s k)

        go : (v : Bool) → has s k ≡ v → (u : Bool) → eqb n (slot_at ss k).number ≡ u
            → (times_in n (numbers_below ss s k) ≤ 1) × NotBelow k (numbers_below ss s k) → (times_in n (next v) ≤ 1) × NotBelow (suc k) (next v)
        go false p u q ih = (ih.0, λ i m o e f. ih.1 i m (omega arith) e f)
        go true p false q ih = let few = ih.0 in (rw q (omega arith), λ i m o e f. let none = ih.1 i m (omega arith) e f in rw q (omega arith))
        go true p true q ih =
            let here : (slot_at ss k).number ≡ n = sym (eqb-true n (slot_at ss k).number q) in
            let none = ih.1 k (omega arith) (omega arith) p here in
            (rw q (omega arith), λ i m o e f. let z = differ i k m (omega arith) e p (f ∙ sym here) in absurd (omega arith))

    pub number_once : times_in n (numbers_below ss s slots) ≤ 1
    number_once = (times_below slots (omega arith)).0
