-- The walk for the lowest number among the slots of a set: how a turn keeps it. Assumes nothing.
use Prim.Native.Nat.{ℕ, ◌+◌, ◌≤◌, ◌<◌}
use mathlib.Core.Path.{◌≡◌, refl, sym, ◌∙◌}
use mathlib.Core.Bool.{true}
use mathlib.Core.List.{List}
use native.Mathlib.Omega.{arith}
use borrow.Author.Count.{below_more}
use Rattle.std.proofs.Common.{Option, Some, None, IsSomeAnd}
use Rattle.masks.specs.Sets.{has, set_of}
use Rattle.masks.proofs.Laws.{has_of}
use Rattle.rules.specs.declared.Slot.{Slot}
use Rattle.rules.specs.Sizes.{slots}
use Rattle.rules.specs.Table.{slot_at, waits_on, Waits}
use Rattle.accept.specs.OneSlot.{Best, LowestNumberedOr}
use Rattle.accept.specs.Asked.{FirstNumbered}

module _ (ss : List Slot) (m n : ℕ) where
  -- the slot is not in the set, or its number is not below that of the best so far
  pub lowest_stays : (r : Option ℕ) → LowestNumberedOr ss m n r
      → (has m n ≡ true → IsSomeAnd r (λ b. (slot_at ss b).number ≤ (slot_at ss n).number)) → LowestNumberedOr ss m (n + 1) r
  lowest_stays None t f = below_more (λ (j : ℕ). has m j ≡ true → ⊥) n t f
  lowest_stays (Some b) t f = record {
    within = omega (arith, t.within);
    in_set = t.in_set;
    lowest = below_more (λ (j : ℕ). has m j ≡ true → (slot_at ss b).number ≤ (slot_at ss j).number) n t.lowest f;
    first = t.first;
  }

  pub lowest_changes : (r : Option ℕ) → LowestNumberedOr ss m n r → has m n ≡ true
      → ((b : ℕ) → r ≡ Some b → (slot_at ss n).number < (slot_at ss b).number) → Best ss m (n + 1) n
  lowest_changes r t p below = record {
    within = omega arith;
    in_set = p;
    lowest = below_more (λ (j : ℕ). has m j ≡ true → (slot_at ss n).number ≤ (slot_at ss j).number) n
        (λ j k q. let l = above r t below j k q in omega (arith, l))
        (λ q. omega arith);
    first = above r t below;
  }
    where
      above : (o : Option ℕ) → LowestNumberedOr ss m n o → ((b : ℕ) → o ≡ Some b → (slot_at ss n).number < (slot_at ss b).number)
          → (j : ℕ) → j < n → has m j ≡ true → (slot_at ss n).number < (slot_at ss j).number
      above None t below j k q = absurd (t j k q)
      above (Some b) t below j k q = let l = t.lowest j k q in omega (arith, l, below b refl)

-- among the block's waiting patches it is the first of the lowest-numbered ones
module _ (ss : List Slot) (b : ℕ) {m : ℕ} (is-waiting : m ≡ set_of (waits_on ss b)) where
  waits : (i : ℕ) → i < slots → has m i ≡ waits_on ss b i
  waits i l = has_of (waits_on ss b) m i is-waiting l

  pub first_numbered : {r : ℕ} → Best ss m slots r → FirstNumbered ss b r
  first_numbered {r} best = record {
    numbered = record {
      is_slot = best.within;
      waits = sym (waits r best.within) ∙ best.in_set;
      lowest = λ i l w. best.lowest i l (waits i l ∙ w);
    };
    first = λ i l w. let s : i < slots = omega (arith, best.within) in best.first i l (waits i s ∙ w);
  }

  pub none_wait : LowestNumberedOr ss m slots None → Waits ss b → ⊥
  none_wait none w = none w.0 w.1 (waits w.0 w.1 ∙ w.2)
