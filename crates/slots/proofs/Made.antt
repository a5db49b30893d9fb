-- An array that a closure makes, place by place, is the list by a definition that says of each place what the closure answers there. Callers of
-- `std::array::from_fn` cite this, here and in the crates above. Assumes nothing.
use Prim.Native.Nat.{ℕ, zero, suc, ◌+◌, ◌<◌}
use mathlib.Core.Path.{◌≡◌, subst, ◌∙◌}
use mathlib.Core.List.{List}
use native.Mathlib.Omega.{arith}
use native.Mathlib.Nat.{add-zero, zero-add}
use lib.ListN.{get_or}
use Rattle.std.specs.Array.{IsFromFnResult, IsFromFnResultFrom}
use Rattle.std.specs.Fn.{Called, Mut}
use Rattle.rules.specs.declared.Slot.{Slot}
use Rattle.rules.specs.Sizes.{slots}
use Rattle.rules.specs.Slots.{free_slot}
use Rattle.rules.specs.Table.{list_from, slots_by}
use Rattle.rules.proofs.SlotsBy.{list_is}

module _ {F A : Type 0} {g : Mut F (ℕ × Unit {0}) A} {f : F} (made : List A) (h : ℕ → A)
    (says : (i : ℕ) (y : A) (f' : F) → Called g f (i, tt) y f' → (f' ≡ f) × (y ≡ h i)) where
  at : (d : A) (n i k : ℕ) → IsFromFnResultFrom g f made i n → k < n → get_or made (i + k) d ≡ h (i + k)
  at d zero i k e l = absurd (omega arith)
  at d (suc n) i zero e l = rw (add-zero i) (e.2.1 d ∙ (says i e.1 e.0 e.3).1)
  at d (suc n) i (suc k) e l =
      let same : (i + 1) + k ≡ i + suc k = omega arith in
      let rest = subst (λ (q : F). IsFromFnResultFrom g q made (i + 1) n) (says i e.1 e.0 e.3).0 e.4 in
      subst (λ (j : ℕ). get_or made j d ≡ h j) same (at d n (i + 1) k rest (omega arith))

  pub made_is : (d : A) {n : ℕ} → IsFromFnResult g f made n → made ≡ list_from h 0 n
  made_is d {n} e = list_is d made h n e.long (λ i l. subst (λ (j : ℕ). get_or made j d ≡ h j) (zero-add i) (at d n 0 i e.each l))

-- 64 slots so made
pub slots_made : {F : Type 0} (g : Mut F (ℕ × Unit {0}) Slot) (f : F) (by : ℕ → Slot)
    (makes : (i : ℕ) (s : Slot) (q : F) → Called g f (i, tt) s q → (q ≡ f) × (s ≡ by i)) {ss : List Slot} → IsFromFnResult g f ss slots → ss ≡ slots_by by
slots_made g f by makes {ss} r = made_is ss by makes free_slot r
