-- The slots with one of them set, said slot by slot. Assumes nothing.
use Prim.Native.Nat.{ℕ, ◌≤◌, ◌<◌}
use mathlib.Core.Path.{◌≡◌, refl, sym, ap, ◌∙◌}
use mathlib.Core.Bool.{cond}
use native.Mathlib.Decide.{ℕ_discrete}
use native.Mathlib.Omega.{arith}
use borrow.Author.Tests.{eq-eqb, ne_eqb}
use lib.Dec.{eqb}
use lib.ListN.{set, length-set}
use lib.Seq.{get_or-set_same, get_or-set_other, set_out}
use Rattle.rules.specs.declared.Slot.{Slot}
use Rattle.rules.specs.Sizes.{slots}
use Rattle.rules.specs.Slots.{free_slot}
use Rattle.rules.specs.Table.{slot_at, slots_by}
use Rattle.rules.proofs.SlotsBy.{slot_by, length_by, slots_are, slots_ext}

-- the slots with slot j set, whatever j is
pub set_by : (f : ℕ → Slot) (j : ℕ) (s : Slot) → set (slots_by f) j s ≡ slots_by (λ i. cond (eqb i j) s (f i))
set_by f j s = slots_are (set (slots_by f) j s) _ (length-set (slots_by f) j s ∙ length_by f) (λ i l. at i l (ℕ_discrete i j))
  where
    at : (i : ℕ) → i < slots → Dec (i ≡ j) → slot_at (set (slots_by f) j s) i ≡ cond (eqb i j) s (f i)
    at i l (yes e) = rw (← e, eq-eqb i i refl) (get_or-set_same (slots_by f) i s free_slot (omega (arith, length_by f)))
    at i l (no n) = rw (ne_eqb i j n) (get_or-set_other (slots_by f) j i s free_slot n ∙ slot_by f i l)

pub set_past : (f : ℕ → Slot) (j : ℕ) (s : Slot) → slots ≤ j → slots_by f ≡ slots_by (λ i. cond (eqb i j) s (f i))
set_past f j s l = sym (set_out (slots_by f) j s (omega (arith, length_by f))) ∙ set_by f j s

-- slot j set to what `by` makes of it
pub change_by : (f : ℕ → Slot) (by : Slot → Slot) (j : ℕ) → j < slots
    → set (slots_by f) j (by (slot_at (slots_by f) j)) ≡ slots_by (λ i. cond (eqb i j) (by (f i)) (f i))
change_by f by j l = set_by f j (by (slot_at (slots_by f) j)) ∙ slots_ext _ _ (λ i m. at i (ℕ_discrete i j))
  where
    at : (i : ℕ) → Dec (i ≡ j) → cond (eqb i j) (by (slot_at (slots_by f) j)) (f i) ≡ cond (eqb i j) (by (f i)) (f i)
    at i (yes e) = rw (e, eq-eqb j j refl) (ap by (slot_by f j l))
    at i (no n) = rw (ne_eqb i j n)

pub change_past : (f : ℕ → Slot) (by : Slot → Slot) (j : ℕ) → slots ≤ j → slots_by f ≡ slots_by (λ i. cond (eqb i j) (by (f i)) (f i))
change_past f by j l = slots_ext _ _ (λ i m. rw (ne_eqb i j (λ e. omega arith)))
