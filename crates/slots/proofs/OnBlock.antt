-- What the sets of a block's patches say where they are empty and where they are not. Assumes nothing.
use Prim.Native.Nat.{ℕ}
use mathlib.Core.Path.{◌≡◌}
use mathlib.Core.List.{List}
use Rattle.masks.proofs.Laws.{set_none, set_some}
use Rattle.rules.specs.declared.Slot.{Slot}
use Rattle.rules.specs.Table.{waits_on, flies_on, Flies, Waits}
use Rattle.slots.specs.declared.types.Patches.{Patches}
use Rattle.slots.specs.Walks.{PatchesOn}

module _ {ss : List Slot} {b : ℕ} {p : Patches} (on : PatchesOn ss b p) where
  pub some_flies : (p.in_flight ≡ 0 → ⊥) → Flies ss b
  some_flies = set_some (flies_on ss b) on.in-flight

  pub none_flies : p.in_flight ≡ 0 → Flies ss b → ⊥
  none_flies e f = set_none (flies_on ss b) on.in-flight e f.0 f.1 f.2

  pub some_waits : (p.waiting ≡ 0 → ⊥) → Waits ss b
  some_waits = set_some (waits_on ss b) on.waiting

  pub none_waits : p.waiting ≡ 0 → Waits ss b → ⊥
  none_waits e w = set_none (waits_on ss b) on.waiting e w.0 w.1 w.2
