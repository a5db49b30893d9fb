-- Whether a new patch is hard or soft, and in which room, is one.
use Prim.Native.Nat.{ℕ}
use mathlib.Core.Path.{◌≡◌, refl, ap}
use mathlib.Core.List.{List}
use Rattle.rules.specs.declared.Hold.{Hold}
use Rattle.rules.specs.declared.Hold.TheVariants as hold
use Rattle.rules.specs.declared.Setting.{Setting}
use Rattle.rules.specs.declared.Slot.{Slot}
use Rattle.masks.proofs.Lowest.{lowest_one}
use Rattle.rules.specs.Create.{HoldOf}

pub hold_one : {g : Setting} {ss : List Slot} {b : ℕ} {h k : Hold} → HoldOf g ss b h → HoldOf g ss b k → h ≡ k
hold_one (HoldOf.hard p) (HoldOf.hard q) = refl
hold_one (HoldOf.hard p) (HoldOf.soft n r) = absurd (n p)
hold_one (HoldOf.soft n r) (HoldOf.hard p) = absurd (n p)
hold_one (HoldOf.soft n r) (HoldOf.soft m s) = ap hold.Soft (lowest_one r s)
