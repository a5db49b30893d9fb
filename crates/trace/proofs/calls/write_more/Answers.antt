-- `calls::write_more` meets its contract: as many digits 1 as members. Assumes nothing.
use Prim.Native.Nat.{ℕ, ◌^◌, ◌<◌}
use mathlib.Core.Path.{◌≡◌, sym, ap, ◌∙◌}
use native.Mathlib.Omega.{arith}
use lib.Count.{ones}
use Rattle.masks.specs.Sets.{has, how_many}
use Rattle.masks.proofs.Laws.{set_has}
use Rattle.masks.proofs.SetSize.{ones_many}
use Rattle.lines.specs.declared.types.More.TheVariants as more
use Rattle.trace.proofs.calls.write_more.Goals as goal

patches_of : (s : ℕ) → s < 2 ^ 64 → more.Patches (ones s) ≡ more.Patches (how_many (has s) 64)
patches_of s l = ap more.Patches (ap ones (sym (set_has s l)) ∙ ones_many (has s) 64)

pub returns-in-Ok : goal.returns-in-Ok
returns-in-Ok c = rw c.in-Ok.is (patches_of c.in-Ok.set (omega arith))
