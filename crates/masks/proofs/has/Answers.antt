-- `masks::has` meets its contract: past slot 63 a mask has no digit, and below it `>>` and `&` read the digit. Assumes nothing.
use Prim.Native.Nat.{ℕ}
use mathlib.Core.Path.{ap}
use native.Mathlib.Omega.{arith}
use lib.Dec.{eqb}
use Rattle.std.proofs.lemmas.Bool.Decides.{nat_tests}
use Rattle.masks.specs.Sets.{has}
use Rattle.masks.proofs.Digits.{shr_bit}
use Rattle.masks.proofs.Laws.{has_out}
use Rattle.masks.proofs.has.Goals as goal

pub returns-then-i-le-LAST_SLOT : goal.returns-then-i-le-LAST_SLOT
unfolding has
returns-then-i-le-LAST_SLOT c = ap (λ (x : ℕ). eqb x 1) (shr_bit c.args.set c.args.i)

pub returns-else-i-le-LAST_SLOT : goal.returns-else-i-le-LAST_SLOT
returns-else-i-le-LAST_SLOT c = rw (has_out c.args.set c.args.i c.ranges.set.fits (omega arith)) (grind (arith, nat_tests))
