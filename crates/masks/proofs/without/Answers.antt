-- `masks::without` meets its contract: `&` with the complement keeps just the slots that are not gone. Assumes nothing.
use Prim.Native.Nat.{◌-◌, ◌^◌}
use mathlib.Core.Bool.{◌&&◌, not}
use native.Mathlib.Omega.{arith}
use lib.Bits.{bit_and, and_le_l}
use Rattle.masks.specs.Sets.{has}
use Rattle.masks.proofs.Laws.{is_set, has_without}
use Rattle.masks.proofs.without.Goals as goal

pub returns : goal.returns
returns c =
    let set = c.args.set in
    let gone = c.args.gone in
    is_set (bit_and set ((2 ^ 64 - 1) - gone)) (λ k. has set k && not (has gone k))
    (omega (arith, and_le_l set ((2 ^ 64 - 1) - gone), c.ranges.set.fits))
    (λ k l. has_without set gone k c.ranges.gone.fits l)
