-- `masks::either` meets its contract: `|` has just the slots that one of the two has. Assumes nothing.
use mathlib.Core.Bool.{◌||◌}
use lib.Bits.{bit_or, or_lt}
use Rattle.masks.specs.Sets.{has}
use Rattle.masks.proofs.Laws.{is_set, has_or}
use Rattle.masks.proofs.either.Goals as goal

pub returns : goal.returns
returns c =
    let a = c.args.a in
    let b = c.args.b in
    is_set (bit_or a b) (λ k. has a k || has b k) (or_lt 64 a b c.ranges.a.fits c.ranges.b.fits) (λ k l. has_or a b k)
