-- `masks::with_if` meets its contract: by cases of `goes`. Assumes nothing.
use mathlib.Core.Path.{sym}
use Rattle.masks.proofs.Laws.{with_none}
use Rattle.masks.proofs.with_if.Goals as goal

pub returns-else-goes : goal.returns-else-goes
returns-else-goes c = rw c.if-goes.false (sym (with_none c.args.set c.ranges.set.fits))
