-- `spans::copy` meets its contract. The loop has laid the first j bytes; it ends where either side does, and what is left of n is
-- not there to be laid or falls past the end. Assumes nothing.
use mathlib.Core.Path.{◌≡◌}
use lib.ListN.{length}
use Rattle.spans.specs.Spans.{splice, part}
use Rattle.spans.proofs.copy.Given as goal

abbrev pub invariant-loop-j : goal.invariant-loop-j
invariant-loop-j l = (l.dst ≡ splice l.initial.dst l.at (part l.src l.from l.j)) × (length l.dst ≡ length l.initial.dst)
