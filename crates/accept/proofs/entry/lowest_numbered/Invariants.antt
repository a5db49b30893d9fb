-- `accept::entry::lowest_numbered` meets its contract. The loop's invariant: of the slots passed that are in the set, the one kept has the lowest
-- number. Assumes nothing.
use Rattle.accept.specs.OneSlot.{LowestNumberedOr}
use Rattle.accept.proofs.entry.lowest_numbered.Given as goal

abbrev pub invariant-loop-i : goal.invariant-loop-i
invariant-loop-i l = LowestNumberedOr l.slots l.set l.i l.lowest
