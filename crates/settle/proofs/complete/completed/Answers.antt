-- `settle::complete::completed` meets its contract: a walk whose turn commits the slots of the set. Assumes nothing.
use Rattle.rules.specs.Complete.{landed_slots}
use Rattle.slots.proofs.Walked.{walk_ends}
use Rattle.settle.proofs.complete.completed.Goals as goal

pub returns : goal.returns
unfolding landed_slots
returns c = walk_ends c.loop-i.invariant c.loop-i-test.false
