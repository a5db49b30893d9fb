-- `accept::accepted::accepted` meets its contract: a walk whose turn sets slot j, and turns the others as the creation does. Assumes nothing.
use Rattle.rules.specs.Create.{accepted_slots}
use Rattle.slots.proofs.Walked.{walk_ends}
use Rattle.accept.proofs.accepted.accepted.Goals as goal

pub returns : goal.returns
unfolding accepted_slots
returns c = walk_ends c.loop-i.invariant c.loop-i-test.false
