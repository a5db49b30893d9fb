-- `accept::accepted::joined` meets its contract: a walk whose turn turns the block's slots, and adds to the befores of slot j. Assumes nothing.
use Rattle.slots.proofs.Walked.{walk_ends}
use Rattle.accept.proofs.accepted.joined.Goals as goal

pub returns : goal.returns
returns c = walk_ends c.loop-i.invariant c.loop-i-test.false
