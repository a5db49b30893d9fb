-- `send::sent::sent` meets its contract: a walk whose turn sends the slot where the set has it. Assumes nothing.
use Rattle.rules.specs.Write.{sent_slots}
use Rattle.slots.proofs.Walked.{walk_ends}
use Rattle.send.proofs.sent.sent.Goals as goal

pub returns : goal.returns
unfolding sent_slots
returns c = walk_ends c.loop-i.invariant c.loop-i-test.false
