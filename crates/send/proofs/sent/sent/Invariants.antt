-- `send::sent::sent` meets its contract: a walk whose turn sends the slot where the set has it. Assumes nothing.
use Rattle.masks.specs.Sets.{has}
use Rattle.rules.specs.Write.{sent_slot}
use Rattle.slots.proofs.Walked.{Walked}
use Rattle.send.proofs.sent.sent.Given as goal

abbrev pub invariant-loop-i : goal.invariant-loop-i
invariant-loop-i l = Walked (λ k. sent_slot (has l.set k)) l.slots l.s-items l.i
