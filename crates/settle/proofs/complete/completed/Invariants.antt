-- `settle::complete::completed` meets its contract: a walk whose turn commits the slots of the set. Assumes nothing.
use Rattle.masks.specs.Sets.{has}
use Rattle.rules.specs.Complete.{landed_slot}
use Rattle.slots.proofs.Walked.{Walked}
use Rattle.settle.proofs.complete.completed.Given as goal

abbrev pub invariant-loop-i : goal.invariant-loop-i
invariant-loop-i l = Walked (λ k. landed_slot l.landed (has l.landed k)) l.slots l.s-items l.i
