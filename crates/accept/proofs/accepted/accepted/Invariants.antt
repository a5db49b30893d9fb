-- `accept::accepted::accepted` meets its contract: a walk whose turn sets slot j, and turns the others as the creation does. Assumes nothing.
use lib.Dec.{eqb}
use Rattle.rules.specs.Create.{accepted_slot}
use Rattle.slots.proofs.Walked.{Walked}
use Rattle.accept.proofs.accepted.accepted.Given as goal

abbrev pub invariant-loop-i : goal.invariant-loop-i
invariant-loop-i l = Walked (λ k. accepted_slot l.patch l.hold (eqb k l.j)) l.slots l.s-items l.i
