-- `accept::accepted::joined` meets its contract: a walk whose turn turns the block's slots, and adds to the befores of slot j. Assumes nothing.
use lib.Dec.{eqb}
use Rattle.rules.specs.Create.{joined_slot}
use Rattle.slots.proofs.Walked.{Walked}
use Rattle.accept.proofs.accepted.joined.Given as goal

abbrev pub invariant-loop-i : goal.invariant-loop-i
invariant-loop-i l = Walked (λ k. joined_slot l.added l.block (eqb k l.j)) l.slots l.s-items l.i
