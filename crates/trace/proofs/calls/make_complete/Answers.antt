-- `calls::make_complete` meets its contract. Assumes nothing.
use Rattle.trace.proofs.CallsMade.{complete_made}
use Rattle.trace.proofs.calls.make_complete.Goals as goal

pub returns : goal.returns
returns c =
    complete_made c.args.kept c.complete-completed.result c.complete-completed.ensures c.answer_number-number.ensures c.patches_on-landed.ensures.in-flight
    c.changes_left.ensures c.now_committed.ensures c.told.ensures
