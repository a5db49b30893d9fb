-- `create::make_create` meets its contract. Assumes nothing.
use Rattle.records.specs.Reader.{call_in}
use Rattle.trace.proofs.CallsMade.{create_made}
use Rattle.trace.proofs.create.make_create.Goals as goal

pub returns : goal.returns
unfolding call_in
returns c =
    let a = c.args in
    create_made a.kept a.image.now a.undo.now c.created-created.result c.created-created.ensures c.answer_number-number.ensures c.create_more.ensures
    c.changes_after.ensures c.told.ensures
