-- `calls::make_write` meets its contract. Assumes nothing.
use Rattle.trace.proofs.CallsMade.{write_made}
use Rattle.trace.proofs.calls.make_write.Goals as goal

pub returns : goal.returns
returns c =
    let a = c.args in
    write_made a.kept a.image.now a.undo.now c.write-written.result c.write-written.ensures c.answer_number-number.ensures c.write_more.ensures c.told.ensures
