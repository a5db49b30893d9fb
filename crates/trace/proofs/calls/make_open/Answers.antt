-- `calls::make_open` meets its contract. Assumes nothing.
use Rattle.trace.proofs.CallsMade.{open_made}
use Rattle.trace.proofs.calls.make_open.Goals as goal

pub returns : goal.returns
returns c = open_made c.args.kept c.open-opened.result c.open-opened.ensures c.answer_number-number.ensures c.told.ensures
