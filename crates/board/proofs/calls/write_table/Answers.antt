-- `calls::write_table` meets its contract. Assumes nothing.
use mathlib.Core.Path.{◌∙◌}
use Rattle.std.proofs.lemmas.Result.{err_from_is_err_and}
use Rattle.cache.specs.Seen.{writing}
use Rattle.layout.proofs.Length.{read_whole, stored_whole}
use Rattle.board.proofs.Answers.{write_granted_here, write_refused_here}
use Rattle.board.proofs.calls.write_table.Goals as goal

pub returns-in_err-sent : goal.returns-in_err-sent
returns-in_err-sent c =
    let table_here = c.requires in
    let seen_here = c.table_in-came.ensures ∙ read_whole _ table_here.size in
    let p = err_from_is_err_and c.from_residual.result c.from_residual.ensures.1 in
    rw (p.1, p.2)
    (write_refused_here (writing c.write-written.result c.args.image.now c.args.undo.now c.write-written.new.handed) table_here
    seen_here c.write-written.ensures _ c.in_err-sent.was)

pub returns : goal.returns
returns c =
    let table_here = c.requires in
    let seen_here = c.table_in-came.ensures ∙ read_whole _ table_here.size in
    write_granted_here (writing c.write-written.result c.args.image.now c.args.undo.now c.write-written.new.handed) table_here
    seen_here c.write-written.ensures c.in_ok-sent.sent c.in_ok-sent.was
    (c.store.ensures ∙ stored_whole _ _ table_here.size)
