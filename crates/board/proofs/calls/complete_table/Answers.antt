-- `calls::complete_table` meets its contract. Assumes nothing.
use mathlib.Core.Path.{◌∙◌}
use Rattle.std.proofs.lemmas.Result.{err_from_is_err_and}
use Rattle.cache.specs.Seen.{completion}
use Rattle.layout.proofs.Length.{read_whole, stored_whole}
use Rattle.board.proofs.Answers.{complete_granted_here, complete_refused_here}
use Rattle.board.proofs.calls.complete_table.Goals as goal

pub returns-in_err-completed : goal.returns-in_err-completed
returns-in_err-completed c =
    let table_here = c.requires in
    let p = err_from_is_err_and c.from_residual.result c.from_residual.ensures.1 in
    rw (p.1, p.2)
    (complete_refused_here (completion c.complete-completed.result) table_here (c.table_in.ensures ∙ read_whole _ table_here.size)
    c.complete-completed.ensures _ c.in_err-completed.was)

pub returns : goal.returns
returns c =
    let table_here = c.requires in
    complete_granted_here (completion c.complete-completed.result) table_here (c.table_in.ensures ∙ read_whole _ table_here.size)
    c.complete-completed.ensures c.in_ok-completed.was (c.store.ensures ∙ stored_whole _ _ table_here.size)
