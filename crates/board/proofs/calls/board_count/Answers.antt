-- `calls::board_count` meets its contract. Assumes nothing.
use mathlib.Core.Path.{◌∙◌}
use Rattle.std.specs.Prelude.{Ok, Err}
use Rattle.layout.proofs.Length.{read_whole}
use Rattle.board.proofs.Answers.{count_here}
use Rattle.board.proofs.calls.board_count.Goals as goal

pub returns-in-Ok : goal.returns-in-Ok
returns-in-Ok c =
    let table_here = c.if-not-is_table.ensures in
    count_here c.count.result (Ok c.in-Ok.waiting) table_here (c.table_in.ensures ∙ read_whole _ table_here.size) c.count.ensures c.in-Ok.is

pub returns-in-Err : goal.returns-in-Err
returns-in-Err c =
    let table_here = c.if-not-is_table.ensures in
    rw c.number-in-Err.ensures
    (count_here c.count.result (Err c.in-Err.refusal) table_here (c.table_in.ensures ∙ read_whole _ table_here.size) c.count.ensures c.in-Err.is)
