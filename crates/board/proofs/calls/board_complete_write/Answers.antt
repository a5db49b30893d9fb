-- `calls::board_complete_write` meets its contract: both of its calls meet theirs. Assumes nothing.
use mathlib.Core.Path.{refl}
use borrow.Author.Rules.{rules}
use Rattle.rules.proofs.Refused.{refusal_not0}
use Rattle.board.proofs.Kept.{Bytes}
use Rattle.board.proofs.Joint.{joint_refused_here, table_between, joint_granted_here}
use Rattle.board.proofs.calls.board_complete_write.Goals as goal

pub returns-in-Err : goal.returns-in-Err
returns-in-Err c = rw c.number-in-Err.ensures (joint_refused_here c.if-not-is_table.ensures c.in-Err.ensures (refusal_not0 _))

pub write_table-requires : goal.write_table-requires
write_table-requires c =
    let bytes_here : Bytes c.args.table.now = λ i. search rules in
    table_between c.if-not-is_table.ensures c.in_default.ensures bytes_here refl

pub returns-in-Ok : goal.returns-in-Ok
returns-in-Ok c =
    let bytes_here : Bytes c.args.table.now = λ i. search rules in
    joint_granted_here c.if-not-is_table.ensures c.in_default.ensures bytes_here refl _ c.in-Ok.ensures

pub returns-in-Err-write_table : goal.returns-in-Err-write_table
returns-in-Err-write_table c =
    let bytes_here : Bytes c.args.table.now = λ i. search rules in
    rw c.number-in-Err-write_table.ensures
    (joint_granted_here c.if-not-is_table.ensures c.in_default.ensures bytes_here refl _ c.in-Err-write_table.ensures)
