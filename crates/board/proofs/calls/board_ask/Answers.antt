-- `calls::board_ask` meets its contract. Assumes nothing.
use mathlib.Core.Path.{◌∙◌}
use Rattle.rules.specs.declared.AskAnswer.TheVariants as ask
use Rattle.layout.proofs.Length.{read_whole}
use Rattle.board.proofs.Answers.{ask_here}
use Rattle.board.proofs.calls.board_ask.Goals as goal

pub returns-in-Refused : goal.returns-in-Refused
returns-in-Refused c =
    let table_here = c.if-not-is_table.ensures in
    rw c.number-in-Refused.ensures
    (ask_here c.ask.result (ask.Refused c.in-Refused.refusal) table_here (c.table_in.ensures ∙ read_whole _ table_here.size) c.ask.ensures c.in-Refused.is)

pub returns-in-Waiting : goal.returns-in-Waiting
returns-in-Waiting c =
    let table_here = c.if-not-is_table.ensures in
    ask_here c.ask.result ask.Waiting table_here (c.table_in.ensures ∙ read_whole _ table_here.size) c.ask.ensures c.in-Waiting.is

pub returns-in-InFlight : goal.returns-in-InFlight
returns-in-InFlight c =
    let table_here = c.if-not-is_table.ensures in
    ask_here c.ask.result ask.InFlight table_here (c.table_in.ensures ∙ read_whole _ table_here.size) c.ask.ensures c.in-InFlight.is

pub returns-in-Committed : goal.returns-in-Committed
returns-in-Committed c =
    let table_here = c.if-not-is_table.ensures in
    ask_here c.ask.result ask.Committed table_here (c.table_in.ensures ∙ read_whole _ table_here.size) c.ask.ensures c.in-Committed.is
