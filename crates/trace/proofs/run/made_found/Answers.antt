-- `run::made_found` meets its contract. Assumes nothing.
use mathlib.Core.Path.{sym, ◌∙◌}
use native.Mathlib.Omega.{arith}
use Rattle.trace.specs.Seen.{run_of}
use Rattle.trace.proofs.Taken.{takes_found, stops_order}
use Rattle.trace.proofs.run.made_found.Goals as goal

pub returns-then-not-is_in_order : goal.returns-then-not-is_in_order
returns-then-not-is_in_order c =
    let a = c.args in
    let w = a.bytes.now in
    stops_order (run_of a.kept a.image.now a.undo.now) w a.found c.requires
    (sym (c.is_in_order.ensures w) ∙ c.if-not-is_in_order.true) _ (c.made_bad.ensures _ _)

pub returns : goal.returns
returns c =
    let a = c.args in
    let w = a.bytes.now in
    takes_found (run_of a.kept a.image.now a.undo.now) w (λ i l. omega (arith, c.type_inv.bytes i)) a.found c.requires
    (sym (c.is_in_order.ensures w) ∙ c.if-not-is_in_order.false) _ c.made_call.ensures
