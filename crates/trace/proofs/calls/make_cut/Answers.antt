-- `calls::make_cut` meets its contract. Assumes nothing.
use mathlib.Core.Path.{ap, ◌∙◌}
use Rattle.tally.specs.Counts.{plus, carried}
use Rattle.trace.proofs.CallsMade.{cut_made}
use Rattle.trace.proofs.calls.make_cut.Goals as goal

pub returns : goal.returns
returns c =
    let k = c.args.kept in
    let landed = c.carried-landed.ensures ∙ ap (carried k.changes) c.cut_landing.ensures in
    cut_made k (c.plus-number.ensures ∙ ap (plus k.committed) landed) c.told.ensures
