-- `tally::cut_landing` meets its contract: the set of those of the slots passed that land. Assumes nothing.
use mathlib.Core.Path.{◌≡◌, sym, ap, ◌∙◌}
use native.Mathlib.Omega.{arith}
use Rattle.masks.specs.Sets.{set_below}
use Rattle.masks.proofs.Laws.{below_none, with_if_below}
use Rattle.tally.proofs.cut_landing.Goals as goal
use Rattle.tally.proofs.cut_landing.Invariants.{lands_at}

pub loop-i-init : goal.loop-i-init
loop-i-init c = sym (below_none _)

pub loop-i-preserved : goal.loop-i-preserved
loop-i-preserved c =
    let a = c.args in
    c.with_if-landed.ensures ∙ with_if_below (lands_at a.slots.now a.bits) c.loop-i.i _ _ c.loop-i.invariant c.loop-i-test.true c.lands.ensures

pub returns : goal.returns
returns c =
    let e : c.loop-i.i ≡ 64 = omega arith in
    c.loop-i.invariant ∙ ap (set_below _) e
