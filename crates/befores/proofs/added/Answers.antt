-- `befores::added` meets its contract. The loop's invariant: the set so far is that of the slots passed that are named and of another block.
-- Assumes nothing.
use mathlib.Core.Path.{◌≡◌, sym, ap, ◌∙◌}
use native.Mathlib.Omega.{arith}
use Rattle.masks.specs.Sets.{set_below}
use Rattle.masks.proofs.Laws.{below_none, with_if_below}
use Rattle.rules.specs.Create.{change_in, added}
use Rattle.befores.proofs.added.Goals as goal
use Rattle.befores.proofs.added.Invariants.{passes}

pub loop-i-init : goal.loop-i-init
loop-i-init c = sym (below_none _)

pub loop-i-preserved : goal.loop-i-preserved
loop-i-preserved c =
    let a = c.args in
    let p = passes a.slots.now (change_in a.change.now) in
    c.with_if-set.ensures ∙ with_if_below p c.loop-i.i _ _ c.loop-i.invariant c.loop-i-test.true c.elsewhere.ensures

pub returns : goal.returns
unfolding added
returns c =
    let e : c.loop-i.i ≡ 64 = omega arith in
    c.loop-i.invariant ∙ ap (set_below _) e
