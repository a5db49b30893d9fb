-- `send::hand_out::take_all_back` meets its contract. The loop's invariant: what is left to do to the block now gives what all gives to the block
-- as it came. The measure is how many patches are left. Assumes nothing.
use mathlib.Core.Path.{sym, ap, ◌∙◌}
use Rattle.rules.specs.Write.{taken_back, back_down}
use Rattle.send.proofs.Back.{highest_back, rest_lt, rest_less, none_back}
use Rattle.send.proofs.hand_out.take_all_back.Goals as goal

pub loop-i-smaller : goal.loop-i-smaller
loop-i-smaller c = rest_less c.args.undo.now c.in-Some.ensures c.with.ensures c.without-rest.ensures c.loop-i.invariant.1

pub loop-i-preserved : goal.loop-i-preserved
unfolding taken_back
loop-i-preserved c =
    let a = c.args in
    let inv = c.loop-i.invariant in
    let gone = c.with.ensures in
    let rest = c.without-rest.ensures in (
      c.take_back.auto.out ∙ inv.0,
      rest_lt a.undo.now c.in-Some.ensures gone rest,
      ap (back_down a.slots.now _ a.undo.now 0 _) c.take_back.ensures
          ∙ sym (highest_back a.undo.now c.in-Some.ensures gone rest _)
          ∙ inv.2,
    )

pub returns : goal.returns
returns c = sym (none_back _ _ _ c.args.undo.now c.in_default.ensures _) ∙ c.loop-i.invariant.2
