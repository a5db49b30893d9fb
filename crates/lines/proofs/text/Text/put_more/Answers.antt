-- `Text::put_more` meets its contract: nothing, a number, or a number and hard or soft right after it. Assumes nothing.
use Rattle.std.proofs.Common.{sym, ap, ◌∙◌, append_assoc}
use Rattle.lines.specs.Line.{more_text}
use Rattle.lines.proofs.Steps.{and_then, same_text, nothing_added}
use Rattle.lines.proofs.text.Text.put_more.Goals as goal

pub returns-in-Nothing-clause-adds : goal.returns-in-Nothing-clause-adds
unfolding more_text
returns-in-Nothing-clause-adds c = same_text (nothing_added c.args.self.now) (sym (ap more_text c.in-Nothing.is))

pub returns-in-Patches-clause-adds : goal.returns-in-Patches-clause-adds
unfolding more_text
returns-in-Patches-clause-adds c = same_text c.put_count.ensures.adds (sym (ap more_text c.in-Patches.is))

pub returns-in-Patch-clause-adds : goal.returns-in-Patch-clause-adds
unfolding more_text
returns-in-Patch-clause-adds c =
    let both = and_then c.put_count-in-Patch.ensures.adds (same_text c.put.ensures c.hold_text.ensures.text) in
    same_text both (sym (ap more_text c.in-Patch.is ∙ simp append_assoc))
