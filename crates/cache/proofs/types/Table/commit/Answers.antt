-- `Table::commit` meets its contract. Assumes nothing.
use mathlib.Core.Path.{ap, ◌∙◌}
use mathlib.Core.List.{List}
use Rattle.std.proofs.lemmas.Result.{err_from_is_err_and}
use Rattle.rules.specs.declared.Slot.{Slot}
use Rattle.rules.specs.Table.{with_slots}
use Rattle.rules.specs.Complete.{landed_slots, completed_slots, completed}
use Rattle.slots.proofs.OnBlock.{some_flies, none_flies}
use Rattle.cache.specs.Seen.{seen}
use Rattle.cache.proofs.Sent.{complete-refused, complete_none, complete-granted}
use Rattle.cache.proofs.types.Table.commit.Goals as goal

pub returns-in_err-judge_block : goal.returns-in_err-judge_block
returns-in_err-judge_block c =
    let p = err_from_is_err_and c.from_residual.result c.from_residual.ensures.1 in
    rw (p.1, p.2) (complete-refused (seen c.args.self.now) c.args.block _ c.in_err-judge_block.ensures)

pub returns-then-landed-eq0 : goal.returns-then-landed-eq0
returns-then-landed-eq0 c =
    complete_none (seen c.args.self.now) c.args.block c.in_ok-judge_block.ensures (none_flies c.patches_on-on.ensures c.if-landed-eq0.true)

pub returns : goal.returns
unfolding completed completed_slots
returns c =
    let t = seen c.args.self.now in
    let on = c.patches_on-on.ensures in
    rw (c.with_slots.ensures
    ∙ ap (λ (ss : List Slot). with_slots ss t) (c.completed.ensures ∙ ap (landed_slots c.args.self.now.slots) on.in-flight))
    (complete-granted t c.args.block c.in_ok-judge_block.ensures (some_flies on c.if-landed-eq0.false))
