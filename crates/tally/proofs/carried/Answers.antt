-- `tally::carried` meets its contract: what the chain gives is a fold over the slots of the set. Assumes nothing.
use mathlib.Core.Path.{refl, ◌∙◌}
use Rattle.std.proofs.Common.{rules, tests}
use Rattle.std.proofs.lemmas.Iterator.{YieldsList-from_range}
use Rattle.std.proofs.lemmas.Iterator.Consumers.{YieldsList-from_filter, fold_from_yields_List}
use Rattle.masks.specs.Sets.{has}
use Rattle.tally.proofs.Folded.{with_slot, fold_is}
use Rattle.tally.proofs.carried.Goals as goal

pub returns : goal.returns
returns c =
    let changes = c.args.changes.now in
    let set = c.args.set in
    fold_from_yields_List _ (with_slot changes set) 0 _ c.fold.ensures.ran
    (YieldsList-from_filter _ (has set) (YieldsList-from_range 0 64 64 (cc) refl) c.filter.ensures.closure (λ x b q k. search (rules, tests)))
    (λ t x b q k. search (rules, tests))
    ∙ fold_is changes set
