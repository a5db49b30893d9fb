-- `tally::cleared` meets its contract: the closure gives what the definition gives each slot. Assumes nothing.
use mathlib.Core.Bool.{cond}
use lib.ListN.{get_or}
use Rattle.std.proofs.Common.{rules, tests}
use Rattle.masks.specs.Sets.{has}
use Rattle.slots.proofs.Made.{made_is}
use Rattle.tally.specs.Counts.{cleared}
use Rattle.tally.proofs.cleared.Goals as goal

pub returns : goal.returns
unfolding cleared
returns c =
    let a = c.args in
    made_is _ (λ k. cond (has a.set k) 0 (get_or a.changes.now k 0)) (λ i y q k. search (rules, tests)) 0 c.from_fn.ensures.items
