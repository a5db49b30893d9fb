-- `tally::one_more` meets its contract: the closure gives what the definition gives each slot. Assumes nothing.
use mathlib.Core.Bool.{cond}
use lib.ListN.{get_or}
use Rattle.std.proofs.Common.{rules, tests}
use Rattle.slots.proofs.Made.{made_is}
use Rattle.tally.specs.Counts.{one_more, plus, holds_number}
use Rattle.tally.proofs.one_more.Goals as goal

pub returns : goal.returns
unfolding one_more
returns c =
    let a = c.args in
    made_is _ (λ k. cond (holds_number a.slots.now a.number k) (plus (get_or a.changes.now k 0) 1) (get_or a.changes.now k 0))
    (λ i y q k. search (rules, tests)) 0 c.from_fn.ensures.items
