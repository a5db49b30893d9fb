-- `accept::entry::would_be_hard` meets its contract: none of the slots holds the block's waiting patches back. Assumes nothing.
use mathlib.Core.Path.{sym, ◌∙◌}
use Rattle.std.proofs.Common.{rules, tests}
use Rattle.std.proofs.lemmas.Iterator.{cases_from_any, YieldsList-from_slice}
use Rattle.accept.specs.OneSlot.{HoldsBack}
use Rattle.accept.proofs.HeldBack.{hard_decided}
use Rattle.accept.proofs.entry.would_be_hard.Goals as goal

pub returns-then-not-all_soft : goal.returns-then-not-all_soft
returns-then-not-all_soft c =
    let a = c.args in
    hard_decided a.setting a.slots.now a.block c.requires c.any.result (sym c.all_soft.ensures ∙ c.if-not-all_soft.true) c.told-slots
    (cases_from_any _ _ _ (HoldsBack a.block a.waiting) (λ s. HoldsBack a.block a.waiting s → ⊥) c.any.ensures.ran (YieldsList-from_slice a.slots.now (cc))
    (λ x q k. search (rules, tests))
    (λ x q k. search (rules, tests)))
