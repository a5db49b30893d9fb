-- `slots::walks::numbers_of` meets its contract: the closure reads the number of each slot. Assumes nothing.
use Prim.Native.Nat.{ℕ}
use mathlib.Core.Path.{ap, ◌∙◌}
use mathlib.Core.List.{List}
use lib.ListN.{get_or}
use Rattle.std.proofs.Common.{rules, tests}
use Rattle.rules.specs.Sizes.{slots}
use Rattle.rules.specs.Table.{slot_at}
use Rattle.rules.proofs.SlotsBy.{at_by}
use Rattle.slots.proofs.Made.{made_is}
use Rattle.slots.proofs.walks.numbers_of.Goals as goal

pub returns : goal.returns
returns c =
    let numbers : ℕ → ℕ = λ k. (slot_at c.args.slots.now k).number in
    let items = c.from_fn.ensures.items in
    let made = made_is _ numbers (λ i y q k. search (rules, tests)) 0 items in
    record { count = items.long; same = λ i l. ap (λ (ns : List ℕ). get_or ns i 0) made ∙ at_by 0 numbers slots i l }
