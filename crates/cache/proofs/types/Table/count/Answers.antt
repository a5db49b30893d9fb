-- `Table::count` meets its contract. Assumes nothing.
use mathlib.Core.Path.{ap, ◌∙◌}
use lib.Count.{ones}
use Rattle.rules.specs.Table.{waits_on}
use Rattle.masks.proofs.SetSize.{ones_many}
use Rattle.cache.specs.Seen.{seen}
use Rattle.cache.proofs.Looks.{count_granted}
use Rattle.cache.proofs.types.Table.count.Goals as goal

pub returns : goal.returns
returns c =
    let a = c.args in
    rw (ap ones c.patches_on.ensures.waiting ∙ ones_many (waits_on a.self.slots a.block) 64)
    (count_granted (seen a.self) a.block c.in_default.ensures)
