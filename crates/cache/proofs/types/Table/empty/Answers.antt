-- `Table::empty` meets its contract: 64 free slots. Assumes nothing.
use Rattle.rules.specs.Table.{list_from}
use Rattle.cache.proofs.types.Table.empty.Goals as goal

pub returns : goal.returns
unfolding list_from
returns c = rw c.free.ensures
