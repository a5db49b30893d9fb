-- `from_bytes::number_at` meets its contract. Assumes nothing.
use Rattle.layout.proofs.Numbers.{read_4}
use Rattle.layout.proofs.from_bytes.number_at.Goals as goal

pub returns : goal.returns
returns c = read_4 c.args.bytes.now c.args.at c.from_le_bytes.ensures c.array_at.ensures
