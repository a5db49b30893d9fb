-- `from_bytes::slots_in` meets its contract: the closure makes of each place what its bytes mean. Assumes nothing.
use Rattle.std.proofs.Common.{rules}
use Rattle.slots.proofs.Made.{slots_made}
use Rattle.layout.specs.Layout.{slot_in, slot_start, table_in}
use Rattle.layout.proofs.from_bytes.slots_in.Goals as goal

pub returns : goal.returns
unfolding table_in
returns c = slots_made _ _ (λ i. slot_in c.args.bytes.now (slot_start i)) (λ i s q r. search rules) c.from_fn.ensures.items
