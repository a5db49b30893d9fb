-- `from_bytes::slot_in` meets its contract: field by field. Assumes nothing.
use Rattle.std.proofs.Common.{◌+◌, ◌∙◌, ap₂}
use Rattle.layout.specs.Layout.{state_of, slot_in}
use Rattle.layout.proofs.Numbers.{read_8}
use Rattle.layout.proofs.RoundTrip.{same_slot}
use Rattle.layout.proofs.from_bytes.slot_in.Goals as goal

pub returns : goal.returns
unfolding slot_in
returns c =
    same_slot
    (c.state_of.ensures ∙ ap₂ state_of c.number_at.ensures c.number_at-2.ensures)
    c.number_at-3.ensures
    c.number_at-4.ensures
    c.number_at-5.ensures
    c.number_at-6.ensures
    (read_8 c.args.bytes.now (c.args.at + 24) c.from_le_bytes.ensures c.array_at.ensures)
