-- `to_bytes::put_slot` meets its contract: seven numbers, each right after the one before. Assumes nothing.
use Rattle.std.proofs.Common.{◌∙◌, refl, ap}
use Rattle.spans.proofs.Laws.{laid}
use Rattle.rules.specs.Slots.{room_of}
use Rattle.layout.specs.Layout.{in_bytes, slot_bytes}
use Rattle.layout.proofs.Numbers.{low_4, low_8, laid_as}
use Rattle.layout.proofs.to_bytes.put_slot.Goals as goal

pub returns : goal.returns
unfolding in_bytes slot_bytes
returns c =
    let s = c.args.slot in
    let tag = laid_as _ _ c.put.ensures (c.to_le_bytes.ensures ∙ low_4 c.tag_of.result ∙ ap (in_bytes 4) c.tag_of.ensures) in
    let room = laid_as _ _ c.put-2.ensures (c.to_le_bytes-2.ensures ∙ low_4 c.room_of.result ∙ ap (in_bytes 4) c.room_of.ensures) in
    (laid 24 (in_bytes 8 s.befores)
    (laid 20 (in_bytes 4 s.len)
    (laid 16 (in_bytes 4 s.offset)
    (laid 12 (in_bytes 4 s.block)
    (laid 8 (in_bytes 4 s.number)
    (laid 4 (in_bytes 4 (room_of s.state)) (record { is = tag }) room refl)
    (laid_as _ _ c.put-3.ensures (c.to_le_bytes-3.ensures ∙ low_4 s.number)) refl)
    (laid_as _ _ c.put-4.ensures (c.to_le_bytes-4.ensures ∙ low_4 s.block)) refl)
    (laid_as _ _ c.put-5.ensures (c.to_le_bytes-5.ensures ∙ low_4 s.offset)) refl)
    (laid_as _ _ c.put-6.ensures (c.to_le_bytes-6.ensures ∙ low_4 s.len)) refl)
    (laid_as _ _ c.put-7.ensures (c.to_le_bytes-7.ensures ∙ low_8 s.befores)) refl).is
