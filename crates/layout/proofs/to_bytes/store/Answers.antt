-- `to_bytes::store` meets its contract: first, next and the slots, each right after the one before. Assumes nothing.
use Rattle.std.proofs.Common.{ℕ, ◌≤◌, ◌<◌, ◌*◌, ◌≡◌, refl, sym, ap, ◌∙◌, length, take, take_all, length-take-le, rules, arith}
use Rattle.rules.specs.Table.{slot_at}
use Rattle.spans.proofs.Laws.{splice_none, splice_whole, laid}
use Rattle.cache.specs.Seen.{seen}
use Rattle.layout.specs.Layout.{in_bytes, slot_bytes, slots_bytes, bytes_of}
use Rattle.layout.proofs.Numbers.{low_4, laid_as}
use Rattle.layout.proofs.Length.{stored_whole, stored_other}
use Rattle.layout.proofs.Laid.{length_slots, slots_more, length_table}
use Rattle.layout.proofs.to_bytes.store.Goals as goal

pub returns-then-bytes-ne-TABLE_BYTES : goal.returns-then-bytes-ne-TABLE_BYTES
returns-then-bytes-ne-TABLE_BYTES c = sym (stored_other _ _ c.if-bytes-ne-TABLE_BYTES.true)

pub loop-i-init : goal.loop-i-init
unfolding slots_bytes
loop-i-init c = record { is = sym (splice_none _ 8) }

pub loop-i-preserved : goal.loop-i-preserved
loop-i-preserved c =
    let slots = c.args.table.now.slots in
    let size : length slots ≡ 64 = search rules in
    let i = c.loop-i.i in
    let few : i ≤ length slots = omega (arith, size) in
    let more : i < length slots = omega (arith, size) in
    rw (slots_more slots i more)
    (laid (32 * i) (slot_bytes (slot_at slots i)) c.loop-i.invariant c.put_slot.ensures
    (sym (length_slots (take i slots) ∙ ap (λ (n : ℕ). 32 * n) (length-take-le i slots few))))

pub returns : goal.returns
unfolding in_bytes bytes_of
returns c =
    let w = c.args.bytes.now in
    let table = c.args.table.now in
    let slots = table.slots in
    let size : length slots ≡ 64 = search rules in
    let sized = c.if-bytes-ne-TABLE_BYTES.false in
    let all : slots_bytes (take c.loop-i.i slots) ≡ slots_bytes slots = ap slots_bytes (take_all c.loop-i.i slots (omega arith)) in
    let first = laid_as _ _ c.put.ensures (c.to_le_bytes.ensures ∙ low_4 table.first) in
    let next = laid_as _ _ c.put-2.ensures (c.to_le_bytes-2.ensures ∙ low_4 table.next) in
    let numbers = laid 4 (in_bytes 4 table.next) (record { is = first }) next refl in
    let whole = laid 8 (slots_bytes slots) numbers (laid_as _ _ c.loop-i.invariant.is all) refl in
    whole.is ∙ splice_whole w (bytes_of (seen table)) (length_table (seen table) size ∙ sym sized) ∙ sym (stored_whole w (seen table) sized)
