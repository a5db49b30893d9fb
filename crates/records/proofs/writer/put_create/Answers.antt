-- `writer::put_create` meets its contract: the parts of the record one after the other. Assumes nothing.
use Rattle.std.proofs.Common.{ℕ, ◌+◌, ◌*◌, ◌∙◌, refl, ap, List, length, zero-add, arith}
use Rattle.spans.specs.Spans.{splice}
use Rattle.spans.proofs.Laws.{Over, laid}
use Rattle.rules.specs.Create.{change_in}
use Rattle.records.specs.Record.{high_first, four_each}
use Rattle.records.proofs.Numbers.{high_1, high_2, laid_as}
use Rattle.records.proofs.Values.{length_each, create_laid}
use Rattle.records.proofs.writer.put_create.Goals as goal

pub returns-clause-laid : goal.returns-clause-laid
unfolding high_first
returns-clause-laid c =
    let buffer = c.args.buffer.now in
    let change = c.args.change.now in
    let bytes = change.bytes.now in
    let named = change.named.now in
    let n = 7 + 4 * length named in
    let fits = c.requires.sizes_fit in
    let past_head : Over buffer 0 _ _ = record { is = c.head.ensures } in
    let past_block = laid 3 (high_first 1 change.block) past_head (laid_as _ _ c.put.ensures (high_1 change.block fits.block)) refl in
    let past_offset = laid 4 (high_first 2 change.offset) past_block (laid_as _ _ c.put-2.ensures (c.to_be_bytes.ensures ∙ high_2 change.offset)) refl in
    let past_many = laid 6 (high_first 1 (length named)) past_offset (laid_as _ _ c.put-3.ensures (high_1 (length named) fits.many)) refl in
    let past_numbers = laid 7 (four_each named) past_many c.put_numbers.ensures.laid refl in
    let past_bytes = laid n bytes past_numbers (c.put_bytes.ensures.laid ∙ rw (zero-add n)) (omega (arith, length_each named)) in
    past_bytes.is ∙ ap (λ (ys : List ℕ). splice buffer 0 ys) (create_laid (change_in change) _ refl)
