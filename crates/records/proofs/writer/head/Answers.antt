-- `writer::head` meets its contract: the length right after the tag. Assumes nothing.
use Rattle.std.proofs.Common.{◌∙◌, ap}
use Rattle.spans.proofs.Laws.{laid}
use Rattle.records.specs.Record.{high_first}
use Rattle.records.proofs.Numbers.{high_1, high_2, laid_as, length_1}
use Rattle.records.proofs.writer.head.Goals as goal

pub returns : goal.returns
returns c =
    let n = c.args.n in
    let tag = laid_as _ _ c.put.ensures (high_1 c.number.result c.number.type_inv ∙ ap (high_first 1) c.number.ensures) in
    (laid 1 (high_first 2 n) (record { is = tag }) (laid_as _ _ c.put-2.ensures (c.to_be_bytes.ensures ∙ high_2 n)) (length_1 _)).is
