-- `writer::open` meets its contract: the head, and the value right after it. Assumes nothing.
use Rattle.std.proofs.Common.{◌∙◌, refl, arith}
use Rattle.std.proofs.lemmas.Result.{err_from_is_err_and}
use Rattle.spans.proofs.Laws.{laid}
use Rattle.records.specs.Record.{opens, high_first, value_of, record_of}
use Rattle.records.proofs.Numbers.{high_4, laid_as}
use Rattle.records.proofs.Recorded.{wrong_size, is_recorded}
use Rattle.records.proofs.writer.open.Goals as goal

pub returns-in_err-check_size : goal.returns-in_err-check_size
returns-in_err-check_size c =
    let p = err_from_is_err_and c.from_residual.result c.from_residual.ensures.1 in
    let size = c.in_err-check_size.ensures in
    rw (p.1, p.2, size.0) (wrong_size (record_of (opens _)) size.1)

pub returns : goal.returns
unfolding high_first value_of record_of
returns c =
    is_recorded (record_of (opens _)) c.in_ok-check_size.ensures (omega (arith, c.ranges.first.fits)) refl
    (laid 3 _ (record { is = c.head.ensures }) (laid_as _ _ c.put.ensures (c.to_be_bytes.ensures ∙ high_4 c.args.first)) refl).is
