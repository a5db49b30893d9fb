-- `writer::block_record` meets its contract. Assumes nothing.
use Rattle.std.proofs.Common.{◌∙◌, ap, sym, length, arith}
use Rattle.std.proofs.lemmas.Result.{err_from_is_err_and}
use Rattle.records.specs.Record.{high_first, record_of}
use Rattle.records.specs.Inside.{tag_number, block_bytes}
use Rattle.records.proofs.Numbers.{laid_as}
use Rattle.records.proofs.Recorded.{wrong_size, no_fit, is_recorded}
use Rattle.records.proofs.writer.block_record.Goals as goal

pub returns-in_err-check_size : goal.returns-in_err-check_size
returns-in_err-check_size c = λ call o.
    let p = err_from_is_err_and c.from_residual.result c.from_residual.ensures.1 in
    let size = c.in_err-check_size.ensures in
    rw (p.1, p.2, size.0) (wrong_size (record_of call) size.1)

pub returns-in_err-byte : goal.returns-in_err-byte
returns-in_err-byte c = λ call o.
    let p = err_from_is_err_and c.from_residual-in_err-byte.result c.from_residual-in_err-byte.ensures.1 in
    let byte = c.in_err-byte.ensures in
    rw (p.1, p.2, byte.0) (no_fit (record_of call) c.in_ok-check_size.ensures (λ f. absurd (omega (arith, byte.1, o.fits_not f))))

pub returns : goal.returns
unfolding high_first
returns c = λ call o.
    let byte = c.in_ok-byte.ensures in
    is_recorded (record_of call) c.in_ok-check_size.ensures (o.fits byte.1) (sym (ap length o.bytes))
    (laid_as _ _ c.put_block.ensures (ap (block_bytes (tag_number c.args.tag)) byte.0 ∙ sym o.bytes))
