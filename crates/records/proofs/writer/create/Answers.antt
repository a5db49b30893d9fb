-- `writer::create` meets its contract. Assumes nothing.
use Rattle.std.proofs.Common.{arith}
use Rattle.std.proofs.lemmas.Result.{err_from_is_err_and}
use Rattle.ground.proofs.Decided.{no_of}
use Rattle.rules.specs.Create.{change_in}
use Rattle.records.specs.Record.{creates, record_of}
use Rattle.records.proofs.Values.{length_create}
use Rattle.records.proofs.Recorded.{wrong_size, no_fit, is_recorded}
use Rattle.records.proofs.writer.create.Goals as goal

pub returns-in_err-check_size : goal.returns-in_err-check_size
returns-in_err-check_size c =
    let p = err_from_is_err_and c.from_residual.result c.from_residual.ensures.1 in
    let size = c.in_err-check_size.ensures in
    rw (p.1, p.2, size.0) (wrong_size (record_of (creates _)) size.1)

pub returns-then-not-sizes_fit : goal.returns-then-not-sizes_fit
returns-then-not-sizes_fit c =
    no_fit (record_of (creates _)) c.in_ok-check_size.ensures
    (λ w. no_of c.sizes_fit.result c.sizes_fit.ensures c.if-not-sizes_fit.true w.sizes)

pub returns : goal.returns
returns c =
    let written = c.put_create.ensures in
    is_recorded (record_of (creates _)) c.in_ok-check_size.ensures written.fits (omega (arith, length_create (change_in c.args.change.now))) written.laid
