-- `writer::complete_write` meets its contract: refused, the completion's record alone, else the write's right after it. Assumes nothing.
use Rattle.std.proofs.Common.{ap, refl, arith}
use Rattle.std.proofs.lemmas.Result.{err_from_is_err_and}
use Rattle.spans.proofs.Laws.{laid}
use Rattle.records.specs.Record.{high_first}
use Rattle.records.specs.Inside.{block_bytes}
use Rattle.records.proofs.Numbers.{laid_as}
use Rattle.records.proofs.Recorded.{wrong_size, no_fit}
use Rattle.records.proofs.CallsMade.{recorded_alone, both_fit, recorded_both}
use Rattle.records.proofs.writer.complete_write.Goals as goal

pub returns-then-first-ne0 : goal.returns-then-first-ne0
returns-then-first-ne0 c =
    let a = c.args in
    recorded_alone a.x a.y a.first c.if-first-ne0.true c.complete.ensures

pub returns-in_err-check_size : goal.returns-in_err-check_size
returns-in_err-check_size c =
    let p = err_from_is_err_and c.from_residual.result c.from_residual.ensures.1 in
    let size = c.in_err-check_size.ensures in
    rw (p.1, p.2, size.0) (wrong_size _ size.1)

pub returns-in_err-completed : goal.returns-in_err-completed
returns-in_err-completed c =
    let a = c.args in
    let p = err_from_is_err_and c.from_residual-in_err-completed.result c.from_residual-in_err-completed.ensures.1 in
    let x = c.in_err-completed.ensures in
    rw (p.1, p.2, x.0)
    (no_fit _ c.in_ok-check_size.ensures (λ f. let l = (both_fit a.x a.y a.first c.if-first-ne0.false f).0 in absurd (omega (arith, x.1, l))))

pub returns-in_err-written : goal.returns-in_err-written
returns-in_err-written c =
    let a = c.args in
    let p = err_from_is_err_and c.from_residual-in_err-written.result c.from_residual-in_err-written.ensures.1 in
    let y = c.in_err-written.ensures in
    rw (p.1, p.2, y.0)
    (no_fit _ c.in_ok-check_size.ensures (λ f. let l = (both_fit a.x a.y a.first c.if-first-ne0.false f).1 in absurd (omega (arith, y.1, l))))

pub returns : goal.returns
unfolding high_first
returns c =
    let a = c.args in
    let x = c.in_ok-completed.ensures in
    let y = c.in_ok-written.ensures in
    let first = laid_as _ _ c.put_block.ensures (ap (block_bytes 4) x.0) in
    let second = laid_as _ _ c.put_block-2.ensures (ap (block_bytes 3) y.0) in
    recorded_both a.x a.y a.first c.if-first-ne0.false c.in_ok-check_size.ensures x.1 y.1 (laid 4 (block_bytes 3 a.y) (record { is = first }) second refl).is
