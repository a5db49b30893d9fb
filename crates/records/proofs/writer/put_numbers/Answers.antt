-- `writer::put_numbers` meets its contract: the loop has laid the first i numbers. Assumes nothing.
use Rattle.std.proofs.Common.{ℕ, ◌+◌, ◌*◌, ◌<◌, ◌≡◌, sym, ◌∙◌, List, length, get_or, take, length-take-le, arith}
use Rattle.spans.specs.Spans.{splice}
use Rattle.spans.proofs.Laws.{splice_none, splice_on}
use Rattle.records.specs.Record.{high_first, four_each}
use Rattle.records.proofs.Numbers.{high_4, laid_as}
use Rattle.records.proofs.Values.{length_each, each_more}
use Rattle.records.proofs.writer.put_numbers.Goals as goal

-- a turn lays one number more
one_more : (old named buffer : List ℕ) (i : ℕ) → i < length named → buffer ≡ splice old 7 (four_each (take i named))
    → splice buffer (7 + 4 * i) (high_first 4 (get_or named i 0)) ≡ splice old 7 (four_each (take (i + 1) named))
one_more old named buffer i l e =
    let ys = four_each (take i named) in
    let at : 7 + 4 * i ≡ 7 + length ys = omega (arith, length_each (take i named), length-take-le i named (omega arith)) in
    rw (e, at, ← each_more named i l) (splice_on old 7 ys (high_first 4 (get_or named i 0)))

pub loop-i-init : goal.loop-i-init
unfolding four_each
loop-i-init c = sym (splice_none c.args.buffer.now 7)

pub loop-i-preserved : goal.loop-i-preserved
loop-i-preserved c =
    let i = c.loop-i in
    let a = c.args in
    laid_as _ _ c.put.ensures (c.to_be_bytes.ensures ∙ high_4 (get_or a.named.now i.i 0))
    ∙ one_more a.buffer.now a.named.now i.buffer i.i c.loop-i-test.true i.invariant
