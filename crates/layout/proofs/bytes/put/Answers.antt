-- `bytes::put` meets its contract. Assumes nothing.
use Rattle.std.proofs.Common.{ℕ, ◌∙◌, ap, length-take, length-drop, arith}
use Rattle.spans.specs.Spans.{splice}
use Rattle.spans.proofs.Laws.{splice_part}
use Rattle.layout.proofs.bytes.put.Goals as goal

pub returns : goal.returns
returns g c =
    let a = c.args in
    let copied = c.copy_from_slice.ensures in
    splice_part a.bytes.now a.at _ _ (omega (arith, copied.len, length-take {A = ℕ}, length-drop {A = ℕ})) (omega arith)
    ∙ ap (λ ys. splice a.bytes.now a.at ys) copied.after
