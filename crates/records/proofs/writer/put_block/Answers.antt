-- `writer::put_block` meets its contract: the tag, the length and the block. Assumes nothing.
use Rattle.std.proofs.Common.{ℕ, ap₂, sym, ◌∷◌, [], ◌%◌, ◌≡◌, arith}
use Rattle.records.specs.Record.{high_first}
use Rattle.records.specs.Inside.{tag_number}
use Rattle.records.proofs.Numbers.{laid_as}
use Rattle.records.proofs.writer.put_block.Goals as goal

pub returns : goal.returns
unfolding high_first
returns c =
    let a = c.args in
    let tag : tag_number a.tag % 256 ≡ c.number.result = omega (arith, c.number.ensures, c.number.type_inv) in
    let block : a.block % 256 ≡ a.block = omega arith in
    laid_as _ _ c.put.ensures (ap₂ (λ (t b : ℕ). t ∷ 0 ∷ 1 ∷ b ∷ []) (sym tag) (sym block))
