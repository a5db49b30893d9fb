-- `calls::board_write` meets its contract. Assumes nothing.
use mathlib.Core.Logic.{inl, inr, ⊎_elim}
use Rattle.rules.proofs.Cases.{holds, passes}
use Rattle.board.proofs.Answers.{write-none}
use Rattle.board.proofs.calls.board_write.Goals as goal

pub returns-then-image-ne-IMAGE_BYTES : goal.returns-then-image-ne-IMAGE_BYTES
returns-then-image-ne-IMAGE_BYTES c =
    rw c.number.ensures
    (write-none _ _ _ _ _ 1 c.if-not-is_table.ensures
    (holds (⊎_elim (λ e. inl e) (λ m. inr (⊎_elim (λ e. inl e.1) (λ k. inr k.2) m)) c.then-image-ne-IMAGE_BYTES.either)))

pub returns-then-not-is_table : goal.returns-then-not-is_table
returns-then-not-is_table c =
    let none_here = c.if-not-is_table.ensures in
    rw c.number-then-not-is_table.ensures
    (write-none _ _ _ _ _ 2 none_here
    (passes
    (⊎_elim (λ n. n c.if-image-ne-IMAGE_BYTES.false) (⊎_elim (λ n. n c.if-undo-ne-UNDO_BYTES.false) (λ n. n c.if-handed-ne-BLOCK_BYTES.false)))
    (holds none_here)))
