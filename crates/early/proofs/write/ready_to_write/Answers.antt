-- `early::write::ready_to_write` meets its contract: the refusals 1 to 12, in their order. Assumes nothing.
use mathlib.Core.Path.{sym, ◌∙◌}
use mathlib.Core.Logic.{inl, inr}
use native.Mathlib.Omega.{arith}
use Rattle.ground.proofs.Decided.{clash}
use Rattle.rules.proofs.Cases.{holds, passes, none_holds}
use Rattle.early.proofs.WriteCases.{wrong_none}
use Rattle.early.proofs.write.ready_to_write.Goals as goal
use Rattle.early.proofs.write.ready_to_write.Goals.{then-image-ne-IMAGE_BYTES-via-then-image-ne-IMAGE_BYTES}
use Rattle.early.proofs.write.ready_to_write.Goals.{then-image-ne-IMAGE_BYTES-via-else-image-ne-IMAGE_BYTES+then-undo-undo_bytes}
use Rattle.early.proofs.write.ready_to_write.Goals.{then-image-ne-IMAGE_BYTES-via-else-image-ne-IMAGE_BYTES+else-undo-undo_bytes+then-handed-ne-BLOCK_BYTES}

pub returns-then-image-ne-IMAGE_BYTES : goal.returns-then-image-ne-IMAGE_BYTES
returns-then-image-ne-IMAGE_BYTES c =
    elim c.then-image-ne-IMAGE_BYTES.branch [
      | then-image-ne-IMAGE_BYTES-via-then-image-ne-IMAGE_BYTES w ↦ holds (inl w.if-image-ne-IMAGE_BYTES.true)
      | then-image-ne-IMAGE_BYTES-via-else-image-ne-IMAGE_BYTES+then-undo-undo_bytes w ↦
          holds (inr (inl (λ e. w.if-undo-undo_bytes.true (e ∙ sym w.undo_bytes.ensures))))
      | then-image-ne-IMAGE_BYTES-via-else-image-ne-IMAGE_BYTES+else-undo-undo_bytes+then-handed-ne-BLOCK_BYTES w ↦
          holds (inr (inr w.if-handed-ne-BLOCK_BYTES.true))
    ]

pub returns-then-not-sound : goal.returns-then-not-sound
returns-then-not-sound c =
    passes (wrong_none _ _ _ c.if-image-ne-IMAGE_BYTES.false (c.if-undo-undo_bytes.false ∙ c.undo_bytes.ensures) c.if-handed-ne-BLOCK_BYTES.false)
    (holds (λ e. clash e c.if-not-sound.true))

pub returns-then-block-gt-LAST_BLOCK : goal.returns-then-block-gt-LAST_BLOCK
returns-then-block-gt-LAST_BLOCK c =
    passes (wrong_none _ _ _ c.if-image-ne-IMAGE_BYTES.false (c.if-undo-undo_bytes.false ∙ c.undo_bytes.ensures) c.if-handed-ne-BLOCK_BYTES.false)
    (passes (λ n. n c.if-not-sound.false) (holds c.if-block-gt-LAST_BLOCK.true))

pub returns-then-on-ne0 : goal.returns-then-on-ne0
returns-then-on-ne0 c =
    passes (wrong_none _ _ _ c.if-image-ne-IMAGE_BYTES.false (c.if-undo-undo_bytes.false ∙ c.undo_bytes.ensures) c.if-handed-ne-BLOCK_BYTES.false)
    (passes (λ n. n c.if-not-sound.false) (passes (λ m. omega (arith, c.if-block-gt-LAST_BLOCK.false)) (holds c.if-on-ne0.true)))

pub returns-then-on-eq0 : goal.returns-then-on-eq0
returns-then-on-eq0 c =
    passes (wrong_none _ _ _ c.if-image-ne-IMAGE_BYTES.false (c.if-undo-undo_bytes.false ∙ c.undo_bytes.ensures) c.if-handed-ne-BLOCK_BYTES.false)
    (passes (λ n. n c.if-not-sound.false)
    (passes (λ m. omega (arith, c.if-block-gt-LAST_BLOCK.false)) (passes (λ f. f c.if-on-ne0.false) (holds c.if-on-eq0.true))))

pub returns : goal.returns
returns c =
    passes (wrong_none _ _ _ c.if-image-ne-IMAGE_BYTES.false (c.if-undo-undo_bytes.false ∙ c.undo_bytes.ensures) c.if-handed-ne-BLOCK_BYTES.false)
    (passes (λ n. n c.if-not-sound.false)
    (passes (λ m. omega (arith, c.if-block-gt-LAST_BLOCK.false)) (passes (λ f. f c.if-on-ne0.false) (passes c.if-on-eq0.false none_holds))))
