-- `early::create::judge_lent` meets its contract: 1. Assumes nothing.
use mathlib.Core.Path.{sym, ◌∙◌}
use mathlib.Core.Logic.{inl, inr, ⊎_elim}
use Rattle.rules.proofs.Cases.{holds, passes, none_holds}
use Rattle.early.proofs.create.judge_lent.Goals as goal
use Rattle.early.proofs.create.judge_lent.Goals.{then-image-ne-IMAGE_BYTES-via-then-image-ne-IMAGE_BYTES}
use Rattle.early.proofs.create.judge_lent.Goals.{then-image-ne-IMAGE_BYTES-via-else-image-ne-IMAGE_BYTES+then-undo-undo_bytes}

pub returns-then-image-ne-IMAGE_BYTES : goal.returns-then-image-ne-IMAGE_BYTES
returns-then-image-ne-IMAGE_BYTES c =
    elim c.then-image-ne-IMAGE_BYTES.branch [
      | then-image-ne-IMAGE_BYTES-via-then-image-ne-IMAGE_BYTES w ↦ holds (inl w.if-image-ne-IMAGE_BYTES.true)
      | then-image-ne-IMAGE_BYTES-via-else-image-ne-IMAGE_BYTES+then-undo-undo_bytes w ↦
          holds (inr (λ e. w.if-undo-undo_bytes.true (e ∙ sym w.undo_bytes.ensures)))
    ]

pub returns : goal.returns
returns c =
    passes (⊎_elim (λ n. n c.if-image-ne-IMAGE_BYTES.false) (λ n. n (c.if-undo-undo_bytes.false ∙ c.undo_bytes.ensures))) none_holds
