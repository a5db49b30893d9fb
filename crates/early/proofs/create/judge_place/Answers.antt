-- `early::create::judge_place` meets its contract: 3 to 5, in their order. Assumes nothing.
use mathlib.Core.Logic.{inl, inr, ⊎_elim}
use native.Mathlib.Omega.{arith}
use Rattle.rules.proofs.Cases.{holds, passes, none_holds}
use Rattle.early.proofs.create.judge_place.Goals as goal

pub returns-then-change-gt-LAST_BLOCK : goal.returns-then-change-gt-LAST_BLOCK
returns-then-change-gt-LAST_BLOCK c = holds c.if-change-gt-LAST_BLOCK.true

pub returns-then-n-eq0 : goal.returns-then-n-eq0
returns-then-n-eq0 c =
    passes (λ m. omega (arith, c.if-change-gt-LAST_BLOCK.false)) (holds (⊎_elim (λ e. inl e) (λ m. inr m.1) c.then-n-eq0.either))

pub returns-then-n-change : goal.returns-then-n-change
returns-then-n-change c =
    passes (λ m. omega (arith, c.if-change-gt-LAST_BLOCK.false))
    (passes (⊎_elim c.if-n-eq0.false (λ m. omega (arith, c.if-n-gt-MOST_BYTES.false)))
    (holds (omega (arith, c.if-n-change.true, c.if-n-gt-MOST_BYTES.false))))

pub returns : goal.returns
returns c =
    passes (λ m. omega (arith, c.if-change-gt-LAST_BLOCK.false))
    (passes (⊎_elim c.if-n-eq0.false (λ m. omega (arith, c.if-n-gt-MOST_BYTES.false)))
    (passes (λ m. omega (arith, m, c.if-n-change.false, c.if-n-gt-MOST_BYTES.false)) none_holds))
