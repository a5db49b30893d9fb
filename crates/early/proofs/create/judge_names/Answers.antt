-- `early::create::judge_names` meets its contract: 6 and 7, in their order. Assumes nothing.
use native.Mathlib.Omega.{arith}
use Rattle.rules.proofs.Cases.{holds, passes, none_holds}
use Rattle.early.proofs.create.judge_names.Goals as goal

pub returns-then-change-gt-MOST_NAMED : goal.returns-then-change-gt-MOST_NAMED
returns-then-change-gt-MOST_NAMED c = holds c.if-change-gt-MOST_NAMED.true

pub returns-then-unissued : goal.returns-then-unissued
returns-then-unissued c = passes (λ m. omega (arith, c.if-change-gt-MOST_NAMED.false)) (holds (c.if-unissued.ensures))

pub returns : goal.returns
returns c = passes (λ m. omega (arith, c.if-change-gt-MOST_NAMED.false)) (passes (c.if-unissued.ensures) none_holds)
