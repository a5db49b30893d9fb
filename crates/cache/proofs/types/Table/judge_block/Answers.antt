-- `Table::judge_block` meets its contract: 2 and 3, in their order. Assumes nothing.
use native.Mathlib.Omega.{arith}
use Rattle.rules.proofs.Cases.{holds, passes, none_holds}
use Rattle.cache.proofs.types.Table.judge_block.Goals as goal

pub returns-then-not-is_sound : goal.returns-then-not-is_sound
returns-then-not-is_sound c = holds c.if-not-is_sound.ensures

pub returns-then-block-gt-LAST_BLOCK : goal.returns-then-block-gt-LAST_BLOCK
returns-then-block-gt-LAST_BLOCK c = passes (λ u. u c.if-not-is_sound.ensures) (holds c.if-block-gt-LAST_BLOCK.true)

pub returns : goal.returns
returns c = passes (λ u. u c.if-not-is_sound.ensures) (passes (λ m. omega (arith, c.if-block-gt-LAST_BLOCK.false)) none_holds)
