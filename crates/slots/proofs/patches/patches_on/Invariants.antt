-- `slots::patches::patches_on` meets its contract. The loop's invariant: each set has the patches of the slots passed. Assumes nothing.
use Prim.Native.Nat.{ℕ}
use mathlib.Core.Path.{◌≡◌}
use mathlib.Core.List.{List}
use Rattle.masks.specs.Sets.{set_below}
use Rattle.rules.specs.declared.Slot.{Slot}
use Rattle.rules.specs.Table.{waits_on, hard_on, flies_on}
use Rattle.slots.proofs.patches.patches_on.Given as goal

-- the three sets have the patches of the slots below i
pub record Passed (ss : List Slot) (b waiting hard flying i : ℕ) : Type 0 where
  pub waits : waiting ≡ set_below (waits_on ss b) i
  pub hards : hard ≡ set_below (hard_on ss b) i
  pub flies : flying ≡ set_below (flies_on ss b) i

abbrev pub invariant-loop-i : goal.invariant-loop-i
invariant-loop-i l = Passed l.slots l.block l.waiting l.hard l.in_flight l.i
