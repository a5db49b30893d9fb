-- `befores::added` meets its contract. The loop's invariant: the set so far is that of the slots passed that are named and of another block.
-- Assumes nothing.
use Prim.Native.Nat.{ℕ}
use mathlib.Core.Path.{◌≡◌}
use mathlib.Core.Bool.{Bool}
use mathlib.Core.List.{List}
use Rattle.masks.specs.Sets.{set_below}
use Rattle.rules.specs.declared.Slot.{Slot}
use Rattle.rules.specs.Table.{slot_at}
use Rattle.rules.specs.Create.{Change, change_in}
use Rattle.befores.specs.OneSlot.{elsewhere}
use Rattle.befores.proofs.added.Given as goal

-- the test that the walk asks of slot k
abbrev pub passes : List Slot → Change → ℕ → Bool
passes ss change k = elsewhere (slot_at ss k) change

abbrev pub invariant-loop-i : goal.invariant-loop-i
invariant-loop-i l = l.set ≡ set_below (passes l.slots (change_in l.change)) l.i
