-- `slots::walks::set_where` meets its contract. The loop's invariant: of the slots passed the set says what the test answered, and it has no other.
-- Assumes nothing.
use Prim.Native.Nat.{ℕ, ◌≤◌, ◌<◌}
use mathlib.Core.Path.{◌≡◌}
use mathlib.Core.Bool.{Bool, false}
use mathlib.Core.List.{List}
use Rattle.std.specs.Fn.{FnReturnsAt}
use Rattle.masks.specs.Sets.{has}
use Rattle.rules.specs.declared.Slot.{Slot}
use Rattle.rules.specs.Table.{slot_at}
use Rattle.slots.proofs.walks.set_where.Given as goal

-- of the slots below i the set m says what the test answers, and no other is in it
pub record Asked (test : Slot → Bool → Type 0) (ss : List Slot) (m i : ℕ) : Type 0 where
  pub passed : (k : ℕ) → k < i → test (slot_at ss k) (has m k)
  pub ahead : (k : ℕ) → i ≤ k → has m k ≡ false

abbrev pub invariant-loop-i : goal.invariant-loop-i
invariant-loop-i g l = Asked (FnReturnsAt g.F.Fn l.test) l.slots l.set l.i
