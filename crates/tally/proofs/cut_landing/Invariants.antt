-- `tally::cut_landing` meets its contract: the set of those of the slots passed that land. Assumes nothing.
use Prim.Native.Nat.{ℕ}
use mathlib.Core.Path.{◌≡◌}
use mathlib.Core.Bool.{Bool, ◌&&◌}
use mathlib.Core.List.{List}
use Rattle.masks.specs.Sets.{has, set_below}
use Rattle.rules.specs.declared.Slot.{Slot}
use Rattle.rules.specs.Slots.{is_in_flight}
use Rattle.rules.specs.Table.{slot_at}
use Rattle.tally.proofs.cut_landing.Given as goal

abbrev pub lands_at : List Slot → ℕ → ℕ → Bool
lands_at ss bits i = is_in_flight (slot_at ss i).state && has bits (slot_at ss i).block

abbrev pub invariant-loop-i : goal.invariant-loop-i
invariant-loop-i l = l.landed ≡ set_below (lands_at l.slots l.bits) l.i
