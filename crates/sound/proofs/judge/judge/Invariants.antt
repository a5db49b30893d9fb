-- `sound::judge::judge` meets its contract. The loop's invariant: each slot passed is sound alone and apart from those below it, and
-- the sets and the marks have what the slots passed give. Assumes nothing.
use Prim.Native.Nat.{ℕ, ◌<◌}
use mathlib.Core.Path.{◌≡◌}
use mathlib.Core.Bool.{true}
use mathlib.Core.List.{List}
use Rattle.masks.specs.Sets.{set_below}
use Rattle.rules.specs.declared.Slot.{Slot}
use Rattle.rules.specs.Table.{used, slot_at}
use Rattle.sound.specs.SlotSound.{marked}
use Rattle.sound.proofs.Gathered.{gathered}
use Rattle.sound.proofs.Rooms.{roomed}
use Rattle.sound.proofs.Tested.{Tested, follows}
use Rattle.sound.proofs.judge.judge.Given as goal

-- the numbers of the slots below i are marked
abbrev pub MarkedBelow : List Slot → ℕ → List ℕ → Type 0
MarkedBelow ss i marks = (k : ℕ) → k < i → used ss k ≡ true → marked marks (slot_at ss k).number ≡ true

pub record Passed (first next most : ℕ) (ss : List Slot) (marks : List ℕ) (taken in_use befores i : ℕ) : Type 0 where
  pub rooms : taken ≡ gathered (roomed ss) i
  pub uses : in_use ≡ set_below (used ss) i
  pub befores_all : befores ≡ gathered (follows ss) i
  pub marks_below : MarkedBelow ss i marks
  pub tested : (k : ℕ) → k < i → Tested first next most ss k

abbrev pub invariant-loop-i : goal.invariant-loop-i
invariant-loop-i l = Passed l.first l.next l.most l.slots l.marks l.taken l.used l.befores l.i
