-- The set of the slots that pass a test is the set of a definition that says of each slot what the test says. Callers of `set_where` cite this.
-- Assumes nothing.
use Prim.Native.Nat.{ℕ, ◌<◌, ◌^◌}
use mathlib.Core.Path.{◌≡◌}
use mathlib.Core.Bool.{Bool}
use mathlib.Core.List.{List}
use Rattle.masks.specs.Sets.{has, set_of}
use Rattle.masks.proofs.Laws.{is_set}
use Rattle.rules.specs.declared.Slot.{Slot}
use Rattle.rules.specs.Table.{slot_at}
use Rattle.slots.specs.Walks.{SetWhere}

pub set_where_is : {test : Slot → Bool → Type 0} {ss : List Slot} {m : ℕ} (p : ℕ → Bool) → SetWhere test ss m → m < 2 ^ 64
    → ((i : ℕ) (r : Bool) → test (slot_at ss i) r → r ≡ p i) → m ≡ set_of p
set_where_is {m = m} p asked l says = is_set m p l (λ i h. says i (has m i) (asked.at i h))
