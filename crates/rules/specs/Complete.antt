-- Document 01, "Complete".
use Rattle.std.specs.Prelude.{ℕ, Bool, cond, ◌&&◌, not, List}
use Rattle.masks.specs.Sets.{has, set_of}
use Rattle.rules.specs.declared.Slot.{Slot}
use Rattle.rules.specs.Slots.{is_used, free_slot, with_befores}
use Rattle.rules.specs.Table.{Table, slot_at, flies_on, slots_by, with_slots}

-- a slot with the slots of the set `gone` removed from its befores
abbrev pub without_befores : ℕ → Slot → Slot
without_befores gone s = with_befores (set_of (λ k. has s.befores k && not (has gone k))) s

-- a slot when the patches of the set `landed` commit: free where its own patch `commits`, and else without these among its befores; what is left
-- in a slot that was free stays as it is
abbrev pub landed_slot : ℕ → Bool → Slot → Slot
landed_slot landed commits s = cond commits free_slot (cond (is_used s.state) (without_befores landed s) s)

-- the slots when the patches of the set commit
unfoldable pub landed_slots : List Slot → ℕ → List Slot
landed_slots ss landed = slots_by (λ i. landed_slot landed (has landed i) (slot_at ss i))

-- the in-flight patches of block b
abbrev pub landing : List Slot → ℕ → ℕ
landing ss b = set_of (flies_on ss b)

-- the next slots: those patches commit
unfoldable pub completed_slots : List Slot → ℕ → List Slot
completed_slots ss b = landed_slots ss (landing ss b)

-- the next table
unfoldable pub completed : Table → ℕ → Table
completed t b = with_slots (completed_slots t.slots b) t
