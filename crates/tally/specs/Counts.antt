-- How many changes the patches of a table stand for: since small changes share a patch, a number may stand for several. Counts are of 64 bits and stay at
-- their most, which no trace reaches that can be read.
use Rattle.std.specs.Prelude.{ℕ, zero, suc, ◌+◌, min, Bool, cond, ◌&&◌, List, eqb, get_or}
use Rattle.masks.specs.Sets.{has, set_of}
use Rattle.rules.specs.declared.Slot.{Slot}
use Rattle.rules.specs.Sizes.{slots}
use Rattle.rules.specs.Slots.{is_in_flight}
use Rattle.rules.specs.Table.{slot_at, used, list_from}

abbrev pub most_count : ℕ
most_count = 18446744073709551615

unfoldable pub plus : ℕ → ℕ → ℕ
plus a b = min (a + b) most_count

-- a number for each slot
abbrev pub counts_by : (ℕ → ℕ) → List ℕ
counts_by f = list_from f 0 slots

-- slot i holds the patch with number n
abbrev pub holds_number : List Slot → ℕ → ℕ → Bool
holds_number ss n i = used ss i && eqb (slot_at ss i).number n

-- one change more for the patch with number n
unfoldable pub one_more : List Slot → ℕ → List ℕ → List ℕ
one_more ss n changes = counts_by (λ i. cond (holds_number ss n i) (plus (get_or changes i 0) 1) (get_or changes i 0))

-- the changes of the slots below n that are in the set s; of all that are
unfoldable pub carried_below : List ℕ → ℕ → ℕ → ℕ
carried_below changes s zero = 0
carried_below changes s (suc n) = plus (carried_below changes s n) (cond (has s n) (get_or changes n 0) 0)

abbrev pub carried : List ℕ → ℕ → ℕ
carried changes s = carried_below changes s slots

-- the slots of the set s carry none any more
unfoldable pub cleared : List ℕ → ℕ → List ℕ
cleared changes s = counts_by (λ i. cond (has s i) 0 (get_or changes i 0))

-- the slots in flight on a block whose bit is set
abbrev pub cut_landing : List Slot → ℕ → ℕ
cut_landing ss bits = set_of (λ i. is_in_flight (slot_at ss i).state && has bits (slot_at ss i).block)
