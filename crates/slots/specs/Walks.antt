-- Between crates, need not be believed: what the walks over the slots give, in the words of `rules`.
use Rattle.std.specs.Prelude.{ℕ, ◌<◌, ◌≡◌, Bool, true, List, Option, length, get_or}
use Rattle.masks.specs.Lowest.{LowestOr}
use Rattle.masks.specs.Sets.{has, set_of, some_below}
use Rattle.rules.specs.declared.Slot.{Slot}
use Rattle.rules.specs.Sizes.{slots}
use Rattle.rules.specs.Slots.{has_room}
use Rattle.rules.specs.Table.{used, slot_at, waits_on, hard_on, flies_on}
use Rattle.slots.specs.declared.types.Patches.{Patches}

-- slot i is in use and has the number n
abbrev pub Carries : List Slot → ℕ → ℕ → Type 0
Carries ss n i = (used ss i ≡ true) × ((slot_at ss i).number ≡ n)

-- r is the lowest slot that is in use and has the number n
abbrev pub Found : List Slot → ℕ → Option ℕ → Type 0
Found ss n = LowestOr slots (Carries ss n)

-- ns are the numbers of the 64 slots
pub record NumbersOf (ss : List Slot) (ns : List ℕ) : Type 0 where
  pub count : length ns ≡ slots
  pub same : (i : ℕ) → i < slots → get_or ns i 0 ≡ (slot_at ss i).number

-- m is the set of the slots that pass the test: of each slot, whether it is in m is what the test answers of it
pub record SetWhere (test : Slot → Bool → Type 0) (ss : List Slot) (m : ℕ) : Type 0 where
  pub at : (i : ℕ) → i < slots → test (slot_at ss i) (has m i)

-- the set of the rooms that a slot has
abbrev pub taken_rooms : List Slot → ℕ
taken_rooms ss = set_of (λ r. some_below (λ i. has_room (slot_at ss i).state r) slots)

-- p has the waiting patches of block b, those of them that are hard, and those in flight
pub record PatchesOn (ss : List Slot) (b : ℕ) (p : Patches) : Type 0 where
  pub waiting : p.waiting ≡ set_of (waits_on ss b)
  pub hard : p.hard ≡ set_of (hard_on ss b)
  pub in-flight : p.in_flight ≡ set_of (flies_on ss b)
