-- Inside this crate, need not be believed: what the private tests of `judge` decide, of one slot and of its number among others. No public promise cites
-- this file: those cite Sound of `rules`.
use Rattle.std.specs.Prelude.{ℕ, ◌+◌, ◌/◌, ◌%◌, ◌≤◌, ◌<◌, ◌≡◌, Bool, true, List, length, get_or}
use Rattle.masks.specs.Sets.{has}
use Rattle.rules.specs.declared.Slot.{Slot}
use Rattle.rules.specs.Slots.{room_of}
use Rattle.slots.specs.Walks.{Carries}
use Rattle.rules.specs.Sizes.{slots, blocks, block_bytes, most_bytes, last_number}

-- first is 1 to 1,000,000,000; next is from first to 1,000,000,001
pub record HeaderInRange (first next : ℕ) : Type 0 where
  pub first_least : 1 ≤ first
  pub first_most : first ≤ last_number
  pub next_least : first ≤ next
  pub next_most : next ≤ last_number + 1

-- number, block and range of a patch are within their bounds
pub record InRange (first next : ℕ) (s : Slot) : Type 0 where
  pub number_least : first ≤ s.number
  pub number_most : s.number < next
  pub block_most : s.block < blocks
  pub len_least : 1 ≤ s.len
  pub len_most : s.len ≤ most_bytes
  pub ends : s.offset + s.len ≤ block_bytes

-- a patch in slot i is sound by itself, where there are n rooms
pub record Alone (first next n i : ℕ) (s : Slot) : Type 0 where
  pub range : InRange first next s
  pub befores_other : has s.befores i ≡ true → ⊥
  pub room_most : room_of s.state < n

-- the number n comes again in slot i: a slot below is in use with it
abbrev pub ComesAgain : List Slot → ℕ → ℕ → Type 0
ComesAgain ss n i = (j : ℕ) × (j < slots) × (j < i) × Carries ss n j

-- the mark of the number n is among the marks ms: it is chosen by the ten lowest binary digits of n
abbrev pub marked : List ℕ → ℕ → Bool
marked ms n = has (get_or ms (n / 64 % 16) 0) (n % 64)

-- n is marked, where ms were the marks before; r says whether its mark was there
pub record Marking (ms : List ℕ) (n : ℕ) (r : Bool) (ms' : List ℕ) : Type 0 where
  pub was : r ≡ marked ms n
  pub size : length ms' ≡ length ms
  pub is : marked ms' n ≡ true
  pub kept : (k : ℕ) → marked ms k ≡ true → marked ms' k ≡ true
