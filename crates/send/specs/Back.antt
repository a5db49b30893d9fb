-- Inside this crate, need not be believed: what the private search under `hand_out` gives. No public promise cites this file: that of hand_out cites `handed`.
use Rattle.std.specs.Prelude.{ℕ, ◌≤◌, ◌<◌, ◌≡◌, true, List, Option, MatchOption}
use Rattle.masks.specs.Sets.{has}
use Rattle.rules.specs.declared.Slot.{Slot}
use Rattle.rules.specs.Table.{slot_at}

-- of the slots of `left` below n, r is the lowest with the highest number below `top`
pub record Highest (ss : List Slot) (left top n r : ℕ) : Type 0 where
  pub within : r < n
  pub in_left : has left r ≡ true
  pub low : (slot_at ss r).number < top
  pub high : (j : ℕ) → j < n → has left j ≡ true → (slot_at ss j).number < top → (slot_at ss j).number ≤ (slot_at ss r).number
  pub lowest : (j : ℕ) → j < r → has left j ≡ true → (slot_at ss j).number ≡ (slot_at ss r).number → ⊥

-- r is that slot, or None where no slot of `left` below n has a number below `top`
abbrev pub HighestOr : List Slot → ℕ → ℕ → ℕ → Option ℕ → Type 0
HighestOr ss left top n r = MatchOption r ((j : ℕ) → j < n → has left j ≡ true → (slot_at ss j).number < top → ⊥) (Highest ss left top n)
