-- Inside this crate, need not be believed: what the private tests answer. No public promise cites this file: those cite Joins of `rules`.
use Rattle.std.specs.Prelude.{ℕ, ◌≤◌, ◌<◌, ◌≡◌, true, List, Option, MatchOption}
use Rattle.masks.specs.Sets.{has, Meet}
use Rattle.rules.specs.declared.Slot.{Slot}
use Rattle.rules.specs.Slots.{is_used}
use Rattle.rules.specs.Table.{slot_at}

-- the slot has a patch on another block than b that has a slot of the set m among its befores
abbrev pub HoldsBack : ℕ → ℕ → Slot → Type 0
HoldsBack b m s = (is_used s.state ≡ true) × (s.block ≡ b → ⊥) × Meet s.befores m

-- of the slots below n that are in the set m, slot r has the lowest number, and is the first that has it
pub record Best (ss : List Slot) (m n r : ℕ) : Type 0 where
  pub within : r < n
  pub in_set : has m r ≡ true
  pub lowest : (i : ℕ) → i < n → has m i ≡ true → (slot_at ss r).number ≤ (slot_at ss i).number
  pub first : (i : ℕ) → i < r → has m i ≡ true → (slot_at ss r).number < (slot_at ss i).number

-- r is that slot, or None where no slot below n is in the set
abbrev pub LowestNumberedOr : List Slot → ℕ → ℕ → Option ℕ → Type 0
LowestNumberedOr ss m n r = MatchOption r ((i : ℕ) → i < n → has m i ≡ true → ⊥) (Best ss m n)
