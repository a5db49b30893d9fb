-- The lowest number of which something holds: the lowest free slot, the lowest free room.
use Rattle.std.specs.Prelude.{ℕ, ◌<◌, ◌≡◌, false, Option, Some, None}
use Rattle.masks.specs.Sets.{has}

-- P holds of r, of the numbers below n, and of no lower one
pub record Lowest (n : ℕ) (P : ℕ → Type 0) (r : ℕ) : Type 0 where
  pub within : r < n
  pub holds : P r
  pub least : (i : ℕ) → i < r → P i → ⊥

-- r is the lowest number below n of which P holds, or None where there is none
pub record LowestOr (n : ℕ) (P : ℕ → Type 0) (r : Option ℕ) : Type 0 where
  pub there : (i : ℕ) → r ≡ Some i → Lowest n P i
  pub nowhere : r ≡ None → (i : ℕ) → i < n → P i → ⊥

-- i is not in the set
abbrev pub Outside : ℕ → ℕ → Type 0
Outside set i = has set i ≡ false
