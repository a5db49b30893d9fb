-- A set of slots is a number below 2 ^ 64: slot i is in it where its binary digit i is 1.
use Rattle.std.specs.Prelude.{ℕ, zero, suc, ◌+◌, ◌/◌, ◌%◌, ◌^◌, ◌≡◌, Bool, true, false, cond, ◌&&◌, ◌||◌, not, eqb}

-- the binary digit i of m
unfoldable pub bit : ℕ → ℕ → ℕ
bit m zero = m % 2
bit m (suc i) = bit (m / 2) i

-- is slot i in the set m?
unfoldable pub has : ℕ → ℕ → Bool
has m i = eqb (bit m i) 1

-- every slot of a is in b
abbrev pub Sub : ℕ → ℕ → Type 0
Sub a b = (i : ℕ) → has a i ≡ true → has b i ≡ true

-- some slot is in a and in b
abbrev pub Meet : ℕ → ℕ → Type 0
Meet a b = (i : ℕ) × (has a i ≡ true) × (has b i ≡ true)

-- the set of the slots below n that pass the test p
unfoldable pub set_below : (ℕ → Bool) → ℕ → ℕ
set_below p zero = 0
set_below p (suc n) = set_below p n + cond (p n) (2 ^ n) 0

-- the set of the slots, 0 to 63, that pass the test p
abbrev pub set_of : (ℕ → Bool) → ℕ
set_of p = set_below p 64

-- some slot below n passes the test p
unfoldable pub some_below : (ℕ → Bool) → ℕ → Bool
some_below p zero = false
some_below p (suc n) = some_below p n || p n

-- no slot of a is outside b
abbrev pub within : ℕ → ℕ → Bool
within a b = not (some_below (λ i. has a i && not (has b i)) 64)

-- how many slots below n pass the test p
unfoldable pub how_many : (ℕ → Bool) → ℕ → ℕ
how_many p zero = 0
how_many p (suc n) = how_many p n + cond (p n) 1 0
