-- A number in decimal digits, as ASCII bytes, the highest first. To be believed are value and Spells: that decimal n is the only text that spells n is
-- shown in proofs/Decimal.antt.
use Rattle.std.specs.Prelude.{ℕ, zero, suc, ◌+◌, ◌-◌, ◌*◌, ◌/◌, ◌%◌, ◌≤◌, ◌<◌, ◌≡◌, Bool, true, false, List, [], ◌∷◌, ◌++◌, ltb, length, get_or}

-- the ASCII byte of a digit: 0 is 48
abbrev pub digit : ℕ → ℕ
digit d = 48 + d

-- the digits of n, where `small` says whether it is below 10; no number but 0 is left when the turns are used up
unfoldable pub digits_in : (turns : ℕ) (small : Bool) → ℕ → List ℕ
digits_in zero small n = digit n ∷ []
digits_in (suc turns) true n = digit n ∷ []
digits_in (suc turns) false n = digits_in turns (ltb (n / 10) 10) (n / 10) ++ (digit (n % 10) ∷ [])

-- the digits of n, highest first: as many turns as n are enough
unfoldable pub decimal : ℕ → List ℕ
decimal n = digits_in n (ltb n 10) n

-- what digits say when they are read from the highest on, after those that said `so_far`
unfoldable pub value_after : (so_far : ℕ) → List ℕ → ℕ
value_after so_far [] = so_far
value_after so_far (d ∷ ds) = value_after (so_far * 10 + (d - 48)) ds

-- the number that digits say
abbrev pub value : List ℕ → ℕ
value ds = value_after 0 ds

-- the bytes spell the number n
pub record Spells (n : ℕ) (ds : List ℕ) : Type 0 where
  pub some : 0 < length ds
  pub are_digits : (i : ℕ) → i < length ds → (48 ≤ get_or ds i 0) × (get_or ds i 0 ≤ 57)
  pub no_leading_zero : get_or ds 0 0 ≡ 48 → ds ≡ 48 ∷ []
  pub read_back : value ds ≡ n
