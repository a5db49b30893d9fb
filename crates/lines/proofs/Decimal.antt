-- The digits of a number spell it: some digits, no zero in front of others, and read back they say the number. And nothing else does. Assumes nothing.
use Prim.Native.Nat.{ℕ, zero, suc, ◌+◌, ◌-◌, ◌*◌, ◌/◌, ◌%◌, ◌≤◌, ◌<◌}
use mathlib.Core.Path.{◌≡◌, refl, sym, ap, subst, ◌∙◌}
use mathlib.Core.Bool.{Bool, true, false}
use mathlib.Core.List.{List, [], ◌∷◌, ◌++◌}
use native.Mathlib.Omega.{arith}
use borrow.Author.Tests.{ltb-true, ltb-false}
use lib.Dec.{ltb}
use lib.ListN.{length, get_or, take, length-append, get_or-append}
use lib.Seq.{take-suc, take_all, get_or-take, get_or_at, length-take-le}
use Rattle.lines.specs.Decimal.{digit, decimal, value_after, value, Spells}
use Rattle.lines.proofs.Digits.{one_digit, more_digits, by_digits}

-- ---- they spell the number

value_more : (a : ℕ) (ds : List ℕ) (d : ℕ) → value_after a (ds ++ (d ∷ [])) ≡ value_after a ds * 10 + (d - 48)
unfolding value_after
value_more a [] d = refl
value_more a (x ∷ ds) d = value_more (a * 10 + (x - 48)) ds d

-- one digit more spells ten times the number and the digit
spells_more : (m d : ℕ) (ds : List ℕ) → 0 < m → d < 10 → Spells m ds → Spells (m * 10 + d) (ds ++ (digit d ∷ []))
unfolding value_after
spells_more m d ds p l s = record {
  some = simp length-append (omega arith);
  are_digits = λ i h. at i (simp length-append at h);
  no_leading_zero = λ z. absurd (leads (sym (get_or-append ds _ 0 0 s.some) ∙ z));
  read_back = value_more 0 ds (digit d) ∙ rw s.read_back (omega arith);
}
  where
    leads : get_or ds 0 0 ≡ 48 → ⊥
    leads z = let e : m ≡ 0 = sym s.read_back ∙ ap value (s.no_leading_zero z) in omega arith

    at : (i : ℕ) → i < length ds + 1 → (48 ≤ get_or (ds ++ (digit d ∷ [])) i 0) × (get_or (ds ++ (digit d ∷ [])) i 0 ≤ 57)
    at i h = go (ltb i (length ds)) refl
      where
        go : (b : Bool) → ltb i (length ds) ≡ b → (48 ≤ get_or (ds ++ (digit d ∷ [])) i 0) × (get_or (ds ++ (digit d ∷ [])) i 0 ≤ 57)
        go true e = let k = ltb-true i (length ds) e in rw (get_or-append ds (digit d ∷ []) 0 i k) (s.are_digits i k)
        go false e = let k = ltb-false i (length ds) e in rw (get_or_at ds (digit d) [] 0 i (omega arith)) (omega arith)

spells_one : (n : ℕ) → n < 10 → Spells n (digit n ∷ [])
unfolding value_after
spells_one n l = record {
  some = omega arith;
  are_digits = at;
  no_leading_zero = λ z. ap (λ (d : ℕ). d ∷ []) z;
  read_back = omega arith;
}
  where
    at : (i : ℕ) → i < 1 → (48 ≤ get_or (digit n ∷ []) i 0) × (get_or (digit n ∷ []) i 0 ≤ 57)
    at zero h = omega arith
    at (suc i) h = absurd (omega arith)

pub decimal_spells : (n : ℕ) → Spells n (decimal n)
decimal_spells = by_digits (λ n. Spells n (decimal n)) one more
  where
    more : (n : ℕ) → 10 ≤ n → Spells (n / 10) (decimal (n / 10)) → Spells n (decimal n)
    more n l s =
        let e : n / 10 * 10 + n % 10 ≡ n = omega arith in
        subst (λ (k : ℕ). Spells k (decimal n)) e (rw (more_digits n l) (spells_more (n / 10) (n % 10) (decimal (n / 10)) (omega arith) (omega arith) s))

    one : (n : ℕ) → n < 10 → Spells n (decimal n)
    one n l = rw (one_digit n l) (spells_one n l)

-- ---- nothing else spells it

value_least : (a : ℕ) (ds : List ℕ) → a ≤ value_after a ds
unfolding value_after
value_least a [] = omega arith
value_least a (d ∷ ds) = omega (arith, value_least (a * 10 + (d - 48)) ds)

-- digits that begin with no zero say more than 0
above_zero : (ds : List ℕ) → 48 < get_or ds 0 0 → 0 < value ds
unfolding value_after
above_zero [] l = absurd (omega arith)
above_zero (d ∷ ds) l = omega (arith, value_least (0 * 10 + (d - 48)) ds)

-- without their last digit, two or more digits spell the number without it
module _ (n k : ℕ) (ds : List ℕ) (e : length ds ≡ suc (suc k)) (s : Spells n ds) where
  first_digits : List ℕ
  first_digits = take (suc k) ds

  last_digit : ℕ
  last_digit = get_or ds (suc k) 0

  split : ds ≡ first_digits ++ (last_digit ∷ [])
  unfolding first_digits last_digit
  split = sym (take_all (suc (suc k)) ds (omega arith)) ∙ take-suc ds (suc k) 0 (omega arith)

  first_length : length first_digits ≡ suc k
  unfolding first_digits
  first_length = length-take-le (suc k) ds (omega arith)

  no_zero : get_or ds 0 0 ≡ 48 → ⊥
  no_zero z = let q = ap length (s.no_leading_zero z) in omega arith

  first_above : 0 < value first_digits
  unfolding first_digits
  first_above =
      above_zero (take (suc k) ds) (rw (get_or-take (suc k) ds 0 0 (omega arith)) (omega (arith, s.are_digits 0 (omega arith), no_zero)))

  first_spells : Spells (value first_digits) first_digits
  unfolding first_digits
  first_spells = record {
    some = omega (arith, first_length);
    are_digits = λ i h. rw (get_or-take (suc k) ds i 0 (omega (arith, first_length))) (s.are_digits i (omega (arith, first_length)));
    no_leading_zero = λ z. absurd (no_zero (sym (get_or-take (suc k) ds 0 0 (omega arith)) ∙ z));
    read_back = refl;
  }

  whole : n ≡ value first_digits * 10 + (last_digit - 48)
  whole = sym s.read_back ∙ ap value split ∙ value_more 0 first_digits last_digit

  last_is_digit : (48 ≤ last_digit) × (last_digit ≤ 57)
  unfolding last_digit
  last_is_digit = s.are_digits (suc k) (omega arith)

one : (n : ℕ) (ds : List ℕ) → length ds ≡ 1 → Spells n ds → ds ≡ decimal n
unfolding value_after
one n [] e s = absurd (omega arith)
one n (d ∷ x ∷ ds) e s = absurd (omega arith)
one n (d ∷ []) e s =
    let h = s.are_digits 0 (omega arith) in
    let r = s.read_back in
    sym (one_digit n (omega arith) ∙ ap (λ (x : ℕ). x ∷ []) (omega arith))

many : (n k : ℕ) (ds : List ℕ) (e : length ds ≡ suc (suc k)) (s : Spells n ds) → first_digits n k ds e s ≡ decimal (value (first_digits n k ds e s))
    → ds ≡ decimal n
many n k ds e s q =
    let w = whole n k ds e s in
    let h = last_is_digit n k ds e s in
    let p = first_above n k ds e s in
    let m : n / 10 ≡ value (first_digits n k ds e s) = omega arith in
    let d : digit (n % 10) ≡ last_digit n k ds e s = omega arith in
    split n k ds e s ∙ sym (more_digits n (omega arith) ∙ rw (m, d, ← q))

pub only_decimal : (n : ℕ) (ds : List ℕ) → Spells n ds → ds ≡ decimal n
only_decimal n ds s = up_to (length ds) n ds refl s
  where
    up_to : (k m : ℕ) (xs : List ℕ) → length xs ≡ k → Spells m xs → xs ≡ decimal m
    up_to zero m xs e t = absurd (omega (arith, t.some))
    up_to (suc zero) m xs e t = one m xs e t
    up_to (suc (suc k)) m xs e t =
        many m k xs e t (up_to (suc k) (value (first_digits m k xs e t)) (first_digits m k xs e t) (first_length m k xs e t) (first_spells m k xs e t))
