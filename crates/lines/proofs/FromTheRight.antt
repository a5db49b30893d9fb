-- Digits stored from the last to the first: what is still to be laid is the last digits of what is left of the number. Assumes nothing.
use Prim.Native.Nat.{ℕ, zero, suc, ◌+◌, ◌-◌, ◌/◌, ◌%◌, ◌≤◌, ◌<◌}
use mathlib.Core.Path.{◌≡◌, refl, sym, ap, ◌∙◌}
use mathlib.Core.List.{List, [], ◌∷◌, ◌++◌}
use native.Mathlib.Nat.{suc-add, zero-add}
use native.Mathlib.Numerals.{add-one}
use native.Mathlib.Omega.{arith}
use lib.ListN.{length, set, length-append}
use Rattle.spans.specs.Spans.{splice}
use Rattle.spans.proofs.Laws.{splice_none}
use Rattle.lines.specs.Decimal.{digit, decimal}
use Rattle.lines.proofs.Digits.{one_digit, more_digits, length_one, length_more, by_digits}

-- the last k digits of n, with zeros in front where it has fewer
unfoldable pub last_digits : (k n : ℕ) → List ℕ
last_digits zero n = []
last_digits (suc k) n = last_digits k (n / 10) ++ (digit (n % 10) ∷ [])

length_last : (k n : ℕ) → length (last_digits k n) ≡ k
unfolding last_digits
length_last zero n = refl
length_last (suc k) n = length-append (last_digits k (n / 10)) (digit (n % 10) ∷ []) ∙ rw (length_last k (n / 10)) (add-one k)

all_of_one : (n : ℕ) → n < 10 → last_digits (length (decimal n)) n ≡ decimal n
unfolding last_digits
all_of_one n l =
    let e : n % 10 ≡ n = omega arith in
    rw (length_one n l) (ap (λ (d : ℕ). digit d ∷ []) e ∙ sym (one_digit n l))

all_of_more : (n : ℕ) → 10 ≤ n → last_digits (length (decimal (n / 10))) (n / 10) ≡ decimal (n / 10)
    → last_digits (length (decimal n)) n ≡ decimal n
unfolding last_digits
all_of_more n l q = rw (length_more n l, add-one (length (decimal (n / 10))), q) (sym (more_digits n l))

-- as many as n has are all of them
pub all_digits : (n : ℕ) → last_digits (length (decimal n)) n ≡ decimal n
all_digits = by_digits (λ n. last_digits (length (decimal n)) n ≡ decimal n) all_of_one all_of_more

-- a byte stored right after where ys will be laid
set_before : (xs : List ℕ) (at : ℕ) (ys : List ℕ) (d : ℕ) → splice (set xs (at + length ys) d) at ys ≡ splice xs at (ys ++ (d ∷ []))
unfolding splice
set_before [] at ys d = refl
set_before (x ∷ xs) (suc at) ys d = rw (suc-add at (length ys)) (ap (λ (r : List ℕ). x ∷ r) (set_before xs at ys d))
set_before (x ∷ xs) zero [] d = ap (λ (r : List ℕ). d ∷ r) (sym (splice_none xs zero))
set_before (x ∷ xs) zero (y ∷ ys) d =
    rw (zero-add (suc (length ys))) (ap (λ (r : List ℕ). y ∷ r) (rw (zero-add (length ys)) at (set_before xs zero ys d)))

one_more : (xs : List ℕ) (at k n : ℕ)
    → splice (set xs (at + k) (digit (n % 10))) at (last_digits k (n / 10)) ≡ splice xs at (last_digits (suc k) n)
unfolding last_digits
one_more xs at k n = rw (length_last k (n / 10)) at (set_before xs at (last_digits k (n / 10)) (digit (n % 10)))

-- with its last digit stored, right before place i, one digit less is to be laid
pub one_stored : (xs : List ℕ) (at i n : ℕ) → at < i
    → splice (set xs (i - 1) (digit (n % 10))) at (last_digits (i - 1 - at) (n / 10)) ≡ splice xs at (last_digits (i - at) n)
one_stored xs at i n l =
    let k : i - at ≡ suc (i - 1 - at) = omega arith in
    let place : at + (i - 1 - at) ≡ i - 1 = omega arith in
    let stored = one_more xs at (i - 1 - at) n in cc
