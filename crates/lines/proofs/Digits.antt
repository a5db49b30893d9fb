-- The digits of a number: one equation for a number below 10 and one for the rest, and how many there are. Assumes nothing.
use Prim.Native.Nat.{ℕ, zero, suc, ◌+◌, ◌*◌, ◌/◌, ◌%◌, ◌^◌, ◌≤◌, ◌<◌}
use mathlib.Core.Path.{◌≡◌, refl, ap}
use mathlib.Core.Bool.{Bool, true, false}
use mathlib.Core.List.{List, [], ◌∷◌, ◌++◌}
use Rattle.std.proofs.Math.Nat.{pow-succ', pow-suc, one-le-pow}
use native.Mathlib.Omega.{arith}
use borrow.Author.Tests.{lt-ltb, le-ltb, ltb-true, ltb-false}
use lib.Dec.{ltb}
use lib.ListN.{length, length-append}
use Rattle.lines.specs.Decimal.{digit, digits_in, decimal}

-- ---- the two equations

-- how many turns there are does not matter where they are enough
enough : (f g : ℕ) (b : Bool) (n : ℕ) → ltb n 10 ≡ b → n ≤ f → n ≤ g → digits_in f b n ≡ digits_in g b n
unfolding digits_in
enough zero zero b n e l m = refl
enough zero (suc g) true n e l m = refl
enough zero (suc g) false n e l m = let h = ltb-false n 10 e in absurd (omega arith)
enough (suc f) zero true n e l m = refl
enough (suc f) zero false n e l m = let h = ltb-false n 10 e in absurd (omega arith)
enough (suc f) (suc g) true n e l m = refl
enough (suc f) (suc g) false n e l m =
    let h = ltb-false n 10 e in
    ap (λ (ds : List ℕ). ds ++ (digit (n % 10) ∷ [])) (enough f g (ltb (n / 10) 10) (n / 10) refl (omega arith) (omega arith))

pub one_digit : (n : ℕ) → n < 10 → decimal n ≡ digit n ∷ []
unfolding decimal digits_in
one_digit zero l = refl
one_digit (suc n) l = rw (lt-ltb (suc n) 10 l)

pub more_digits : (n : ℕ) → 10 ≤ n → decimal n ≡ decimal (n / 10) ++ (digit (n % 10) ∷ [])
unfolding decimal digits_in
more_digits zero l = absurd (omega arith)
more_digits (suc n) l =
    rw (le-ltb (suc n) 10 l)
    (ap (λ (ds : List ℕ). ds ++ (digit (suc n % 10) ∷ [])) (enough n (suc n / 10) (ltb (suc n / 10) 10) (suc n / 10) refl (omega arith) (omega arith)))

-- what holds of every digit, and of a number with one digit more where it holds without, holds of every number
pub by_digits : (P : ℕ → Type 0) → ((n : ℕ) → n < 10 → P n) → ((n : ℕ) → 10 ≤ n → P (n / 10) → P n) → (n : ℕ) → P n
by_digits P one more n = up_to n n (omega arith)
  where
    up_to : (turns m : ℕ) → m ≤ turns → P m
    up_to zero m l = one m (omega arith)
    up_to (suc turns) m l = go (ltb m 10) refl (λ h. up_to turns (m / 10) (omega arith))
      where
        go : (b : Bool) → ltb m 10 ≡ b → (10 ≤ m → P (m / 10)) → P m
        go true e q = one m (ltb-true m 10 e)
        go false e q = more m (ltb-false m 10 e) (q (ltb-false m 10 e))

-- ---- how many there are

pub length_one : (n : ℕ) → n < 10 → length (decimal n) ≡ 1
length_one n l = rw (one_digit n l)

pub length_more : (n : ℕ) → 10 ≤ n → length (decimal n) ≡ length (decimal (n / 10)) + 1
length_more n l = rw (more_digits n l) (length-append (decimal (n / 10)) (digit (n % 10) ∷ []))

pub at_least_one : (n : ℕ) → 1 ≤ length (decimal n)
at_least_one = by_digits (λ n. 1 ≤ length (decimal n)) (λ n l. omega (arith, length_one n l)) (λ n l h. omega (arith, length_more n l))

-- a number below a power of ten has at most as many digits as the power says
pub at_most : (k n : ℕ) → n < 10 ^ suc k → length (decimal n) ≤ suc k
at_most zero n l = omega (arith, length_one n (omega arith))
at_most (suc k) n l = go (ltb n 10) refl (λ h. at_most k (n / 10) (omega (arith, pow-succ' 10 (suc k))))
  where
    go : (b : Bool) → ltb n 10 ≡ b → (10 ≤ n → length (decimal (n / 10)) ≤ suc k) → length (decimal n) ≤ suc (suc k)
    go true e q = omega (arith, length_one n (ltb-true n 10 e))
    go false e q = let h = ltb-false n 10 e in omega (arith, length_more n h, q h)

-- and one from that power on has more
at_least : (k n : ℕ) → 10 ^ k ≤ n → suc k ≤ length (decimal n)
at_least zero n l = at_least_one n
at_least (suc k) n l =
    let p : 10 ^ suc k ≡ 10 ^ k * 10 = pow-suc 10 k in
    let q : 1 ≤ 10 ^ k = one-le-pow k 10 (omega arith) in
    omega (arith, length_more n (omega arith), at_least k (n / 10) (omega arith))

pub by_power : (k n : ℕ) → 10 ^ k ≤ n → n < 10 * 10 ^ k → length (decimal n) ≡ k + 1
by_power k n l h = omega (arith, at_least k n l, at_most k n (omega (arith, pow-succ' 10 k)))

pub at_most_20 : (n : ℕ) → n < 2 ^ 64 → length (decimal n) ≤ 20
at_most_20 n l = at_most 19 n (omega arith)

pub at_most_10 : (n : ℕ) → n < 2 ^ 32 → length (decimal n) ≤ 10
at_most_10 n l = at_most 9 n (omega arith)
