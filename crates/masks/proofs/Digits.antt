-- Laws of binary digits: what the operations of the code do to a digit, and that a number is its digits. They stand apart from the
-- laws of sets, which speak of membership only. Assumes nothing.
use Prim.Native.Nat.{ℕ, zero, suc, ◌+◌, ◌-◌, ◌/◌, ◌%◌, ◌^◌, ◌≤◌, ◌<◌, min, max}
use mathlib.Core.Path.{◌≡◌, refl, sym, ap, ◌∙◌}
use native.Mathlib.Nat.{pow-suc, pow-succ', div-one, div-div-eq-div-mul}
use native.Mathlib.Omega.{arith}
use lib.Bits.{bit_and, bit_or, and_step, or_step, and_mask}
use Rattle.masks.specs.Sets.{bit}

pub bit_lt : (m i : ℕ) → bit m i < 2
unfolding bit
bit_lt m zero = omega arith
bit_lt m (suc i) = bit_lt (m / 2) i

pub bit_zero : (i : ℕ) → bit 0 i ≡ 0
unfolding bit
bit_zero zero = refl
bit_zero (suc i) = bit_zero i

-- the digit that `m >> i & 1` gives
bit_shr : (m i : ℕ) → bit m i ≡ m / 2 ^ i % 2
unfolding bit
bit_shr m zero = ap (λ (x : ℕ). x % 2) (sym (div-one m))
bit_shr m (suc i) =
    bit_shr (m / 2) i ∙ ap (λ (x : ℕ). x % 2) (div-div-eq-div-mul m 2 (2 ^ i) ∙ ap (λ (x : ℕ). m / x) (sym (pow-succ' 2 i)))

pub shr_bit : (m i : ℕ) → bit_and (m / 2 ^ i) 1 ≡ bit m i
shr_bit m i = and_mask (m / 2 ^ i) 1 ∙ sym (bit_shr m i)

-- the digits of `a & b`, `a | b` and `!m`
pub bit-and : (a b i : ℕ) → bit (bit_and a b) i ≡ min (bit a i) (bit b i)
unfolding bit
bit-and a b zero = omega (arith, and_step a b)
bit-and a b (suc i) =
    let e : bit_and a b / 2 ≡ bit_and (a / 2) (b / 2) = omega (arith, and_step a b) in ap (λ (x : ℕ). bit x i) e ∙ bit-and (a / 2) (b / 2) i

pub bit-or : (a b i : ℕ) → bit (bit_or a b) i ≡ max (bit a i) (bit b i)
unfolding bit
bit-or a b zero = omega (arith, or_step a b)
bit-or a b (suc i) =
    let e : bit_or a b / 2 ≡ bit_or (a / 2) (b / 2) = omega (arith, or_step a b) in ap (λ (x : ℕ). bit x i) e ∙ bit-or (a / 2) (b / 2) i

pub bit_not : (k m i : ℕ) → m < 2 ^ k → i < k → bit ((2 ^ k - 1) - m) i ≡ 1 - bit m i
unfolding bit
bit_not zero m i h l = absurd (omega arith)
bit_not (suc k) m zero h l = omega (arith, pow-suc 2 k)
bit_not (suc k) m (suc i) h l =
    let p = pow-suc 2 k in
    let e : ((2 ^ suc k - 1) - m) / 2 ≡ (2 ^ k - 1) - m / 2 = omega arith in
    ap (λ (x : ℕ). bit x i) e ∙ bit_not k (m / 2) i (omega arith) (omega arith)

-- m with 2 ^ n added: nothing changes below n, and the digit n, where m had none, is 1
pub add_pow_below : (n m i : ℕ) → i < n → bit (m + 2 ^ n) i ≡ bit m i
unfolding bit
add_pow_below zero m i l = absurd (omega arith)
add_pow_below (suc n) m zero l = omega (arith, pow-suc 2 n)
add_pow_below (suc n) m (suc i) l =
    let e : (m + 2 ^ suc n) / 2 ≡ m / 2 + 2 ^ n = omega (arith, pow-suc 2 n) in
    ap (λ (x : ℕ). bit x i) e ∙ add_pow_below n (m / 2) i (omega arith)

pub add_pow_at : (n m : ℕ) → m < 2 ^ n → bit (m + 2 ^ n) n ≡ 1
unfolding bit
add_pow_at zero m h = omega arith
add_pow_at (suc n) m h =
    let p = pow-suc 2 n in
    let e : (m + 2 ^ suc n) / 2 ≡ m / 2 + 2 ^ n = omega arith in
    ap (λ (x : ℕ). bit x n) e ∙ add_pow_at n (m / 2) (omega arith)

-- a digit past the number's length
pub bit_high : (k m i : ℕ) → m < 2 ^ k → k ≤ i → bit m i ≡ 0
unfolding bit
bit_high zero m i h l = let e : m ≡ 0 = omega arith in ap (λ (x : ℕ). bit x i) e ∙ bit_zero i
bit_high (suc k) m zero h l = absurd (omega arith)
bit_high (suc k) m (suc i) h l = bit_high k (m / 2) i (omega (arith, pow-suc 2 k)) (omega arith)

-- two numbers with the same digits are one
pub bits_same : (k a b : ℕ) → a < 2 ^ k → b < 2 ^ k → ((i : ℕ) → i < k → bit a i ≡ bit b i) → a ≡ b
unfolding bit
bits_same zero a b l h f = omega arith
bits_same (suc k) a b l h f =
    let p = pow-suc 2 k in
    let e : a / 2 ≡ b / 2 = bits_same k (a / 2) (b / 2) (omega arith) (omega arith) (λ i q. f (suc i) (omega arith)) in
    omega (arith, f zero (omega arith))

-- a number that is not 0 has a digit that is 1
pub some_bit : (k m : ℕ) → m < 2 ^ k → (m ≡ 0 → ⊥) → (i : ℕ) × (i < k) × (bit m i ≡ 1)
unfolding bit
some_bit zero m l n = absurd (n (omega arith))
some_bit (suc k) m l n = go (m % 2) refl (some_bit k (m / 2) (omega (arith, pow-suc 2 k)))
  where
    go : (x : ℕ) → m % 2 ≡ x → ((m / 2 ≡ 0 → ⊥) → (i : ℕ) × (i < k) × (bit (m / 2) i ≡ 1)) → (i : ℕ) × (i < suc k) × (bit m i ≡ 1)
    go zero e f = let r = f (λ q. n (omega arith)) in (suc r.0, omega arith, r.2)
    go (suc x) e f = (zero, omega arith, omega arith)
