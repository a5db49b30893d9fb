-- Laws of sets of slots, said of membership: every proof about masks leans on these and not on binary digits. Assumes nothing.
use Prim.Native.Nat.{ℕ, zero, suc, ◌+◌, ◌-◌, ◌^◌, ◌≤◌, ◌<◌, min, max}
use mathlib.Core.Path.{◌≡◌, refl, sym, ap, ap₂, ◌∙◌, subst}
use mathlib.Core.Bool.{Bool, true, false, cond, ◌&&◌, ◌||◌, not, or-false}
use mathlib.Core.Logic.{⊎_elim}
use native.Mathlib.Nat.{pow-suc, lt_of_not-le, lt_of_lt_of_le, zero-add, add-zero}
use native.Mathlib.Decide.{ℕ_discrete, dec_lt}
use native.Mathlib.Numerals.{add-one}
use native.Mathlib.Omega.{arith}
use borrow.Author.Tests.{eq-eqb, ne_eqb, eqb-true, eqb-false, not-true, not-false}
use lib.Bits.{bit_and, bit_or}
use lib.Dec.{eqb}
use lib.Pow.{pow_pos, pow_mono, pow-lt}
use Rattle.masks.specs.Sets.{bit, has, Sub, set_below, set_of, some_below, within, how_many}
use Rattle.ground.proofs.Decided.{clash, same_bool, true_or_false, or-true, true_or_l, true_or_r}
use Rattle.masks.proofs.Digits.{bit_lt, bit_zero, bit-and, bit-or, bit_not, add_pow_below, add_pow_at, bit_high, bits_same, some_bit}

-- ---- membership and the digit

digit_has : (m i : ℕ) (b : Bool) → bit m i ≡ cond b 1 0 → has m i ≡ b
unfolding has
digit_has m i true e = eq-eqb (bit m i) 1 e
digit_has m i false e = ne_eqb (bit m i) 1 (λ q. omega arith)

has_digit : (m i : ℕ) → bit m i ≡ cond (has m i) 1 0
unfolding has
has_digit m i = go (has m i) refl
  where
    go : (b : Bool) → has m i ≡ b → bit m i ≡ cond b 1 0
    go true e = eqb-true (bit m i) 1 e
    go false e = let n = eqb-false (bit m i) 1 e in omega (arith, bit_lt m i)

pub has_none : (i : ℕ) → has 0 i ≡ false
has_none i = digit_has 0 i false (bit_zero i)

pub has_out : (m i : ℕ) → m < 2 ^ 64 → 64 ≤ i → has m i ≡ false
has_out m i l h = digit_has m i false (bit_high 64 m i l h)

pub has_slot : (m i : ℕ) → m < 2 ^ 64 → has m i ≡ true → i < 64
has_slot m i l e = lt_of_not-le (λ (h : 64 ≤ i). clash e (has_out m i l h))

-- ---- a set is its members

pub same_set : (a b : ℕ) → a < 2 ^ 64 → b < 2 ^ 64 → ((i : ℕ) → i < 64 → has a i ≡ has b i) → a ≡ b
same_set a b la lb f = bits_same 64 a b la lb (λ i l. has_digit a i ∙ ap (λ (x : Bool). cond x 1 0) (f i l) ∙ sym (has_digit b i))

pub same_sub : (a b : ℕ) → a < 2 ^ 64 → b < 2 ^ 64 → Sub a b → Sub b a → a ≡ b
same_sub a b la lb f g = same_set a b la lb (λ i l. same_bool (has a i) (has b i) (f i) (g i))

pub no_member : (m : ℕ) → m < 2 ^ 64 → ((i : ℕ) → i < 64 → has m i ≡ false) → m ≡ 0
no_member m l f = same_set m 0 l (omega arith) (λ i h. f i h ∙ sym (has_none i))

pub a_member : (m : ℕ) → m < 2 ^ 64 → (m ≡ 0 → ⊥) → (i : ℕ) × (i < 64) × (has m i ≡ true)
a_member m l n = let r = some_bit 64 m l n in (r.0, r.1, digit_has m r.0 true r.2)

-- ---- membership in what the operations of the code give

pub has_and : (a b i : ℕ) → has (bit_and a b) i ≡ (has a i && has b i)
has_and a b i = digit_has (bit_and a b) i (has a i && has b i) (bit-and a b i ∙ go (has a i) (has b i) (has_digit a i) (has_digit b i))
  where
    go : (p q : Bool) → bit a i ≡ cond p 1 0 → bit b i ≡ cond q 1 0 → min (bit a i) (bit b i) ≡ cond (p && q) 1 0
    go true true e f = omega arith
    go true false e f = omega arith
    go false q e f = omega arith

pub has_or : (a b i : ℕ) → has (bit_or a b) i ≡ (has a i || has b i)
has_or a b i = digit_has (bit_or a b) i (has a i || has b i) (bit-or a b i ∙ go (has a i) (has b i) (has_digit a i) (has_digit b i))
  where
    go : (p q : Bool) → bit a i ≡ cond p 1 0 → bit b i ≡ cond q 1 0 → max (bit a i) (bit b i) ≡ cond (p || q) 1 0
    go true true e f = omega arith
    go true false e f = omega arith
    go false true e f = omega arith
    go false false e f = omega arith

pub has_not : (m i : ℕ) → m < 2 ^ 64 → i < 64 → has ((2 ^ 64 - 1) - m) i ≡ not (has m i)
has_not m i l h = digit_has ((2 ^ 64 - 1) - m) i (not (has m i)) (bit_not 64 m i l h ∙ go (has m i) (has_digit m i))
  where
    go : (b : Bool) → bit m i ≡ cond b 1 0 → 1 - bit m i ≡ cond (not b) 1 0
    go true e = omega arith
    go false e = omega arith

-- `1 << i`
pub has_pow : (i k : ℕ) → has (2 ^ i) k ≡ eqb k i
has_pow i k = by (dec_lt k i) (ℕ_discrete k i)
  where
    by : Dec (k < i) → Dec (k ≡ i) → has (2 ^ i) k ≡ eqb k i
    by d (yes q) = rw (q, eq-eqb i i refl) (digit_has (2 ^ i) i true (rw zero-add at (add_pow_at i 0 (pow_pos i))))
    by (yes h) (no n) = rw (ne_eqb k i n) (digit_has (2 ^ i) k false (rw zero-add at (add_pow_below i 0 k h) ∙ bit_zero k))
    by (no g) (no n) = rw (ne_eqb k i n) (digit_has (2 ^ i) k false (bit_high (suc i) (2 ^ i) k (pow-lt (omega arith)) (omega arith)))

-- `a & !b`
pub has_without : (a b i : ℕ) → b < 2 ^ 64 → i < 64 → has (bit_and a ((2 ^ 64 - 1) - b)) i ≡ (has a i && not (has b i))
has_without a b i l h = has_and a ((2 ^ 64 - 1) - b) i ∙ ap (λ (x : Bool). has a i && x) (has_not b i l h)

-- ---- the set of the slots that pass a test

-- the test at n puts the digit n and changes none below
step_at : (n m : ℕ) (b : Bool) → m < 2 ^ n → bit (m + cond b (2 ^ n) 0) n ≡ cond b 1 0
step_at n m true l = add_pow_at n m l
step_at n m false l = ap (λ (x : ℕ). bit x n) (add-zero m) ∙ bit_high n m n l (omega arith)

step_below : (n m i : ℕ) (b : Bool) → i < n → bit (m + cond b (2 ^ n) 0) i ≡ bit m i
step_below n m i true l = add_pow_below n m i l
step_below n m i false l = ap (λ (x : ℕ). bit x i) (add-zero m)

step_lt : (n m : ℕ) (b : Bool) → m < 2 ^ n → m + cond b (2 ^ n) 0 < 2 ^ suc n
step_lt n m true l = omega (arith, pow-suc 2 n)
step_lt n m false l = omega (arith, pow-suc 2 n)

pub below_lt : (p : ℕ → Bool) (n : ℕ) → set_below p n < 2 ^ n
unfolding set_below
below_lt p zero = omega arith
below_lt p (suc n) = step_lt n (set_below p n) (p n) (below_lt p n)

below_digit : (p : ℕ → Bool) (n i : ℕ) → i < n → bit (set_below p n) i ≡ cond (p i) 1 0
unfolding set_below
below_digit p zero i l = absurd (omega arith)
below_digit p (suc n) i l = elim (ℕ_discrete n i) [
  | yes e ↦ subst (λ (k : ℕ). bit (set_below p n + cond (p n) (2 ^ n) 0) k ≡ cond (p k) 1 0) e (step_at n (set_below p n) (p n) (below_lt p n))
  | no d ↦ step_below n (set_below p n) i (p n) (omega arith) ∙ below_digit p n i (omega arith)
]

pub has_below : (p : ℕ → Bool) (n i : ℕ) → i < n → has (set_below p n) i ≡ p i
has_below p n i l = digit_has (set_below p n) i (p i) (below_digit p n i l)

pub has_above : (p : ℕ → Bool) (n i : ℕ) → n ≤ i → has (set_below p n) i ≡ false
has_above p n i l = digit_has (set_below p n) i false (bit_high n (set_below p n) i (below_lt p n) l)

pub has_set : (p : ℕ → Bool) (i : ℕ) → i < 64 → has (set_of p) i ≡ p i
has_set p i l = has_below p 64 i l

-- what a set has that is known to be the set of what passes
pub has_of : (p : ℕ → Bool) (m i : ℕ) → m ≡ set_of p → i < 64 → has m i ≡ p i
has_of p m i e l = ap (λ (x : ℕ). has x i) e ∙ has_set p i l

pub set_lt : (p : ℕ → Bool) → set_of p < 2 ^ 64
set_lt p = below_lt p 64

-- a mask that has just the slots that pass is their set
pub is_set : (m : ℕ) (p : ℕ → Bool) → m < 2 ^ 64 → ((i : ℕ) → i < 64 → has m i ≡ p i) → m ≡ set_of p
is_set m p l f = same_set m (set_of p) l (set_lt p) (λ i h. f i h ∙ sym (has_set p i h))

pub set_has : (m : ℕ) → m < 2 ^ 64 → set_of (has m) ≡ m
set_has m l = sym (is_set m (has m) l (λ i h. refl))

pub below_ext : (n : ℕ) (p q : ℕ → Bool) → ((i : ℕ) → i < n → p i ≡ q i) → set_below p n ≡ set_below q n
unfolding set_below
below_ext zero p q f = refl
below_ext (suc n) p q f =
    ap₂ (λ (m : ℕ) (b : Bool). m + cond b (2 ^ n) 0) (below_ext n p q (λ i l. f i (omega arith))) (f n (omega arith))

pub set_ext : (p q : ℕ → Bool) → ((i : ℕ) → i < 64 → p i ≡ q i) → set_of p ≡ set_of q
set_ext p q f = below_ext 64 p q f

-- a set is 0 just where nothing passes
pub set_none : (p : ℕ → Bool) {m : ℕ} → m ≡ set_of p → m ≡ 0 → (i : ℕ) → i < 64 → p i ≡ true → ⊥
set_none p e z i l h = clash (has_set p i l ∙ h) (ap (λ (x : ℕ). has x i) (sym e ∙ z) ∙ has_none i)

pub set_some : (p : ℕ → Bool) {m : ℕ} → m ≡ set_of p → (m ≡ 0 → ⊥) → (i : ℕ) × (i < 64) × (p i ≡ true)
set_some p e n = let z = a_member (set_of p) (set_lt p) (λ q. n (e ∙ q)) in (z.0, z.1, sym (has_set p z.0 z.1) ∙ z.2)

-- a loop over the slots: none passed, one more that passes, one that does not
pub below_none : (p : ℕ → Bool) → set_below p 0 ≡ 0
unfolding set_below
below_none p = refl

pub below_pass : (p : ℕ → Bool) (i : ℕ) → p i ≡ false → set_below p i ≡ set_below p (i + 1)
unfolding set_below
below_pass p i e = rw (add-one, e) (omega arith)

below_with : (p : ℕ → Bool) (i : ℕ) → i < 64 → p i ≡ true → set_of (λ k. has (set_below p i) k || eqb k i) ≡ set_below p (i + 1)
below_with p i l e =
    sym (is_set (set_below p (i + 1)) (λ k. has (set_below p i) k || eqb k i)
    (lt_of_lt_of_le (below_lt p (i + 1)) (pow_mono {j = 64} (omega arith)))
    (λ k h. by k (dec_lt k i) (ℕ_discrete k i)))
  where
    by : (k : ℕ) → Dec (k < i) → Dec (k ≡ i) → has (set_below p (i + 1)) k ≡ (has (set_below p i) k || eqb k i)
    by k d (yes q) = rw (q, has_below p (i + 1) i (omega arith), e, has_above p i i (omega arith), eq-eqb i i refl)
    by k (yes h) (no n) = rw (has_below p (i + 1) k (omega arith), has_below p i k h, ne_eqb k i n) (sym (or-false (p k)))
    by k (no g) (no n) = rw (has_above p (i + 1) k (omega arith), has_above p i k (omega arith), ne_eqb k i n)

-- the same of a set that is known to be that of the slots below i
pub with_below : (p : ℕ → Bool) (i m : ℕ) → m ≡ set_below p i → i < 64 → p i ≡ true → set_of (λ k. has m k || eqb k i) ≡ set_below p (i + 1)
with_below p i m e l h = ap (λ (x : ℕ). set_of (λ k. has x k || eqb k i)) e ∙ below_with p i l h

-- no slot besides
pub with_none : (m : ℕ) → m < 2 ^ 64 → set_of (λ k. has m k || false) ≡ m
with_none m l = set_ext (λ k. has m k || false) (has m) (λ k h. or-false (has m k)) ∙ set_has m l

-- the same where the slot goes into the set just if it passes
pub with_if_below : (p : ℕ → Bool) (i m : ℕ) (goes : Bool) → m ≡ set_below p i → i < 64 → goes ≡ p i
    → set_of (λ k. has m k || (goes && eqb k i)) ≡ set_below p (i + 1)
with_if_below p i m true e l h = with_below p i m e l (sym h)
with_if_below p i m false e l h =
    with_none m (rw e (lt_of_lt_of_le (below_lt p i) (pow_mono {j = 64} (omega arith)))) ∙ e ∙ below_pass p i (sym h)

-- ---- whether some slot passes

pub some_at : (p : ℕ → Bool) (n i : ℕ) → i < n → p i ≡ true → some_below p n ≡ true
unfolding some_below
some_at p zero i l e = absurd (omega arith)
some_at p (suc n) i l e = elim (ℕ_discrete n i) [
  | yes q ↦ true_or_r (some_below p n) (subst (λ (k : ℕ). p k ≡ true) (sym q) e)
  | no d ↦ true_or_l (p n) (some_at p n i (omega arith) e)
]

pub at_some : (p : ℕ → Bool) (n : ℕ) → some_below p n ≡ true → (i : ℕ) × (i < n) × (p i ≡ true)
unfolding some_below
at_some p zero e = absurd (clash e refl)
at_some p (suc n) e =
    ⊎_elim (λ h. let z = at_some p n h in (z.0, omega (arith, z.1), z.2)) (λ h. (n, omega arith, h)) (or-true (some_below p n) (p n) e)

pub none_at : (p : ℕ → Bool) (n i : ℕ) → some_below p n ≡ false → i < n → p i ≡ false
none_at p n i e l = ⊎_elim (λ h. absurd (clash (some_at p n i l h) e)) (λ h. h) (true_or_false (p i))

pub at_none : (p : ℕ → Bool) (n : ℕ) → ((i : ℕ) → i < n → p i ≡ false) → some_below p n ≡ false
at_none p n f = ⊎_elim (λ e. let z = at_some p n e in absurd (clash z.2 (f z.0 z.1))) (λ e. e) (true_or_false (some_below p n))

-- a loop over the slots: one more
pub some_more : (p : ℕ → Bool) (n : ℕ) → some_below p (n + 1) ≡ (some_below p n || p n)
unfolding some_below
some_more p n = rw add-one

-- ---- a set within another

pub within_at : (a b i : ℕ) → within a b ≡ true → i < 64 → has a i ≡ true → has b i ≡ true
within_at a b i w l h = not-false (has b i) (rw h at (none_at (λ k. has a k && not (has b k)) 64 i (not-true _ w) l))

pub at_within : (a b : ℕ) → ((i : ℕ) → i < 64 → has a i ≡ true → has b i ≡ true) → within a b ≡ true
at_within a b f = ap not (at_none (λ k. has a k && not (has b k)) 64 (λ i l. ⊎_elim (λ h. rw (f i l h, h)) (λ h. rw h) (true_or_false (has a i))))

pub within_sub : (a b : ℕ) → a < 2 ^ 64 → within a b ≡ true → Sub a b
within_sub a b l w i h = within_at a b i w (has_slot a i l h) h

pub sub_within : (a b : ℕ) → Sub a b → within a b ≡ true
sub_within a b f = at_within a b (λ i l. f i)

-- ---- how many pass

one_le : (a b : Bool) → (a ≡ true → b ≡ true) → cond a 1 0 ≤ cond b 1 0
one_le true b f = rw (f refl) (omega arith)
one_le false b f = omega arith

pub many_le : (p : ℕ → Bool) (n : ℕ) → how_many p n ≤ n
unfolding how_many
many_le p zero = omega arith
many_le p (suc n) = omega (arith, many_le p n, one_le (p n) true (λ e. refl))

-- a test that passes only what another passes: no more pass, and where as many pass the tests are one
same_one : (a b : Bool) → ◌≡◌ {A = ℕ} (cond a 1 0) (cond b 1 0) → a ≡ b
same_one true true e = refl
same_one true false e = absurd (omega arith)
same_one false true e = absurd (omega arith)
same_one false false e = refl

many_sub : (n : ℕ) (p q : ℕ → Bool) → ((i : ℕ) → p i ≡ true → q i ≡ true) → how_many p n ≤ how_many q n
unfolding how_many
many_sub zero p q f = omega arith
many_sub (suc n) p q f = omega (arith, many_sub n p q f, one_le (p n) (q n) (f n))

many_same : (n : ℕ) (p q : ℕ → Bool) → ((i : ℕ) → p i ≡ true → q i ≡ true) → how_many q n ≤ how_many p n → (i : ℕ) → i < n → p i ≡ q i
unfolding how_many
many_same zero p q f h i l = absurd (omega arith)
many_same (suc n) p q f h i l =
    let s = many_sub n p q f in
    let t = one_le (p n) (q n) (f n) in
    elim (ℕ_discrete n i) [
      | yes e ↦ subst (λ (k : ℕ). p k ≡ q k) e (same_one (p n) (q n) (omega arith))
      | no d ↦ many_same n p q f (omega arith) i (omega arith)
    ]

pub size_less : (a b : ℕ) → a < 2 ^ 64 → b < 2 ^ 64 → Sub a b → (a ≡ b → ⊥) → how_many (has a) 64 < how_many (has b) 64
size_less a b la lb f n =
    lt_of_not-le (λ (h : how_many (has b) 64 ≤ how_many (has a) 64). n (same_set a b la lb (many_same 64 (has a) (has b) f h)))
