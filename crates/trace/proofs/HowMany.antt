-- How many of a list of numbers pass a test: what the counts of a run are taken from. Assumes nothing.
use Prim.Native.Nat.{ℕ, zero, suc, ◌+◌, ◌≤◌, ◌<◌}
use mathlib.Core.Path.{◌≡◌, refl, sym, ap, ap₂, ◌∙◌}
use mathlib.Core.Bool.{Bool, true, false, cond, ◌&&◌, ◌||◌}
use mathlib.Core.Bool as bool
use mathlib.Core.List.{List, [], ◌∷◌}
use native.Mathlib.Omega.{arith}
use borrow.Author.Tests.{eq-eqb}
use lib.Dec.{eqb}
use lib.ListN.{length, get_or}
use Rattle.masks.specs.Sets.{has, some_below}
use Rattle.masks.proofs.Laws.{at_some}
use Rattle.ground.proofs.Decided.{and-true, true_or_l, true_or_r}
use Rattle.rules.specs.Create.{is_in}
use Rattle.tally.specs.Counts.{most_count, plus, carried_below}
use Rattle.trace.specs.OnStore.{how_many_of}

one_most : (b : Bool) → cond b 1 0 ≤ 1
one_most true = omega arith
one_most false = omega arith

pub many_most : (p : ℕ → Bool) (ns : List ℕ) → how_many_of p ns ≤ length ns
unfolding how_many_of
many_most p [] = omega arith
many_most p (n ∷ ns) = omega (arith, one_most (p n), many_most p ns)

pub many_none : (ns : List ℕ) → how_many_of (λ n. false) ns ≡ 0
unfolding how_many_of
many_none [] = refl
many_none (n ∷ ns) = omega (arith, many_none ns)

-- tests that say the same of each of the numbers
pub many_same : (p q : ℕ → Bool) (ns : List ℕ) → ((n : ℕ) → is_in n ns ≡ true → p n ≡ q n) → how_many_of p ns ≡ how_many_of q ns
unfolding how_many_of is_in
many_same p q [] f = refl
many_same p q (n ∷ ns) f =
    ap₂ (λ (b : Bool) (m : ℕ). cond b 1 0 + m) (f n (true_or_l (is_in n ns) (eq-eqb n n refl)))
    (many_same p q ns (λ m e. f m (true_or_r (eqb m n) e)))

-- tests of which no number passes both
either : (a b : Bool) → (a ≡ true → b ≡ true → ⊥) → cond (a || b) 1 0 ≡ cond a 1 0 + cond b 1 0
either true true f = absurd (f refl refl)
either true false f = refl
either false true f = refl
either false false f = refl

pub many_either : (p q : ℕ → Bool) (ns : List ℕ) → ((n : ℕ) → p n ≡ true → q n ≡ true → ⊥)
    → how_many_of (λ n. p n || q n) ns ≡ how_many_of p ns + how_many_of q ns
unfolding how_many_of
many_either p q [] f = refl
many_either p q (n ∷ ns) f = omega (arith, either (p n) (q n) (f n), many_either p q ns f)

-- a test that goes for all or for none
pub many_if : (p : ℕ → Bool) (b : Bool) (ns : List ℕ) → how_many_of (λ n. p n && b) ns ≡ cond b (how_many_of p ns) 0
many_if p true ns = many_same (λ n. p n && true) p ns (λ n e. bool.and-true (p n))
many_if p false ns = many_same (λ n. p n && false) (λ n. false) ns (λ n e. bool.and-false (p n)) ∙ many_none ns

-- each slot's count is how many of the notes hold of it, and a note holds of one slot: the sum over a set is how many hold of a slot in it
module _ (h : ℕ → ℕ → Bool) (one : (n i j : ℕ) → i < 64 → j < 64 → h n i ≡ true → h n j ≡ true → i ≡ j) (changes ns : List ℕ)
    (few : length ns ≤ most_count) (each : (i : ℕ) → i < 64 → get_or changes i 0 ≡ how_many_of (λ n. h n i) ns) (s : ℕ) where
  apart : (k n : ℕ) → k < 64 → some_below (λ i. h n i && has s i) k ≡ true → (h n k && has s k) ≡ true → ⊥
  apart k n l e f =
      let z = at_some (λ i. h n i && has s i) k e in
      let same = one n z.0 k (omega (arith, z.1)) l (and-true (h n z.0) _ z.2).0 (and-true (h n k) _ f).0 in
      omega (arith, z.1, same)

  pub carried_many : (k : ℕ) → k ≤ 64 → carried_below changes s k ≡ how_many_of (λ n. some_below (λ i. h n i && has s i) k) ns
  unfolding carried_below some_below plus
  carried_many zero l = sym (many_none ns)
  carried_many (suc k) l =
      let m : k < 64 = omega arith in
      let here : cond (has s k) (get_or changes k 0) 0 ≡ how_many_of (λ n. h n k && has s k) ns =
      ap (λ (x : ℕ). cond (has s k) x 0) (each k m) ∙ sym (many_if (λ n. h n k) (has s k) ns) in
      let both = many_either (λ n. some_below (λ i. h n i && has s i) k) (λ n. h n k && has s k) ns (λ n e f. apart k n m e f) in
      let most = many_most (λ n. some_below (λ i. h n i && has s i) k || (h n k && has s k)) ns in
      omega (arith, carried_many k (omega arith), here, both, most, few)
