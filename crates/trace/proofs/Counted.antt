-- What the counts of a run say of its notes, whatever slots are: `holds n i` says that slot i holds the number n. Assumes nothing.
use Prim.Native.Nat.{ℕ, suc, ◌+◌, ◌≤◌, ◌<◌}
use mathlib.Core.Path.{◌≡◌, refl, sym, ap, subst, ◌∙◌}
use mathlib.Core.Bool.{Bool, true, false, cond, ◌&&◌, ◌||◌, not}
use mathlib.Core.List.{List, ◌∷◌}
use mathlib.Core.Logic.{◌⊎◌, inl, inr}
use native.Mathlib.Omega.{arith}
use borrow.Author.Tests.{not-true}
use lib.ListN.{length, get_or}
use Rattle.masks.specs.Sets.{has, some_below}
use Rattle.masks.proofs.Laws.{at_some, some_at, none_at, at_none}
use Rattle.ground.proofs.Decided.{clash, and-true, true_and, true_or_false, same_bool}
use Rattle.rules.specs.Create.{is_in}
use Rattle.rules.proofs.SlotsBy.{at_by}
use Rattle.tally.specs.Counts.{most_count, plus, counts_by, carried, cleared}
use Rattle.trace.specs.OnStore.{how_many_of}
use Rattle.trace.proofs.HowMany.{many_most, many_same, many_either, many_if, carried_many}

-- no slot holds the number n
abbrev pub nowhere : (ℕ → ℕ → Bool) → ℕ → Bool
nowhere holds n = not (some_below (holds n) 64)

-- a slot of the set s holds it
abbrev pub within : (ℕ → ℕ → Bool) → ℕ → ℕ → Bool
within holds s n = some_below (λ i. holds n i && has s i) 64

-- slot i holds it and is not of the set s
abbrev pub outside : (ℕ → ℕ → Bool) → ℕ → ℕ → ℕ → Bool
outside holds s n i = holds n i && not (has s i)

-- a number is in one slot
abbrev pub Single : (ℕ → ℕ → Bool) → Type 0
Single holds = (n i j : ℕ) → i < 64 → j < 64 → holds n i ≡ true → holds n j ≡ true → i ≡ j

pub record Counted (holds : ℕ → ℕ → Bool) (changes : List ℕ) (committed : ℕ) (ns : List ℕ) : Type 0 where
  pub each : (i : ℕ) → i < 64 → get_or changes i 0 ≡ how_many_of (λ n. holds n i) ns
  pub gone : committed ≡ how_many_of (nowhere holds) ns

pub some_same : (p q : ℕ → Bool) → ((i : ℕ) → i < 64 → p i ≡ q i) → some_below p 64 ≡ some_below q 64
some_same p q f = same_bool (some_below p 64) (some_below q 64) (there p q f) (there q p (λ i l. sym (f i l)))
  where
    there : (p q : ℕ → Bool) → ((i : ℕ) → i < 64 → p i ≡ q i) → some_below p 64 ≡ true → some_below q 64 ≡ true
    there p q f e = let z = at_some p 64 e in some_at q 64 z.0 z.1 (sym (f z.0 z.1) ∙ z.2)

-- the slots hold other numbers, but of those noted the same
pub same_counted : (h g : ℕ → ℕ → Bool) {changes : List ℕ} {committed : ℕ} {ns : List ℕ}
    → ((n : ℕ) → is_in n ns ≡ true → (i : ℕ) → i < 64 → g n i ≡ h n i) → Counted h changes committed ns → Counted g changes committed ns
same_counted h g {ns = ns} f k = record {
  each = λ i l. k.each i l ∙ many_same (λ n. h n i) (λ n. g n i) ns (λ n e. sym (f n e i l));
  gone = k.gone ∙ many_same (nowhere h) (nowhere g) ns (λ n e. ap not (sym (some_same (g n) (h n) (f n e))));
}

-- one note more, of a number that a slot holds
pub more_counted : (h : ℕ → ℕ → Bool) (n : ℕ) {changes : List ℕ} {committed : ℕ} {ns : List ℕ} → suc (length ns) ≤ most_count
    → some_below (h n) 64 ≡ true → Counted h changes committed ns
    → Counted h (counts_by (λ i. cond (h n i) (plus (get_or changes i 0) 1) (get_or changes i 0))) committed (n ∷ ns)
unfolding how_many_of plus
more_counted h n {changes} {committed} {ns} few there k = record {
  each = λ i l.
      at_by 0 (λ i. cond (h n i) (plus (get_or changes i 0) 1) (get_or changes i 0)) 64 i l
      ∙ one (h n i) (get_or changes i 0) (how_many_of (λ m. h m i) ns) (k.each i l) (many_most (λ m. h m i) ns);
  gone = rw there (k.gone ∙ (omega arith));
}
  where
    one : (b : Bool) (c m : ℕ) → c ≡ m → m ≤ length ns → cond b (plus c 1) c ≡ cond b 1 0 + m
    one true c m e l = omega arith
    one false c m e l = omega arith

-- ---- a set of slots

module _ (holds : ℕ → ℕ → Bool) (single : Single holds) (s : ℕ) where
  -- a number is in no slot, or in one of the set, and not both
  pub not_both : (n : ℕ) → nowhere holds n ≡ true → within holds s n ≡ true → ⊥
  not_both n e f =
      let z = at_some (λ i. holds n i && has s i) 64 f in
      clash (some_at (holds n) 64 z.0 z.1 (and-true (holds n z.0) _ z.2).0) (not-true (some_below (holds n) 64) e)

  -- in no slot outside the set: in none, or in one of the set
  pub left_nowhere : (n : ℕ) → nowhere (outside holds s) n ≡ (nowhere holds n || within holds s n)
  left_nowhere n = go (true_or_false (some_below (holds n) 64))
    where
      -- a slot other than the one that holds it does not
      alone : (b : ℕ → Bool) (i : ℕ) → i < 64 → holds n i ≡ true → b i ≡ false → (k : ℕ) → k < 64 → (holds n k && b k) ≡ false
      alone b i l e f k m = by (true_or_false (holds n k))
        where
          by : (holds n k ≡ true) ⊎ (holds n k ≡ false) → (holds n k && b k) ≡ false
          by (inl h) = rw h (subst (λ (x : ℕ). b x ≡ false) (single n i k l m e h) f)
          by (inr h) = rw h

      at : (i : ℕ) → i < 64 → holds n i ≡ true → (has s i ≡ true) ⊎ (has s i ≡ false) → nowhere (outside holds s) n ≡ within holds s n
      at i l e (inl h) =
          ap not (at_none (outside holds s n) 64 (alone (λ k. not (has s k)) i l e (ap not h)))
          ∙ sym (some_at (λ k. holds n k && has s k) 64 i l (true_and e h))
      at i l e (inr h) =
          ap not (some_at (outside holds s n) 64 i l (true_and e (ap not h))) ∙ sym (at_none (λ k. holds n k && has s k) 64 (alone (has s) i l e h))

      go : (some_below (holds n) 64 ≡ true) ⊎ (some_below (holds n) 64 ≡ false) → nowhere (outside holds s) n ≡ (nowhere holds n || within holds s n)
      go (inl e) = let z = at_some (holds n) 64 e in rw e (at z.0 z.1 z.2 (true_or_false (has s z.0)))
      go (inr e) = rw e (ap not (at_none (outside holds s n) 64 (λ k m. rw (none_at (holds n) 64 k e m))))

  module _ {changes : List ℕ} {committed : ℕ} {ns : List ℕ} (few : length ns ≤ most_count) (k : Counted holds changes committed ns) where
    -- those in no slot and those of the set together
    pub joint : plus committed (carried changes s) ≡ how_many_of (λ n. nowhere holds n || within holds s n) ns
    unfolding plus
    joint =
        omega (
          arith,
          few,
          k.gone,
          carried_many holds single changes ns few k.each s 64 (omega arith),
          many_either (nowhere holds) (within holds s) ns not_both,
          many_most (λ n. nowhere holds n || within holds s n) ns,
        )

    -- the slots of the set are emptied, and hold none of their numbers any more
    pub less_counted : Counted (outside holds s) (cleared changes s) (plus committed (carried changes s)) ns
    unfolding cleared
    less_counted = record {
      each = λ i l.
          at_by 0 (λ i. cond (has s i) 0 (get_or changes i 0)) 64 i l ∙ emptied (has s i) (get_or changes i 0)
          ∙ ap (λ (x : ℕ). cond (not (has s i)) x 0) (k.each i l) ∙ sym (many_if (λ n. holds n i) (not (has s i)) ns);
      gone = joint ∙ many_same (λ n. nowhere holds n || within holds s n) (nowhere (outside holds s)) ns (λ n e. sym (left_nowhere n));
    }
      where
        emptied : (b : Bool) (c : ℕ) → cond b 0 c ≡ cond (not b) c 0
        emptied true c = refl
        emptied false c = refl
