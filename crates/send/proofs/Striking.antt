-- The walk of one round: what it has kept when it stands before a slot, how it passes a slot and strikes one, and that at its end the round is
-- made. Assumes nothing.
use Prim.Native.Nat.{ℕ, ◌+◌, ◌<◌, ◌^◌}
use mathlib.Core.Path.{◌≡◌, refl, sym, ap, ap₂, ◌∙◌}
use mathlib.Core.Bool.{Bool, true, false, ◌&&◌, ◌||◌, not, and-true, and-false}
use mathlib.Core.List.{List}
use native.Mathlib.Decide.{ℕ_discrete, dec_lt}
use native.Mathlib.Omega.{arith}
use borrow.Author.Tests.{eq-eqb, ne_eqb, lt-ltb, le-ltb}
use lib.Dec.{eqb, ltb}
use Rattle.masks.specs.Sets.{has, set_of, some_below}
use Rattle.masks.proofs.Laws.{has_none, has_of, is_set, set_ext, some_at, some_more, at_none}
use Rattle.rules.specs.declared.Slot.{Slot}
use Rattle.rules.specs.Rounds.{strikes, round}
use Rattle.rules.proofs.Rounds.{hard_struck, none_struck}

-- what is left of s when the slots below i that pass the test p are struck
abbrev pub struck_below : ℕ → (ℕ → Bool) → ℕ → ℕ
struck_below s p i = set_of (λ k. has s k && not (ltb k i && p k))

module _ (s : ℕ) (p : ℕ → Bool) where
  none_yet : s < 2 ^ 64 → s ≡ struck_below s p 0
  none_yet l = is_set s (λ k. has s k && not (ltb k 0 && p k)) l (λ k h. sym (rw (le-ltb k 0 (omega arith)) (and-true (has s k))))

  one_passes : (i : ℕ) → p i ≡ false → struck_below s p i ≡ struck_below s p (i + 1)
  one_passes i e = set_ext _ _ (λ k h. ap (λ (b : Bool). has s k && not b) (by k (dec_lt k i) (ℕ_discrete k i)))
    where
      by : (k : ℕ) → Dec (k < i) → Dec (k ≡ i) → (ltb k i && p k) ≡ (ltb k (i + 1) && p k)
      by k d (yes q) = rw (q, e) (and-false (ltb i i) ∙ sym (and-false (ltb i (i + 1))))
      by k (yes l) (no n) = rw (lt-ltb k i l, lt-ltb k (i + 1) (omega arith))
      by k (no m) (no n) = rw (le-ltb k i (omega arith), le-ltb k (i + 1) (omega arith))

  one_struck : (i t u : ℕ) → p i ≡ true → t ≡ struck_below s p i → u ≡ set_of (λ k. has 0 k || eqb k i)
      → set_of (λ k. has t k && not (has u k)) ≡ struck_below s p (i + 1)
  one_struck i t u e et eu = set_ext _ _ (λ k h. ap₂ (λ (a b : Bool). a && not b) (has_of _ t k et h) (at k h) ∙ by k (dec_lt k i) (ℕ_discrete k i))
    where
      at : (k : ℕ) → k < 64 → has u k ≡ eqb k i
      at k h = has_of (λ k. has 0 k || eqb k i) u k eu h ∙ rw (has_none k)

      by : (k : ℕ) → Dec (k < i) → Dec (k ≡ i) → ((has s k && not (ltb k i && p k)) && not (eqb k i)) ≡ (has s k && not (ltb k (i + 1) && p k))
      by k d (yes q) = rw (q, e, eq-eqb i i refl, lt-ltb i (i + 1) (omega arith)) (and-false (has s i && not (ltb i i && true)) ∙ sym (and-false (has s i)))
      by k (yes l) (no n) = rw (lt-ltb k i l, lt-ltb k (i + 1) (omega arith), ne_eqb k i n) (and-true (has s k && not (p k)))
      by k (no m) (no n) = rw (le-ltb k i (omega arith), le-ltb k (i + 1) (omega arith), ne_eqb k i n) (and-true (has s k && true))

  all_struck : struck_below s p 64 ≡ set_of (λ k. has s k && not (p k))
  all_struck = set_ext _ _ (λ k h. rw (lt-ltb k 64 h))

-- ---- the walk of a round that began with s, with the slots of `hard` as the hard ones

-- it has kept t before slot i, and no hard slot below was struck
pub record Walked (ss : List Slot) (hard s i t : ℕ) : Type 0 where
  pub kept : t ≡ struck_below s (strikes ss s) i
  pub hards : some_below (λ k. has hard k && strikes ss s k) i ≡ false

module _ (ss : List Slot) (hard s : ℕ) where
  pub walk_starts : s < 2 ^ 64 → Walked ss hard s 0 s
  walk_starts l = record { kept = none_yet s (strikes ss s) l; hards = at_none _ 0 (λ k h. absurd (omega arith)) }

  -- one more slot, which is hard and struck in no way
  hards_more : {i t : ℕ} → Walked ss hard s i t → (has hard i && strikes ss s i) ≡ false → some_below (λ k. has hard k && strikes ss s k) (i + 1) ≡ false
  hards_more {i} w e = some_more (λ k. has hard k && strikes ss s k) i ∙ rw (w.hards, e)

  pub walk_passes : {i t : ℕ} → Walked ss hard s i t → strikes ss s i ≡ false → Walked ss hard s (i + 1) t
  walk_passes {i} w e = record { kept = w.kept ∙ one_passes s (strikes ss s) i e; hards = hards_more w (rw e (and-false (has hard i))) }

  pub walk_strikes : {i t u t' : ℕ} → Walked ss hard s i t → strikes ss s i ≡ true → has hard i ≡ false
      → u ≡ set_of (λ k. has 0 k || eqb k i) → t' ≡ set_of (λ k. has t k && not (has u k)) → Walked ss hard s (i + 1) t'
  walk_strikes {i} {t} {u} w e soft eu et = record { kept = et ∙ one_struck s (strikes ss s) i t u e w.kept eu; hards = hards_more w (rw soft) }

  pub walk_ends : {t : ℕ} → Walked ss hard s 64 t → t ≡ round ss hard s
  walk_ends w = w.kept ∙ all_struck s (strikes ss s) ∙ sym (none_struck ss hard s w.hards)

  pub walk_breaks : {i : ℕ} → i < 64 → has hard i ≡ true → strikes ss s i ≡ true → 0 ≡ round ss hard s
  walk_breaks {i} l h e = sym (hard_struck ss hard s (some_at (λ k. has hard k && strikes ss s k) 64 i l (rw (h, e))))
