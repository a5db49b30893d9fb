-- Subsets that may go are closed under union, so there is one largest.
use Prim.Native.Nat.{ℕ, ◌<◌}
use mathlib.Core.Path.{◌≡◌, sym, ◌∙◌}
use mathlib.Core.Bool.{true, ◌||◌}
use mathlib.Core.List.{List}
use mathlib.Core.Logic.{◌⊎◌, inl, inr, ⊎_elim}
use native.Mathlib.Omega.{arith}
use Rattle.masks.specs.Sets.{has, set_of}
use Rattle.masks.proofs.Laws.{has_set, has_slot, has_none, set_lt, same_sub}
use Rattle.ground.proofs.Decided.{clash, or-true, true_or_l, true_or_r}
use Rattle.rules.specs.declared.Slot.{Slot}
use Rattle.rules.specs.Write.{MayGo, Largest}

-- the slots of a and of b
abbrev pub union : ℕ → ℕ → ℕ
union a b = set_of (λ i. has a i || has b i)

in_union : (u v i : ℕ) → i < 64 → (has u i ≡ true) ⊎ (has v i ≡ true) → has (union u v) i ≡ true
in_union u v i l e = has_set (λ k. has u k || has v k) i l ∙ ⊎_elim (λ p. true_or_l (has v i) p) (λ p. true_or_r (has u i) p) e

of_union : (u v i : ℕ) → has (union u v) i ≡ true → (has u i ≡ true) ⊎ (has v i ≡ true)
of_union u v i e =
    or-true (has u i) (has v i) (sym (has_set (λ k. has u k || has v k) i (has_slot (union u v) i (set_lt (λ k. has u k || has v k)) e)) ∙ e)

module _ {ss : List Slot} {b : ℕ} where
  pub union_may_go : (u v : ℕ) → MayGo ss b u → MayGo ss b v → MayGo ss b (union u v)
  union_may_go u v p q = record {
    set = set_lt (λ k. has u k || has v k);
    within = λ i e. ⊎_elim (p.within i) (q.within i) (of_union u v i e);
    closed = λ i j e l h. ⊎_elim (λ m. in_union u v j l (inl (p.closed i j m l h))) (λ m. in_union u v j l (inr (q.closed i j m l h))) (of_union u v i e);
    hards = λ i e h l d.
        ⊎_elim (λ m. in_union u v h l (inl (p.hards i m h l d))) (λ m. in_union u v h l (inr (q.hards i m h l d))) (of_union u v i e);
  }

  -- any two largest are equal
  pub largest_one : (u v : ℕ) → Largest ss b u → Largest ss b v → u ≡ v
  largest_one u v p q = same_sub u v p.goes.set q.goes.set (q.most u p.goes) (p.most v q.goes)

  -- where the largest is empty, only the empty set may go
  pub largest_empty : Largest ss b 0 → (u : ℕ) → MayGo ss b u → u ≡ 0
  largest_empty l u m = same_sub u 0 m.set (omega arith) (l.most u m) (λ i h. absurd (clash h (has_none i)))
