-- The first case that holds: how it is shown, and that it is one. Every promise's refusals rest on these.
use Prim.Native.Nat.{ℕ, ◌≤◌}
use mathlib.Core.Path.{◌≡◌, refl, sym, ◌∙◌}
use mathlib.Core.List.{List, [], ◌∷◌, ◌++◌}
use native.Mathlib.Omega.{arith}
use mathlib.Core.Logic.{◌⊎◌, inl, inr}
use Rattle.rules.specs.Refusals.{Case, case, FirstOf, First}

pub holds : {n : ℕ} {C : Type 0} {rest : List Case} → C → First (case n C ∷ rest) n
unfolding FirstOf
holds c = record { is = inl (c, refl) }

pub passes : {n k : ℕ} {C : Type 0} {rest : List Case} → (C → ⊥) → First rest k → First (case n C ∷ rest) k
unfolding FirstOf
passes c f = record { is = inr (c, f.is) }

pub none_holds : First [] 0
unfolding FirstOf
none_holds = record { is = refl }

-- the first case that holds is still the first where others come after
still : (l more : List Case) (k : ℕ) → (k ≡ 0 → ⊥) → FirstOf l k → FirstOf (l ++ more) k
unfolding FirstOf
still [] more k d e = absurd (d e)
still (c ∷ l) more k d (inl p) = inl p
still (c ∷ l) more k d (inr p) = inr (p.0, still l more k d p.1)

pub first_still : {l : List Case} {k : ℕ} (more : List Case) → (k ≡ 0 → ⊥) → First l k → First (l ++ more) k
first_still {l} {k} more d f = record { is = still l more k d f.is }

-- no case of the list has the number 0
abbrev pub NoneZero : List Case → Type 0
NoneZero [] = Unit {0}
NoneZero (c ∷ l) = (c.number ≡ 0 → ⊥) × NoneZero l

after : (l more : List Case) (k : ℕ) → NoneZero l → FirstOf l 0 → FirstOf more k → FirstOf (l ++ more) k
unfolding FirstOf
after [] more k z e f = f
after (c ∷ l) more k z (inl p) f = absurd (z.0 (sym p.1))
after (c ∷ l) more k z (inr p) f = inr (p.0, after l more k z.1 p.1 f)

-- where none of them holds, the first is one of those that come after
pub first_after : {l more : List Case} {k : ℕ} → NoneZero l → First l 0 → First more k → First (l ++ more) k
first_after {l} {more} {k} z e f = record { is = after l more k z e.is f.is }

-- a case that does not hold is passed
pub passed : {n k : ℕ} {C : Type 0} {rest : List Case} → (k ≡ n → ⊥) → First (case n C ∷ rest) k → (C → ⊥) × First rest k
unfolding FirstOf
passed {n} {k} {C} {rest} d f = go f.is
  where
    go : (C × (k ≡ n)) ⊎ ((C → ⊥) × FirstOf rest k) → (C → ⊥) × First rest k
    go (inl p) = absurd (d p.1)
    go (inr p) = (p.0, record { is = p.1 })

-- two lists of cases with the same numbers, whose conditions hold alike
AlikeOf : List Case → List Case → Type 0
AlikeOf [] [] = Unit {0}
AlikeOf [] (d ∷ m) = ⊥
AlikeOf (c ∷ l) [] = ⊥
AlikeOf (c ∷ l) (d ∷ m) = (c.number ≡ d.number) × (c.condition → d.condition) × (d.condition → c.condition) × AlikeOf l m

pub record Alike (l m : List Case) : Type 0 where
  is : AlikeOf l m

pub none_differs : Alike [] []
unfolding AlikeOf
none_differs = record { is = tt }

pub as_well : {n : ℕ} {C D : Type 0} {l m : List Case} → (C → D) → (D → C) → Alike l m → Alike (case n C ∷ l) (case n D ∷ m)
unfolding AlikeOf
as_well f g a = record { is = (refl, f, g, a.is) }

pub as_is : {n : ℕ} {C : Type 0} {l m : List Case} → Alike l m → Alike (case n C ∷ l) (case n C ∷ m)
as_is a = as_well (λ x. x) (λ x. x) a

-- have the same first one
alike : (l m : List Case) (k : ℕ) → AlikeOf l m → FirstOf l k → FirstOf m k
unfolding FirstOf AlikeOf
alike [] [] k a f = f
alike [] (d ∷ m) k a f = elim a [ ]
alike (c ∷ l) [] k a f = elim a [ ]
alike (c ∷ l) (d ∷ m) k a (inl p) = inl (a.1 p.0, p.1 ∙ a.0)
alike (c ∷ l) (d ∷ m) k a (inr p) = inr (λ h. p.0 (a.2 h), alike l m k a.3 p.1)

pub first_alike : {l m : List Case} {k : ℕ} → Alike l m → First l k → First m k
first_alike {l} {m} {k} a f = record { is = alike l m k a.is f.is }

one : (cases : List Case) (j k : ℕ) → FirstOf cases j → FirstOf cases k → j ≡ k
unfolding FirstOf
one [] j k p q = p ∙ sym q
one (c ∷ rest) j k (inl p) (inl q) = p.1 ∙ sym q.1
one (c ∷ rest) j k (inl p) (inr q) = absurd (q.0 p.0)
one (c ∷ rest) j k (inr p) (inl q) = absurd (p.0 q.0)
one (c ∷ rest) j k (inr p) (inr q) = one rest j k p.1 q.1

-- the first refusal that holds is one
pub first_one : {cases : List Case} {j k : ℕ} → First cases j → First cases k → j ≡ k
first_one {cases} {j} {k} p q = one cases j k p.is q.is

-- a first case's number is at most what all of the list are
unfoldable pub AtMost : ℕ → List Case → Type 0
AtMost n [] = Unit {0}
AtMost n (c ∷ l) = (c.number ≤ n) × AtMost n l

most_of : (n : ℕ) (cases : List Case) (k : ℕ) → AtMost n cases → FirstOf cases k → k ≤ n
unfolding FirstOf AtMost
most_of n [] k a e = omega (arith, e)
most_of n (c ∷ l) k a (inl p) = omega (arith, a.0, p.1)
most_of n (c ∷ l) k a (inr p) = most_of n l k a.1 p.1

pub first_most : (n : ℕ) (cases : List Case) {k : ℕ} → AtMost n cases → First cases k → k ≤ n
first_most n cases {k} a f = most_of n cases k a f.is
