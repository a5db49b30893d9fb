-- Laws of Bool, of equal numbers and of Decides. Every test in the code promises an equation or a Decides, and a proof that goes on from such a test
-- takes its fact out, or makes the next answer, by these. Assumes nothing.
use Prim.Native.Nat.{ℕ}
use mathlib.Core.Path.{◌≡◌, refl, sym, subst}
use mathlib.Core.Logic.{◌≢◌, ◌⊎◌, inl, inr}
use mathlib.Core.Bool.{Bool, true, false, ◌&&◌, ◌||◌, not}
use native.Mathlib.Omega.{arith}
use borrow.Author.Tests.{not-true, not-false, eq-eqb, eqb-true}
use lib.Dec.{eqb}
use Rattle.ground.specs.Decides.{Decides}

pub clash : {b : Bool} → b ≡ true → b ≡ false → ⊥
clash p q = let z : ◌≡◌ {A = ℕ} 0 1 = cc in omega arith

-- two numbers are the same or not
pub same_or_other : (m n : ℕ) → (m ≡ n) ⊎ (m ≢ n)
same_or_other m n = by (eqb m n) refl
  where
    by : (v : Bool) → eqb m n ≡ v → (m ≡ n) ⊎ (m ≢ n)
    by true e = inl (eqb-true m n e)
    by false e = inr (λ p. clash (eq-eqb m n p) e)

pub true_or_false : (b : Bool) → (b ≡ true) ⊎ (b ≡ false)
true_or_false true = inl refl
true_or_false false = inr refl

-- what a test decides, from its answer
pub yes_of : {P : Type 0} (b : Bool) → Decides P b → b ≡ true → P
yes_of {P} _ d e = subst (λ (b : Bool). Decides P b) e d

pub no_of : {P : Type 0} (b : Bool) → Decides P b → b ≡ false → P → ⊥
no_of {P} _ d e = subst (λ (b : Bool). Decides P b) e d

-- the same where the test is asked negated
pub yes_not : {P : Type 0} (b : Bool) → Decides P b → not b ≡ false → P
yes_not b d e = yes_of b d (not-false b e)

pub no_not : {P : Type 0} (b : Bool) → Decides P b → not b ≡ true → P → ⊥
no_not b d e = no_of b d (not-true b e)

-- the answer, from what it decides
pub said_yes : {P : Type 0} (b : Bool) → Decides P b → P → b ≡ true
said_yes true d p = refl
said_yes false d p = absurd (d p)

-- an answer made from what it says
pub decides : {P : Type 0} (b : Bool) → (b ≡ true → P) → (b ≡ false → P → ⊥) → Decides P b
decides true y n = y refl
decides false y n = n refl

-- any two answers to one question are equal: this is why a promise that is a Decides admits one answer
pub decides_one : (P : Type 0) (a b : Bool) → Decides P a → Decides P b → a ≡ b
decides_one P true b d e = sym (said_yes b e d)
decides_one P false true d e = absurd (d e)
decides_one P false false d e = refl

-- both, and one of two
pub and-true : (a b : Bool) → (a && b) ≡ true → (a ≡ true) × (b ≡ true)
and-true true b e = (refl, e)
and-true false b e = absurd (clash e refl)

pub true_and : {a b : Bool} → a ≡ true → b ≡ true → (a && b) ≡ true
true_and p q = rw (p, q)

pub or-true : (a b : Bool) → (a || b) ≡ true → (a ≡ true) ⊎ (b ≡ true)
or-true true b e = inl refl
or-true false b e = inr e

pub true_or_l : {a : Bool} (b : Bool) → a ≡ true → (a || b) ≡ true
true_or_l b p = rw p

pub true_or_r : (a : Bool) {b : Bool} → b ≡ true → (a || b) ≡ true
true_or_r true p = refl
true_or_r false p = p

-- two tests that are true together are the same
pub same_bool : (a b : Bool) → (a ≡ true → b ≡ true) → (b ≡ true → a ≡ true) → a ≡ b
same_bool true b f g = sym (f refl)
same_bool false true f g = g refl
same_bool false false f g = refl
