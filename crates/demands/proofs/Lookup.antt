-- The slot of a number: a lookup that computes, so that where a change is can be read off the table.
use Prim.Native.Nat.{ℕ, zero, suc, ◌<◌}
use native.Mathlib.Omega.{arith}
use mathlib.Core.Path.{◌≡◌, refl, sym, ◌∙◌, ap, subst}
use mathlib.Core.Bool.{Bool, true, false, ◌&&◌}
use mathlib.Core.List.{List}
use mathlib.Core.Option.{Option, none, some}
use mathlib.Core.Logic.{◌≢◌, ◌⊎◌, inl, inr}
use borrow.Author.Tests.{eq-eqb, eqb-true}
use lib.Dec.{eqb}
use Rattle.ground.proofs.Decided.{clash, and-true, true_and}
use Rattle.rules.specs.declared.Slot.{Slot}
use Rattle.rules.specs.Sizes.{slots}
use Rattle.rules.specs.Table.{slot_at, used}
use Rattle.ground.proofs.Decided.{same_or_other}

abbrev or_else : Option ℕ → Bool → ℕ → Option ℕ
or_else (some j) t k = some j
or_else none true k = some k
or_else none false k = none

-- the lowest number below k that passes the test
first_of : (ℕ → Bool) → ℕ → Option ℕ
first_of p zero = none
first_of p (suc k) = or_else (first_of p k) (p k) k

data Found (p : ℕ → Bool) (k : ℕ) : Option ℕ → Type 0 where
  hit : (j : ℕ) → j < k → p j ≡ true → Found p k (some j)
  miss : ((j : ℕ) → j < k → p j ≡ false) → Found p k none

found_step : (p : ℕ → Bool) (k : ℕ) (o : Option ℕ) → Found p k o → (v : Bool) → p k ≡ v → Found p (suc k) (or_else o v k)
found_step p k (some i) (hit j h e) v ev = hit j (omega arith) e
found_step p k none (miss f) true ev = hit k (omega arith) ev
found_step p k none (miss f) false ev = miss (λ j h. pick j h (same_or_other j k))
  where
    pick : (j : ℕ) → j < suc k → (j ≡ k) ⊎ (j ≢ k) → p j ≡ false
    pick j h (inl e) = ap p e ∙ ev
    pick j h (inr n) = f j (omega arith)

found : (p : ℕ → Bool) (k : ℕ) → Found p k (first_of p k)
unfolding first_of
found p zero = miss (λ j h. absurd (omega arith))
found p (suc k) = found_step p k (first_of p k) (found p k) (p k) refl

first_same : (p q : ℕ → Bool) (k : ℕ) → ((j : ℕ) → j < k → p j ≡ q j) → first_of p k ≡ first_of q k
unfolding first_of
first_same p q zero h = refl
first_same p q (suc k) h = rw (first_same p q k (λ j l. h j (omega arith)), h k (omega arith))

-- slot i is in use and has the number n
pub carries : List Slot → ℕ → ℕ → Bool
carries ss n i = used ss i && eqb (slot_at ss i).number n

pub slot_of : List Slot → ℕ → Option ℕ
slot_of ss n = first_of (carries ss n) slots

pub carries_used : (ss : List Slot) (n j : ℕ) → carries ss n j ≡ true → used ss j ≡ true
unfolding carries
carries_used ss n j e = (and-true (used ss j) _ e).0

pub carries_number : (ss : List Slot) (n j : ℕ) → carries ss n j ≡ true → (slot_at ss j).number ≡ n
unfolding carries
carries_number ss n j e = eqb-true (slot_at ss j).number n (and-true (used ss j) _ e).1

pub carries_of : (ss : List Slot) (n j : ℕ) → used ss j ≡ true → (slot_at ss j).number ≡ n → carries ss n j ≡ true
unfolding carries
carries_of ss n j u e = true_and u (eq-eqb (slot_at ss j).number n e)

-- numbers in use are all different
abbrev pub Distinct : List Slot → Type 0
Distinct ss = (i j : ℕ) → i < slots → j < slots → used ss i ≡ true → used ss j ≡ true → (slot_at ss i).number ≡ (slot_at ss j).number → i ≡ j

pub at_slot : (ss : List Slot) (n j : ℕ) → Distinct ss → j < slots → carries ss n j ≡ true → slot_of ss n ≡ some j
unfolding slot_of
at_slot ss n j d h e = go (first_of (carries ss n) slots) (found (carries ss n) slots)
  where
    go : (o : Option ℕ) → Found (carries ss n) slots o → o ≡ some j
    go (some i) (hit k l f) =
        let same = carries_number ss n k f ∙ sym (carries_number ss n j e) in
        ap {B = Option ℕ} some (d k j l h (carries_used ss n k f) (carries_used ss n j e) same)
    go none (miss f) = absurd (clash e (f j h))

pub slot_carries : (ss : List Slot) (n j : ℕ) → slot_of ss n ≡ some j → (j < slots) × (carries ss n j ≡ true)
unfolding slot_of
slot_carries ss n j e = go (first_of (carries ss n) slots) (found (carries ss n) slots) e
  where
    go : (o : Option ℕ) → Found (carries ss n) slots o → o ≡ some j → (j < slots) × (carries ss n j ≡ true)
    go (some i) (hit k l f) q = let z : k ≡ j = cc in (omega arith, subst (λ (m : ℕ). carries ss n m ≡ true) z f)
    go none (miss f) q = absurd (let z : ◌≡◌ {A = ℕ} 0 1 = cc in omega arith)

pub no_slot : (ss : List Slot) (n : ℕ) → ((i : ℕ) → i < slots → carries ss n i ≡ true → ⊥) → slot_of ss n ≡ none
unfolding slot_of
no_slot ss n h = go (first_of (carries ss n) slots) (found (carries ss n) slots)
  where
    go : (o : Option ℕ) → Found (carries ss n) slots o → o ≡ none
    go (some i) (hit k l f) = absurd (h k l f)
    go none (miss f) = refl

pub nowhere : (ss : List Slot) (n : ℕ) → slot_of ss n ≡ none → (i : ℕ) → i < slots → carries ss n i ≡ true → ⊥
unfolding slot_of
nowhere ss n e i l c = go (first_of (carries ss n) slots) (found (carries ss n) slots) e
  where
    go : (o : Option ℕ) → Found (carries ss n) slots o → o ≡ none → ⊥
    go (some j) (hit k m f) q = let z : ◌≡◌ {A = ℕ} 0 1 = cc in omega arith
    go none (miss f) q = clash c (f i l)

pub slot_same : (ss ss' : List Slot) (n : ℕ) → ((i : ℕ) → i < slots → carries ss n i ≡ carries ss' n i) → slot_of ss n ≡ slot_of ss' n
unfolding slot_of
slot_same ss ss' n h = first_same (carries ss n) (carries ss' n) slots h
