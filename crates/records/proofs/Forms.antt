-- What the form of a value says of its tag and its length: each tag that is known, with the lengths that its values have. Assumes nothing.
use Prim.Native.Nat.{ℕ, ◌≤◌}
use mathlib.Core.Path.{◌≡◌, refl, sym, subst}
use mathlib.Core.Bool.{true, false}
use native.Mathlib.Decide.{ℕ_discrete}
use borrow.Author.Tests.{eqb-true, leb-true, ne_eqb}
use lib.Dec.{leb}
use Rattle.ground.proofs.Decided.{clash, and-true}
use Rattle.records.specs.Record.{most_value}
use Rattle.records.specs.Reader.{formed}

pub data Form : ℕ → ℕ → Type 0 where
  open_form : Form 1 4
  create_form : {n : ℕ} → 4 ≤ n → n ≤ most_value → Form 2 n
  write_form : Form 3 1
  complete_form : Form 4 1
  cut_form : Form 5 8

module _ (n : ℕ) where
  pub open_long : formed 1 n ≡ true → n ≡ 4
  unfolding formed
  open_long f = eqb-true n 4 f

  pub create_long : formed 2 n ≡ true → (4 ≤ n) × (n ≤ most_value)
  unfolding formed
  create_long f = let w = and-true (leb 4 n) _ f in (leb-true 4 n w.0, leb-true n most_value w.1)

  pub write_long : formed 3 n ≡ true → n ≡ 1
  unfolding formed
  write_long f = eqb-true n 1 f

  pub complete_long : formed 4 n ≡ true → n ≡ 1
  unfolding formed
  complete_long f = eqb-true n 1 f

  pub cut_long : formed 5 n ≡ true → n ≡ 8
  unfolding formed
  cut_long f = eqb-true n 8 f

  -- no other tag is known
  pub unknown : (tag : ℕ) → (tag ≡ 1 → ⊥) → (tag ≡ 2 → ⊥) → (tag ≡ 3 → ⊥) → (tag ≡ 4 → ⊥) → (tag ≡ 5 → ⊥) → false ≡ formed tag n
  unfolding formed
  unknown tag d1 d2 d3 d4 d5 = rw (ne_eqb tag 1 d1, ne_eqb tag 2 d2, ne_eqb tag 3 d3, ne_eqb tag 4 d4, ne_eqb tag 5 d5)

pub form : (tag n : ℕ) → formed tag n ≡ true → Form tag n
form tag n f = go (ℕ_discrete tag 1) (ℕ_discrete tag 2) (ℕ_discrete tag 3) (ℕ_discrete tag 4) (ℕ_discrete tag 5)
  where
    of : {t : ℕ} → tag ≡ t → formed t n ≡ true
    of e = subst (λ (x : ℕ). formed x n ≡ true) e f

    has_form : {t m : ℕ} → tag ≡ t → n ≡ m → Form t m → Form tag n
    has_form e l w = rw (e, l) w

    go : Dec (tag ≡ 1) → Dec (tag ≡ 2) → Dec (tag ≡ 3) → Dec (tag ≡ 4) → Dec (tag ≡ 5) → Form tag n
    go (yes e) b c d x = has_form e (open_long n (of e)) open_form
    go (no a) (yes e) c d x = let l = create_long n (of e) in has_form e refl (create_form l.0 l.1)
    go (no a) (no b) (yes e) d x = has_form e (write_long n (of e)) write_form
    go (no a) (no b) (no c) (yes e) x = has_form e (complete_long n (of e)) complete_form
    go (no a) (no b) (no c) (no d) (yes e) = has_form e (cut_long n (of e)) cut_form
    go (no a) (no b) (no c) (no d) (no x) = absurd (clash f (sym (unknown n tag a b c d x)))
