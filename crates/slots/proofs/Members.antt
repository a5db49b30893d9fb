-- A number is in a list just where it stands at one of its places: what a walk over a lent slice shows of is_in.
-- The walks of the crates above cite these. Assumes nothing.
use Prim.Native.Nat.{ℕ, zero, suc, ◌<◌}
use mathlib.Core.Path.{◌≡◌, refl, sym}
use mathlib.Core.Bool.{true, false}
use mathlib.Core.List.{List, [], ◌∷◌}
use mathlib.Core.Logic.{⊎_elim}
use native.Mathlib.Omega.{arith}
use borrow.Author.Tests.{eq-eqb, eqb-true}
use lib.Dec.{eqb}
use lib.ListN.{length, get_or}
use Rattle.ground.proofs.Decided.{clash, true_or_false, or-true, true_or_l, true_or_r}
use Rattle.rules.specs.Create.{is_in}

pub at_in : (l : List ℕ) (k : ℕ) → k < length l → is_in (get_or l k 0) l ≡ true
unfolding is_in
at_in [] k h = absurd (omega arith)
at_in (m ∷ l) zero h = true_or_l (is_in m l) (eq-eqb m m refl)
at_in (m ∷ l) (suc k) h = true_or_r (eqb (get_or l k 0) m) (at_in l k (omega arith))

pub in_at : (l : List ℕ) (n : ℕ) → is_in n l ≡ true → (k : ℕ) × (k < length l) × (get_or l k 0 ≡ n)
unfolding is_in
in_at [] n e = absurd (clash e refl)
in_at (m ∷ l) n e =
    ⊎_elim (λ q. (zero, omega arith, sym (eqb-true n m q))) (λ q. let r = in_at l n q in (suc r.0, omega (arith, r.1), r.2))
    (or-true (eqb n m) (is_in n l) e)

pub nowhere_in : (l : List ℕ) (n : ℕ) → ((k : ℕ) → k < length l → get_or l k 0 ≡ n → ⊥) → is_in n l ≡ false
nowhere_in l n f = ⊎_elim (λ e. let r = in_at l n e in absurd (f r.0 r.1 r.2)) (λ e. e) (true_or_false (is_in n l))
