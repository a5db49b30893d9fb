-- What a search through the named numbers tells is is_in, and so is what the library's `contains` answers. Assumes nothing.
use Prim.Native.Nat.{ℕ, ◌<◌}
use mathlib.Core.Path.{◌≡◌, refl, sym, subst, ap₂}
use mathlib.Core.Bool.{Bool, true, false, ◌||◌}
use mathlib.Core.List.{List, [], ◌∷◌}
use native.Mathlib.Omega.{arith}
use borrow.Author.Tests.{eq-eqb, eqb-true}
use lib.Dec.{eqb}
use lib.ListN.{length}
use Rattle.std.specs.Bool.{MatchBool}
use Rattle.std.specs.List.{HoldsAt, AllWithin, list_any}
use Rattle.ground.proofs.Decided.{same_bool}
use Rattle.rules.specs.Create.{is_in}
use Rattle.slots.proofs.Members.{at_in, nowhere_in}

pub found_in : (l : List ℕ) (n : ℕ) (r : Bool)
    → MatchBool r ((k : ℕ) × (k < length l) × HoldsAt (λ m. m ≡ n) l k) (AllWithin (λ m. m ≡ n → ⊥) l 0 (length l)) → r ≡ is_in n l
found_in l n true f = sym (subst (λ m. is_in m l ≡ true) (f.2 0) (at_in l f.0 f.1))
found_in l n false f = sym (nowhere_in l n (λ k b e. f k 0 (omega arith) b e))

pub contained : (l : List ℕ) (n : ℕ) → list_any (λ (m : ℕ). eqb m n) l ≡ is_in n l
unfolding is_in
contained [] n = refl
contained (m ∷ l) n = ap₂ (λ (a b : Bool). a || b) turned (contained l n)
  where
    turned : eqb m n ≡ eqb n m
    turned = same_bool (eqb m n) (eqb n m) (λ e. eq-eqb n m (sym (eqb-true m n e))) (λ e. eq-eqb m n (sym (eqb-true n m e)))
