-- The size of a set of slots, as the processor counts it: a set has as many digits 1 as slots pass its test. Assumes nothing.
use Prim.Native.Nat.{ℕ, zero, suc, ◌+◌, ◌*◌, ◌^◌, ◌<◌}
use mathlib.Core.Path.{◌≡◌, refl, sym, ap, ◌∙◌}
use mathlib.Core.Bool.{Bool, true, false, cond}
use native.Mathlib.Nat.{add-zero}
use native.Mathlib.Omega.{arith}
use lib.Count.{ones, ones_in, ones_cat}
use Rattle.masks.specs.Sets.{set_below, how_many}
use Rattle.masks.proofs.Laws.{below_lt}

ones_none : ones 0 ≡ 0
unfolding ones ones_in
ones_none = refl

ones_one : ones 1 ≡ 1
unfolding ones ones_in
ones_one = refl

-- the test at n puts a digit 1 where it passes
ones_more : (n m : ℕ) (b : Bool) → m < 2 ^ n → ones (m + cond b (2 ^ n) 0) ≡ ones m + cond b 1 0
ones_more n m false l = ap ones (add-zero m) ∙ sym (add-zero (ones m))
ones_more n m true l =
    let e : m + 2 ^ n ≡ 1 * 2 ^ n + m = omega arith in
    ap ones e ∙ ones_cat n 1 m l ∙ omega (arith, ones_one)

pub ones_many : (p : ℕ → Bool) (n : ℕ) → ones (set_below p n) ≡ how_many p n
unfolding set_below how_many
ones_many p zero = ones_none
ones_many p (suc n) = ones_more n (set_below p n) (p n) (below_lt p n) ∙ ap (λ (x : ℕ). x + cond (p n) 1 0) (ones_many p n)
