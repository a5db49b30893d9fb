-- `sound::judge::mark` meets its contract: the mark of n is put where it is looked up, and no mark goes. Assumes nothing.
use Prim.Native.Nat.{ℕ, ◌/◌, ◌%◌, ◌<◌}
use mathlib.Core.Path.{◌≡◌, refl, sym, ap, ◌∙◌}
use mathlib.Core.Bool.{true, ◌||◌}
use mathlib.Core.List.{List}
use native.Mathlib.Decide.{ℕ_discrete}
use native.Mathlib.Omega.{arith}
use borrow.Author.Tests.{eq-eqb}
use lib.Dec.{eqb}
use lib.ListN.{length, get_or, set, length-set}
use lib.Seq.{get_or-set_same, get_or-set_other}
use Rattle.masks.specs.Sets.{has, set_of}
use Rattle.ground.proofs.Decided.{true_or_l, true_or_r}
use Rattle.masks.proofs.Laws.{has_set}
use Rattle.sound.specs.SlotSound.{marked, Marking}
use Rattle.sound.proofs.judge.mark.Goals as goal

module _ (ms : List ℕ) (n v : ℕ) (is : v ≡ set_of (λ k. has (get_or ms (n / 64 % 16) 0) k || eqb k (n % 64))) (l : n / 64 % 16 < length ms) where
  -- where the mark of k is looked up, it is there if it was, or if it is that of n
  looked : (k : ℕ) → k / 64 % 16 ≡ n / 64 % 16 → (has (get_or ms (n / 64 % 16) 0) (k % 64) || eqb (k % 64) (n % 64)) ≡ true
      → marked (set ms (n / 64 % 16) v) k ≡ true
  looked k e h =
      ap (λ (x : ℕ). has (get_or (set ms (n / 64 % 16) v) x 0) (k % 64)) e
      ∙ ap (λ (x : ℕ). has x (k % 64)) (get_or-set_same ms (n / 64 % 16) v 0 l ∙ is)
      ∙ has_set (λ j. has (get_or ms (n / 64 % 16) 0) j || eqb j (n % 64)) (k % 64) (omega arith)
      ∙ h

  marking : Marking ms n (marked ms n) (set ms (n / 64 % 16) v)
  marking = record {
    was = refl;
    size = length-set ms (n / 64 % 16) v;
    is = looked n refl (true_or_r (marked ms n) (eq-eqb (n % 64) (n % 64) refl));
    kept = λ k h. by k h (ℕ_discrete (k / 64 % 16) (n / 64 % 16));
  }
    where
      by : (k : ℕ) → marked ms k ≡ true → Dec (k / 64 % 16 ≡ n / 64 % 16) → marked (set ms (n / 64 % 16) v) k ≡ true
      by k h (yes e) = looked k e (true_or_l (eqb (k % 64) (n % 64)) (ap (λ (x : ℕ). has (get_or ms x 0) (k % 64)) (sym e) ∙ h))
      by k h (no d) = ap (λ (x : ℕ). has x (k % 64)) (get_or-set_other ms (n / 64 % 16) (k / 64 % 16) v 0 d) ∙ h

pub returns : goal.returns
returns c =
    let m = marking c.args.marks.now c.args.n _ c.with.ensures (omega (arith, c.told-marks)) in
    record { was = c.has.ensures; size = m.size; is = m.is; kept = m.kept }
