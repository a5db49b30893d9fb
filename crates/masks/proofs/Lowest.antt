-- The lowest number of which something holds is one, and a walk up from 0 finds it. Assumes nothing.
use Prim.Native.Nat.{ℕ, ◌≤◌, ◌<◌}
use mathlib.Core.Path.{◌≡◌, refl, sym, ap, subst}
use native.Mathlib.Decide.{dec_lt}
use native.Mathlib.Omega.{arith}
use Rattle.std.specs.Prelude.{Option, Some, None, MatchOption}
use Rattle.std.proofs.lemmas.Option.{same_Some, none-some}
use Rattle.masks.specs.Lowest.{Lowest, LowestOr}

pub lowest_one : {n : ℕ} {P : ℕ → Type 0} {a b : ℕ} → Lowest n P a → Lowest n P b → a ≡ b
lowest_one {n} {P} {a} {b} p q = go (dec_lt a b) (dec_lt b a)
  where
    go : Dec (a < b) → Dec (b < a) → a ≡ b
    go (yes l) m = absurd (q.least a l p.holds)
    go (no k) (yes l) = absurd (p.least b l q.holds)
    go (no k) (no m) = omega arith

pub lowest_or_one : {n : ℕ} {P : ℕ → Type 0} {a b : Option ℕ} → LowestOr n P a → LowestOr n P b → a ≡ b
lowest_or_one {a = Some i} {b = Some j} p q = ap Some (lowest_one (p.there i refl) (q.there j refl))
lowest_or_one {a = Some i} {b = None} p q = let z = p.there i refl in absurd (q.nowhere refl i z.within z.holds)
lowest_or_one {a = None} {b = Some j} p q = let z = q.there j refl in absurd (p.nowhere refl j z.within z.holds)
lowest_or_one {a = None} {b = None} p q = refl

-- what holds of the same numbers has the same lowest
pub lowest_same : {n : ℕ} {r : Option ℕ} {P Q : ℕ → Type 0} → ((i : ℕ) → i < n → P i → Q i) → ((i : ℕ) → i < n → Q i → P i) → LowestOr n P r → LowestOr n Q r
lowest_same into out f = record {
  there = λ j e.
      let z = f.there j e in
      record { within = z.within; holds = into j z.within z.holds; least = λ i l q. z.least i l (out i (omega (arith, z.within)) q) };
  nowhere = λ e i l q. f.nowhere e i l (out i l q);
}

-- what a search up from 0 tells
pub lowest_found : {n : ℕ} {P : ℕ → Type 0} (r : Option ℕ)
    → MatchOption r ((k : ℕ) → 0 ≤ k → k < n → P k → ⊥) (λ i. (0 ≤ i) × (i < n) × P i × ((k : ℕ) → 0 ≤ k → k < i → P k → ⊥)) → LowestOr n P r
lowest_found {n} {P} (Some i) f = record {
  there = λ j e. subst (Lowest n P) (same_Some i j e) (record { within = f.1; holds = f.2; least = λ k l. f.3 k (omega arith) l });
  nowhere = λ e. absurd (none-some i (sym e));
}
lowest_found None f = record { there = λ j e. absurd (none-some j e); nowhere = λ e k l. f k (omega arith) l }
