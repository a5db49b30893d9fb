-- Which numbers were issued, said as refusal 7 says it: all but 0 and those not below next.
use Prim.Native.Nat.{ℕ, ◌≤◌}
use mathlib.Core.Path.{◌≡◌}
use mathlib.Core.Logic.{◌⊎◌, inl, inr}
use native.Mathlib.Omega.{arith}
use native.Mathlib.Decide.{ℕ_discrete, dec_le}
use Rattle.rules.specs.Table.{Issued}

pub never_issued : {next n : ℕ} → (n ≡ 0) ⊎ (next ≤ n) → Issued next n → ⊥
never_issued (inl z) i = omega (arith, i.0)
never_issued (inr l) i = omega (arith, i.1)

pub issued_or_not : (next n : ℕ) → Issued next n ⊎ ((n ≡ 0) ⊎ (next ≤ n))
issued_or_not next n = go (ℕ_discrete n 0) (dec_le next n)
  where
    go : Dec (n ≡ 0) → Dec (next ≤ n) → Issued next n ⊎ ((n ≡ 0) ⊎ (next ≤ n))
    go (yes z) k = inr (inl z)
    go (no z) (yes l) = inr (inr l)
    go (no z) (no l) = inl (omega arith, omega arith)
