-- `slots::walks::set_where` meets its contract: a turn asks the test of one more slot. Assumes nothing.
use Prim.Native.Nat.{ℕ, ◌+◌, ◌≤◌, ◌<◌}
use mathlib.Core.Path.{◌≡◌, refl, sym, subst, ◌∙◌}
use mathlib.Core.Bool.{Bool, false, ◌&&◌, ◌||◌, and-true, and-false, or-false}
use mathlib.Core.List.{List}
use native.Mathlib.Decide.{ℕ_discrete, dec_lt}
use native.Mathlib.Omega.{arith}
use borrow.Author.Tests.{eq-eqb, ne_eqb}
use lib.Dec.{eqb}
use Rattle.masks.specs.Sets.{has, set_of}
use Rattle.masks.proofs.Laws.{has_none, has_of, has_out, set_lt}
use Rattle.rules.specs.declared.Slot.{Slot}
use Rattle.rules.specs.Table.{slot_at}
use Rattle.slots.proofs.walks.set_where.Invariants.{Asked}
use Rattle.slots.proofs.walks.set_where.Goals as goal

one_more : {test : Slot → Bool → Type 0} {ss : List Slot} {m i : ℕ} (m' : ℕ) (b : Bool) → Asked test ss m i → i < 64
    → m' ≡ set_of (λ k. has m k || (b && eqb k i)) → test (slot_at ss i) b → Asked test ss m' (i + 1)
one_more {test} {ss} {m} {i} m' b was l e t = record { passed = λ k q. at k q (ℕ_discrete k i); ahead = λ k q. past k q (dec_lt k 64) }
  where
    goes : ℕ → Bool
    goes k = has m k || (b && eqb k i)

    other : (k : ℕ) → k < 64 → (k ≡ i → ⊥) → has m' k ≡ has m k
    other k h n = has_of goes m' k e h ∙ rw (ne_eqb k i n, and-false b) (or-false (has m k))

    at : (k : ℕ) → k < i + 1 → Dec (k ≡ i) → test (slot_at ss k) (has m' k)
    at k q (yes p) = rw p (subst (test (slot_at ss i)) (sym (has_of goes m' i e l ∙ rw (was.ahead i (omega arith), eq-eqb i i refl) (and-true b))) t)
    at k q (no n) = subst (test (slot_at ss k)) (sym (other k (omega arith) n)) (was.passed k (omega arith))

    past : (k : ℕ) → i + 1 ≤ k → Dec (k < 64) → has m' k ≡ false
    past k q (yes h) = other k h (λ p. omega arith) ∙ was.ahead k (omega arith)
    past k q (no h) = has_out m' k (rw e (set_lt goes)) (omega arith)

pub loop-i-init : goal.loop-i-init
loop-i-init g c = record { passed = λ k l. absurd (omega arith); ahead = λ k l. has_none k }

pub loop-i-preserved : goal.loop-i-preserved
loop-i-preserved g c =
    one_more c.with_if-set.result c.test.result c.loop-i.invariant c.loop-i-test.true c.with_if-set.ensures
    (record { shown = _; shows = refl; says = record { met = c.test.ensures } })
