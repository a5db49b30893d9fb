-- A walk that sets each of the 64 slots by what it was: what holds at its head, how a turn keeps it, and that at the end each slot is set.
-- The walks of the crates above cite these. Assumes nothing.
use Prim.Native.Nat.{ℕ, ◌+◌, ◌≤◌, ◌<◌}
use mathlib.Core.Path.{◌≡◌, refl, sym, ap, ◌∙◌}
use mathlib.Core.List.{List}
use native.Mathlib.Decide.{ℕ_discrete}
use native.Mathlib.Omega.{arith}
use lib.ListN.{length, set, length-set}
use lib.Seq.{get_or-set_same, get_or-set_other}
use Rattle.rules.specs.declared.Slot.{Slot}
use Rattle.rules.specs.Sizes.{slots}
use Rattle.rules.specs.Slots.{free_slot}
use Rattle.rules.specs.Table.{slot_at, slots_by}
use Rattle.rules.proofs.SlotsBy.{slots_are}

-- the slots below i are set, to what `turn` makes of each; the others are as they were
pub record Walked (turn : ℕ → Slot → Slot) (was now : List Slot) (i : ℕ) : Type 0 where
  pub size : length now ≡ slots
  pub passed : (k : ℕ) → k < i → slot_at now k ≡ turn k (slot_at was k)
  pub ahead : (k : ℕ) → i ≤ k → slot_at now k ≡ slot_at was k

module _ {turn : ℕ → Slot → Slot} {was : List Slot} where
  -- that an array by value has its 64 slots is told where a function starts: a proof that needs it names it `All-there`
  pub walk_starts : length was ≡ slots → Walked turn was was 0
  walk_starts e = record { size = e; passed = λ k l. absurd (omega arith); ahead = λ k l. refl }

  pub walk_goes_on : {now : List Slot} {i : ℕ} {s : Slot} → Walked turn was now i → i < slots → s ≡ turn i (slot_at now i)
      → Walked turn was (set now i s) (i + 1)
  walk_goes_on {now} {i} {s} w l e = record {
    size = length-set now i s ∙ w.size;
    passed = λ k b. at k b (ℕ_discrete k i);
    ahead = λ k b. get_or-set_other now i k s free_slot (λ q. omega arith) ∙ w.ahead k (omega arith);
  }
    where
      here : slot_at (set now i s) i ≡ turn i (slot_at was i)
      here = get_or-set_same now i s free_slot (omega (arith, w.size)) ∙ e ∙ ap (turn i) (w.ahead i (omega arith))

      at : (k : ℕ) → k < i + 1 → Dec (k ≡ i) → slot_at (set now i s) k ≡ turn k (slot_at was k)
      at k b (yes q) = rw q here
      at k b (no n) = get_or-set_other now i k s free_slot n ∙ w.passed k (omega arith)

  -- a slot that the turn leaves as it is need not be set
  pub walk_passes : {now : List Slot} {i : ℕ} → Walked turn was now i → turn i (slot_at now i) ≡ slot_at now i → Walked turn was now (i + 1)
  walk_passes {now} {i} w e = record {
    size = w.size;
    passed = λ k b. at k b (ℕ_discrete k i);
    ahead = λ k b. w.ahead k (omega arith);
  }
    where
      at : (k : ℕ) → k < i + 1 → Dec (k ≡ i) → slot_at now k ≡ turn k (slot_at was k)
      at k b (yes q) = rw q (sym e ∙ ap (turn i) (w.ahead i (omega arith)))
      at k b (no n) = w.passed k (omega arith)

  pub walk_ends : {now : List Slot} {i : ℕ} → Walked turn was now i → slots ≤ i → now ≡ slots_by (λ k. turn k (slot_at was k))
  walk_ends {now} w l = slots_are now (λ k. turn k (slot_at was k)) w.size (λ k b. w.passed k (omega arith))
