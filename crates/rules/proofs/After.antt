-- SLOT i AFTERWARDS: what each call makes of one slot, a law for each. Proofs above cite these and not the text of the definitions.
use Prim.Native.Nat.{ℕ, ◌<◌}
use mathlib.Core.Path.{◌≡◌, ap, ◌∙◌}
use mathlib.Core.Bool.{Bool, ◌&&◌, not}
use mathlib.Core.List.{List}
use lib.Dec.{eqb}
use Rattle.masks.specs.Sets.{has}
use Rattle.masks.proofs.Laws.{has_set}
use Rattle.rules.specs.declared.Hold.{Hold}
use Rattle.rules.specs.declared.Slot.{Slot}
use Rattle.rules.specs.Sizes.{slots}
use Rattle.rules.specs.Table.{slot_at, flies_on}
use Rattle.rules.specs.Create.{Change, accepted_slot, accepted_slots, added, joined_slot, joined_slots}
use Rattle.rules.specs.Write.{sent_slot, sent_slots}
use Rattle.rules.specs.Complete.{without_befores, landed_slot, landed_slots, landing, completed_slots}
use Rattle.rules.proofs.SlotsBy.{slot_by}

pub accepted_at : (ss : List Slot) (p : Slot) (j : ℕ) (h : Hold) (i : ℕ) → i < slots
    → slot_at (accepted_slots ss p j h) i ≡ accepted_slot p h (eqb i j) (slot_at ss i)
unfolding accepted_slots
accepted_at ss p j h = slot_by (λ i. accepted_slot p h (eqb i j) (slot_at ss i))

pub joined_at : (ss : List Slot) (c : Change) (j i : ℕ) → i < slots
    → slot_at (joined_slots ss c j) i ≡ joined_slot (added ss c) c.block (eqb i j) (slot_at ss i)
unfolding joined_slots
joined_at ss c j = slot_by (λ i. joined_slot (added ss c) c.block (eqb i j) (slot_at ss i))

pub sent_at : (ss : List Slot) (s i : ℕ) → i < slots → slot_at (sent_slots ss s) i ≡ sent_slot (has s i) (slot_at ss i)
unfolding sent_slots
sent_at ss s = slot_by (λ i. sent_slot (has s i) (slot_at ss i))

pub landed_at : (ss : List Slot) (landed i : ℕ) → i < slots → slot_at (landed_slots ss landed) i ≡ landed_slot landed (has landed i) (slot_at ss i)
unfolding landed_slots
landed_at ss landed = slot_by (λ i. landed_slot landed (has landed i) (slot_at ss i))

pub completed_at : (ss : List Slot) (b i : ℕ) → i < slots → slot_at (completed_slots ss b) i ≡ landed_slot (landing ss b) (flies_on ss b i) (slot_at ss i)
unfolding completed_slots
completed_at ss b i l =
    landed_at ss (landing ss b) i l ∙ ap (λ (commits : Bool). landed_slot (landing ss b) commits (slot_at ss i)) (has_set (flies_on ss b) i l)

-- the befores of a patch that stays: those that do not commit
pub befores_at : (ss : List Slot) (b : ℕ) (s : Slot) (k : ℕ) → k < slots
    → has (without_befores (landing ss b) s).befores k ≡ (has s.befores k && not (flies_on ss b k))
befores_at ss b s k l =
    has_set (λ k. has s.befores k && not (has (landing ss b) k)) k l
    ∙ ap (λ (gone : Bool). has s.befores k && not gone) (has_set (flies_on ss b) k l)
