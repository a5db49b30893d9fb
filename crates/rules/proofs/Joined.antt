-- A change joins a patch: which befores the patch has then, that a sound table stays sound, and that the patch which is joined is one.
use Prim.Native.Nat.{ℕ, ◌<◌}
use mathlib.Core.Path.{◌≡◌, refl, sym, subst, ◌∙◌}
use mathlib.Core.Bool.{Bool, true, false, ◌||◌}
use mathlib.Core.List.{List}
use mathlib.Core.Logic.{◌⊎◌, inl, inr, ⊎_elim}
use native.Mathlib.Omega.{arith}
use borrow.Author.Tests.{eqb-true, not-true}
use lib.Dec.{eqb}
use Rattle.masks.specs.Sets.{has, set_of}
use Rattle.masks.proofs.Laws.{has_set, has_slot, set_lt}
use Rattle.ground.proofs.Decided.{clash, and-true, or-true, true_or_l, true_or_r}
use Rattle.rules.specs.declared.Hold.TheVariants as hold
use Rattle.rules.specs.declared.Slot.{Slot}
use Rattle.rules.specs.Sizes.{slots}
use Rattle.rules.specs.Slots.{is_waiting}
use Rattle.rules.specs.Table.{Table, slot_at, used, Sound}
use Rattle.rules.specs.Create.{Change, is_named, turned, LowestNumbered, named_elsewhere, added, joined_slot, joined_slots, joined}
use Rattle.rules.proofs.After.{joined_at}
use Rattle.rules.proofs.Words.{waits_on_used}
use Rattle.rules.proofs.StaysSound.{Like, turned_like, turned_befores, keeps_sound}

-- a slot that a change adds has a named number, and a patch of another block
pub added_is : (ss : List Slot) (c : Change) (k : ℕ) → has (added ss c) k ≡ true → named_elsewhere ss c k ≡ true
unfolding added
added_is ss c k h = sym (has_set (named_elsewhere ss c) k (has_slot (added ss c) k (set_lt (named_elsewhere ss c)) h)) ∙ h

pub is_added : (ss : List Slot) (c : Change) (k : ℕ) → k < slots → named_elsewhere ss c k ≡ true → has (added ss c) k ≡ true
unfolding added
is_added ss c k l e = has_set (named_elsewhere ss c) k l ∙ e

-- the slot that is joined, and every other, are as they were but for state and befores
pub joined_like : (m b : ℕ) (here : Bool) (s : Slot) → Like (joined_slot m b here s) s
joined_like m b true s =
    let k = turned_like hold.Hard b s in
    record { used = k.used; number = k.number; block = k.block; offset = k.offset; len = k.len; hard = k.hard; flies = k.flies; room = k.room }
joined_like m b false s = turned_like hold.Hard b s

-- a before is one that it had, or, of the slot that is joined, one that is added
pub joined_before : (m b : ℕ) (here : Bool) (s : Slot) (k : ℕ) → has (joined_slot m b here s).befores k ≡ true
    → (has s.befores k ≡ true) ⊎ ((here ≡ true) × (has m k ≡ true))
joined_before m b true s k h =
    let p : ℕ → Bool = λ k. has (turned hold.Hard b s).befores k || has m k in
    ⊎_elim (λ e. inl (subst (λ (x : ℕ). has x k ≡ true) (turned_befores hold.Hard b s) e)) (λ e. inr (refl, e))
    (or-true (has (turned hold.Hard b s).befores k) (has m k) (sym (has_set p k (has_slot (set_of p) k (set_lt p) h)) ∙ h))
joined_before m b false s k h = inl (subst (λ (x : ℕ). has x k ≡ true) (turned_befores hold.Hard b s) h)

-- what it had stays, and what is added is there
pub joined_keeps : (m b : ℕ) (here : Bool) (s : Slot) (k : ℕ) → k < slots → has s.befores k ≡ true → has (joined_slot m b here s).befores k ≡ true
joined_keeps m b true s k l h =
    has_set (λ k. has (turned hold.Hard b s).befores k || has m k) k l
    ∙ true_or_l (has m k) (subst (λ (x : ℕ). has x k ≡ true) (sym (turned_befores hold.Hard b s)) h)
joined_keeps m b false s k l h = subst (λ (x : ℕ). has x k ≡ true) (sym (turned_befores hold.Hard b s)) h

pub joined_adds : (m b : ℕ) (s : Slot) (k : ℕ) → k < slots → has m k ≡ true → has (joined_slot m b true s).befores k ≡ true
joined_adds m b s k l h =
    has_set (λ k. has (turned hold.Hard b s).befores k || has m k) k l ∙ true_or_r (has (turned hold.Hard b s).befores k) h

-- its state is as every hard creation leaves it
pub joined_state : (m b : ℕ) (here : Bool) (s : Slot) → (joined_slot m b here s).state ≡ (turned hold.Hard b s).state
joined_state m b true s = refl
joined_state m b false s = refl

pub joined_sound : (t : Table) (c : Change) (j : ℕ) → Sound t → LowestNumbered t.slots c.block j → Sound (joined t c j)
unfolding joined
joined_sound t c j s low = keeps_sound t s ss (λ i l. inr (like i l)) (λ i k l m u h. (like k m).used ∙ followed i k l m (was i l u) (before i l k h))
    (λ i l u h. other i l (was i l u) (before i l i h))
  where
    ss : List Slot
    ss = joined_slots t.slots c j

    like : (i : ℕ) → i < slots → Like (slot_at ss i) (slot_at t.slots i)
    like i l =
        subst (λ (n : Slot). Like n (slot_at t.slots i)) (sym (joined_at t.slots c j i l))
        (joined_like (added t.slots c) c.block (eqb i j) (slot_at t.slots i))

    was : (i : ℕ) → i < slots → used ss i ≡ true → used t.slots i ≡ true
    was i l u = sym (like i l).used ∙ u

    Before : ℕ → ℕ → Type 0
    Before i k = (has (slot_at t.slots i).befores k ≡ true) ⊎ ((eqb i j ≡ true) × (has (added t.slots c) k ≡ true))

    before : (i : ℕ) → i < slots → (k : ℕ) → has (slot_at ss i).befores k ≡ true → Before i k
    before i l k h =
        joined_before (added t.slots c) c.block (eqb i j) (slot_at t.slots i) k
        (subst (λ (n : Slot). has n.befores k ≡ true) (joined_at t.slots c j i l) h)

    followed : (i k : ℕ) → i < slots → k < slots → used t.slots i ≡ true → Before i k → used t.slots k ≡ true
    followed i k l m u (inl h) = s.befores_used i k l m u h
    followed i k l m u (inr h) =
        (and-true (used t.slots k) _ (and-true (is_named t.slots c k) _ (added_is t.slots c k h.1)).0).0

    other : (i : ℕ) → i < slots → used t.slots i ≡ true → Before i i → ⊥
    other i l u (inl h) = s.befores_other i l u h
    other i l u (inr h) =
        clash (subst (λ (x : ℕ). eqb (slot_at t.slots x).block c.block ≡ true) (sym (eqb-true i j h.0))
        (and-true (is_waiting (slot_at t.slots j).state) _ low.waits).1)
        (not-true (eqb (slot_at t.slots i).block c.block) (and-true (is_named t.slots c i) _ (added_is t.slots c i h.1)).1)

-- numbers in use all differ, so the lowest-numbered waiting patch of a block is one
pub lowest_numbered_one : (t : Table) (b i j : ℕ) → Sound t → LowestNumbered t.slots b i → LowestNumbered t.slots b j → i ≡ j
lowest_numbered_one t b i j s p q =
    s.numbers_differ i j p.is_slot q.is_slot (waits_on_used t.slots b i p.waits) (waits_on_used t.slots b j q.waits)
    (omega (arith, p.lowest j q.is_slot q.waits, q.lowest i p.is_slot p.waits))
