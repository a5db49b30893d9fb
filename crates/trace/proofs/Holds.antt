-- Which slot holds which number after each call: the law by which the counts of a run follow its table. Assumes nothing.
use Prim.Native.Nat.{ℕ, ◌<◌}
use mathlib.Core.Path.{◌≡◌, refl, sym, ap, ap₂, subst, ◌∙◌}
use mathlib.Core.Bool.{Bool, true, false, ◌&&◌, not}
use mathlib.Core.Bool as bool
use mathlib.Core.List.{List}
use borrow.Author.Tests.{eq-eqb, ne_eqb, eqb-true}
use lib.Dec.{eqb}
use Rattle.masks.specs.Sets.{has}
use Rattle.masks.proofs.Laws.{has_set}
use Rattle.ground.proofs.Decided.{and-true, true_and}
use Rattle.rules.specs.declared.Hold.{Hold}
use Rattle.rules.specs.declared.Slot.{Slot}
use Rattle.rules.specs.Sizes.{slots}
use Rattle.rules.specs.Slots.{is_used}
use Rattle.rules.specs.Table.{Table, slot_at, used, flies_on, Sound}
use Rattle.rules.specs.Create.{Change, FreeSlot, accepted_slot, accepted_slots, added, joined_slots}
use Rattle.rules.specs.Write.{sent_slots}
use Rattle.rules.specs.Complete.{landing, completed_slots}
use Rattle.rules.proofs.After.{accepted_at, joined_at, sent_at}
use Rattle.rules.proofs.StaysSound.{Like, turned_like, sent_like, Finished, commits, stays, was_free, finished}
use Rattle.rules.proofs.Joined.{joined_like}
use Rattle.tally.specs.Counts.{holds_number}
use Rattle.trace.proofs.Counted.{Single, outside}

-- numbers in use are all different, so a number is in one slot
pub single : (t : Table) → Sound t → Single (holds_number t.slots)
single t s n i j l m e f =
    let a = and-true (used t.slots i) _ e in
    let b = and-true (used t.slots j) _ f in
    s.numbers_differ i j l m a.0 b.0 (eqb-true _ n a.1 ∙ sym (eqb-true _ n b.1))

-- the patch in a slot, if there is one, has the number n
abbrev holds : ℕ → Slot → Bool
holds n s = is_used s.state && eqb s.number n

-- a slot that is as it was but for state and befores holds the number that it held
like_holds : {p s : Slot} (n : ℕ) → Like p s → holds n p ≡ holds n s
like_holds n k = ap₂ (λ (u : Bool) (m : ℕ). u && eqb m n) k.used k.number

-- a new patch, in a slot that was free: the numbers other than its own are where they were
module _ (ss : List Slot) (p : Slot) (j : ℕ) (h : Hold) where
  pub new_holds : j < slots → is_used p.state ≡ true → holds_number (accepted_slots ss p j h) p.number j ≡ true
  new_holds l u =
      ap (holds p.number) (accepted_at ss p j h j l ∙ ap (λ (here : Bool). accepted_slot p h here (slot_at ss j)) (eq-eqb j j refl))
      ∙ true_and u (eq-eqb p.number p.number refl)

  pub others_hold : FreeSlot ss j → (n i : ℕ) → (p.number ≡ n → ⊥) → i < slots → holds_number (accepted_slots ss p j h) n i ≡ holds_number ss n i
  others_hold free n i d l = ap (holds n) (accepted_at ss p j h i l) ∙ go (eqb i j) refl
    where
      go : (here : Bool) → eqb i j ≡ here → holds n (accepted_slot p h here (slot_at ss i)) ≡ holds_number ss n i
      go true e =
          ap (λ (x : Bool). is_used p.state && x) (ne_eqb p.number n d) ∙ bool.and-false (is_used p.state)
          ∙ sym (ap (λ (u : Bool). u && eqb (slot_at ss i).number n) (subst (λ (k : ℕ). used ss k ≡ false) (sym (eqb-true i j e)) free))
      go false e = like_holds n (turned_like h p.block (slot_at ss i))

-- a change that joins, and a write, move no number
pub joined_holds : (ss : List Slot) (c : Change) (j n i : ℕ) → i < slots → holds_number (joined_slots ss c j) n i ≡ holds_number ss n i
joined_holds ss c j n i l = ap (holds n) (joined_at ss c j i l) ∙ like_holds n (joined_like (added ss c) c.block (eqb i j) (slot_at ss i))

pub sent_holds : (ss : List Slot) (s n i : ℕ) → i < slots → holds_number (sent_slots ss s) n i ≡ holds_number ss n i
sent_holds ss s n i l = ap (holds n) (sent_at ss s i l) ∙ like_holds n (sent_like (has s i) (slot_at ss i))

-- the patches that commit leave their slots
pub completed_holds : (ss : List Slot) (b n i : ℕ) → i < slots → holds_number (completed_slots ss b) n i ≡ outside (holds_number ss) (landing ss b) n i
completed_holds ss b n i l = go (finished ss b i l)
  where
    -- what is left where the slot is in flight on the block, or is not
    left : (f : Bool) → flies_on ss b i ≡ f → outside (holds_number ss) (landing ss b) n i ≡ (holds_number ss n i && not f)
    left f e = ap (λ (x : Bool). holds_number ss n i && not x) (has_set (flies_on ss b) i l ∙ e)

    go : Finished ss b i (slot_at (completed_slots ss b) i) → holds_number (completed_slots ss b) n i ≡ outside (holds_number ss) (landing ss b) n i
    go (commits f e) = ap (holds n) e ∙ sym (left true f ∙ bool.and-false (holds_number ss n i))
    go (stays f u e) = ap (holds n) e ∙ sym (left false f ∙ bool.and-true (holds_number ss n i))
    go (was_free f u e) = ap (holds n) e ∙ sym (left false f ∙ bool.and-true (holds_number ss n i))
