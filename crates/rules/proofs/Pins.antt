-- What document 01 says of the definitions in passing, each as a law: ranges that share a byte, a number named twice, one that has committed, and the
-- size of a block handed out.
use Prim.Native.Nat.{ℕ, zero, suc, ◌+◌, ◌-◌, ◌≤◌, ◌<◌, min, max}
use mathlib.Core.Path.{◌≡◌, refl, sym, ap, ◌∙◌}
use mathlib.Core.Bool.{Bool, true, false, cond, ◌&&◌, ◌||◌, not}
use mathlib.Core.List.{List, ◌∷◌}
use native.Mathlib.Omega.{arith}
use borrow.Author.Tests.{lt-ltb, ltb-true, eqb-true}
use lib.Dec.{eqb}
use lib.ListN.{length}
use Rattle.masks.proofs.Laws.{set_ext}
use Rattle.spans.specs.Spans.{part}
use Rattle.spans.proofs.Laws.{length_splice, length_part}
use Rattle.rules.specs.declared.Slot.{Slot}
use Rattle.rules.specs.Sizes.{slots, blocks, block_bytes, block_start, image_bytes}
use Rattle.rules.specs.Table.{Table, slot_at, used, hard_patch_on, Committed}
use Rattle.rules.specs.Create.{Change, is_in, is_named, shares, overlaps, is_before, befores, named_elsewhere, added}
use Rattle.rules.specs.Write.{left_behind, taken_back, back_number, back_down, handed_out}

-- ranges share a byte just where a place is in both
pub shares_a_byte : (o l p m : ℕ) → shares o l p m ≡ true → (i : ℕ) × (o ≤ i) × (i < o + l) × (p ≤ i) × (i < p + m)
shares_a_byte o l p m e = let h = ltb-true (max o p) (min (o + l) (p + m)) e in (max o p, omega arith, omega arith, omega arith, omega arith)

pub byte_shared : (o l p m i : ℕ) → o ≤ i → i < o + l → p ≤ i → i < p + m → shares o l p m ≡ true
byte_shared o l p m i a b c d = lt-ltb (max o p) (min (o + l) (p + m)) (omega arith)

-- ranges that only touch share none
pub touching_apart : (o l m : ℕ) → shares o l (o + l) m ≡ true → ⊥
touching_apart o l m e = let w = shares_a_byte o l (o + l) m e in omega (arith, w.2, w.3)

-- the numbers named, with n before them
abbrev pub naming : ℕ → Change → Change
naming n c = record { block = c.block; offset = c.offset; bytes = c.bytes; named = n ∷ c.named }

-- naming n besides makes no difference where every slot that has n is named already, or none has it
same_named : (ss : List Slot) (c : Change) (n : ℕ)
    → ((i : ℕ) → i < slots → used ss i ≡ true → eqb (slot_at ss i).number n ≡ true → is_in (slot_at ss i).number c.named ≡ true)
    → (i : ℕ) → i < slots → is_named ss (naming n c) i ≡ is_named ss c i
unfolding is_in
same_named ss c n f i l = same i l (used ss i) refl
  where
    absorbed : (a b : Bool) → (a ≡ true → b ≡ true) → (a || b) ≡ b
    absorbed true b g = sym (g refl)
    absorbed false b g = refl

    same : (i : ℕ) → i < slots → (u : Bool) → used ss i ≡ u
        → (u && (eqb (slot_at ss i).number n || is_in (slot_at ss i).number c.named)) ≡ (u && is_in (slot_at ss i).number c.named)
    same i l true e = absorbed (eqb (slot_at ss i).number n) (is_in (slot_at ss i).number c.named) (f i l e)
    same i l false e = refl

same_befores : (ss : List Slot) (c : Change) (n : ℕ) → ((i : ℕ) → i < slots → is_named ss (naming n c) i ≡ is_named ss c i)
    → befores ss (naming n c) ≡ befores ss c
unfolding befores
same_befores ss c n same =
    set_ext (is_before ss (naming n c)) (is_before ss c) (λ i l. ap (λ (x : Bool). x || (overlaps ss c i || hard_patch_on ss c.block i)) (same i l))

-- a number named twice counts once
pub named_twice : (ss : List Slot) (c : Change) (n : ℕ) → is_in n c.named ≡ true → befores ss (naming n c) ≡ befores ss c
named_twice ss c n h =
    same_befores ss c n (same_named ss c n (λ i l u e. ap (λ (m : ℕ). is_in m c.named) (eqb-true (slot_at ss i).number n e) ∙ h))

-- a committed number is dropped: a new patch does not follow it, and a change that joins does not add it
module _ (t : Table) (c : Change) (n : ℕ) (k : Committed t n) where
  not_named : (i : ℕ) → i < slots → is_named t.slots (naming n c) i ≡ is_named t.slots c i
  not_named = same_named t.slots c n (λ i l u e. absurd (k.1 i (l, u, eqb-true (slot_at t.slots i).number n e)))

  pub committed_dropped : befores t.slots (naming n c) ≡ befores t.slots c
  committed_dropped = same_befores t.slots c n not_named

  pub committed_not_added : added t.slots (naming n c) ≡ added t.slots c
  unfolding added
  committed_not_added =
      set_ext (named_elsewhere t.slots (naming n c)) (named_elsewhere t.slots c)
      (λ i l. ap (λ (x : Bool). x && not (eqb (slot_at t.slots i).block c.block)) (not_named i l))

-- taking back changes no length, so a block handed out has 256 bytes
module _ (ss : List Slot) (left : ℕ → Bool) (undo : List ℕ) where
  pub length_back_number : (n i : ℕ) (block : List ℕ) → length (back_number ss left undo n i block) ≡ length block
  unfolding back_number taken_back
  length_back_number n zero block = refl
  length_back_number n (suc i) block = go (left i && eqb (slot_at ss i).number n) ∙ length_back_number n i block
    where
      go : (b : Bool) → length (cond b (taken_back ss undo i (back_number ss left undo n i block)) (back_number ss left undo n i block)) ≡ length
          (back_number ss left undo n i block)
      go true = length_splice (back_number ss left undo n i block) _ _
      go false = refl

  length_back_down : (first n : ℕ) (block : List ℕ) → length (back_down ss left undo first n block) ≡ length block
  unfolding back_down
  length_back_down first zero block = refl
  length_back_down first (suc n) block =
      length_back_down first n (back_number ss left undo (first + n) slots block) ∙ length_back_number (first + n) slots block

pub length_handed_out : (t : Table) (b s : ℕ) (image undo : List ℕ) → length image ≡ image_bytes → b < blocks
    → length (handed_out t b s image undo) ≡ block_bytes
unfolding handed_out
length_handed_out t b s image undo e l =
    length_back_down t.slots (left_behind t.slots b s) undo t.first (t.next - t.first) (part image (block_start b) block_bytes)
    ∙ length_part image (block_start b) block_bytes (omega arith)
