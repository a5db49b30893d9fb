-- Slots in bytes one after the other, and how many bytes they take. Assumes nothing.
use Prim.Native.Nat.{ℕ, ◌+◌, ◌*◌, ◌<◌}
use mathlib.Core.Path.{◌≡◌, refl, sym, ap, ◌∙◌}
use mathlib.Core.List.{List, [], ◌∷◌, ◌++◌, append_assoc, append-nil}
use native.Mathlib.Numerals.{add-one}
use native.Mathlib.Omega.{arith}
use lib.ListN.{length, take, length-append}
use lib.Seq.{take-suc}
use Rattle.rules.specs.declared.Slot.{Slot}
use Rattle.rules.specs.Slots.{free_slot}
use Rattle.rules.specs.Sizes.{slots}
use Rattle.rules.specs.Table.{Table, slot_at}
use Rattle.layout.specs.Layout.{table_bytes, in_bytes, slot_bytes, slots_bytes, bytes_of}

pub length_slot : (s : Slot) → length (slot_bytes s) ≡ 32
unfolding in_bytes slot_bytes
length_slot s = refl

pub length_slots : (ss : List Slot) → length (slots_bytes ss) ≡ 32 * length ss
unfolding slots_bytes
length_slots [] = refl
length_slots (s ∷ ss) = length-append (slot_bytes s) (slots_bytes ss) ∙ (omega (arith, length_slot s, length_slots ss))

pub slots_append : (ss rs : List Slot) → slots_bytes (ss ++ rs) ≡ slots_bytes ss ++ slots_bytes rs
unfolding slots_bytes
slots_append [] rs = refl
slots_append (s ∷ ss) rs = ap (λ (l : List ℕ). slot_bytes s ++ l) (slots_append ss rs) ∙ sym (append_assoc (slot_bytes s) (slots_bytes ss) (slots_bytes rs))

-- one slot more
pub slots_more : (ss : List Slot) (i : ℕ) → i < length ss → slots_bytes (take (i + 1) ss) ≡ slots_bytes (take i ss) ++ slot_bytes (slot_at ss i)
unfolding slots_bytes
slots_more ss i l =
    rw (add-one i, take-suc ss i free_slot l)
    (slots_append (take i ss) (slot_at ss i ∷ []) ∙ ap (λ (l : List ℕ). slots_bytes (take i ss) ++ l) (append-nil (slot_bytes (slot_at ss i))))

-- a table has as many bytes as the layout says
pub length_table : (t : Table) → length t.slots ≡ slots → length (bytes_of t) ≡ table_bytes
unfolding in_bytes bytes_of
length_table t e = omega (arith, length_slots t.slots)
