-- Reading back what was written gives the same table: for every table of the board whose fields fit their widths. Assumes nothing.
use Prim.Native.Nat.{ℕ, zero, suc, ◌+◌, ◌*◌, ◌^◌, ◌≤◌, ◌<◌}
use mathlib.Core.Path.{◌≡◌, refl, sym, ap, ap₂, subst, ◌∙◌}
use mathlib.Core.List.{List, ◌∷◌, ◌++◌}
use native.Mathlib.Nat.{add-zero, add_assoc}
use native.Mathlib.Omega.{arith}
use lib.ListN.{length, get_or, take, drop}
use lib.Seq.{split_at, length-take-le, get_or-append-add}
use Rattle.rules.specs.declared.Setting.{Setting}
use Rattle.rules.specs.declared.Hold.TheVariants as hold
use Rattle.rules.specs.declared.Kind.TheVariants as kind
use Rattle.rules.specs.declared.State.{State}
use Rattle.rules.specs.declared.State.TheVariants as state
use Rattle.rules.specs.declared.Slot.{Slot}
use Rattle.rules.specs.Slots.{room_of, free_slot}
use Rattle.rules.specs.Table.{Table, slot_at, table_of}
use Rattle.rules.proofs.SlotsBy.{slots_are}
use Rattle.layout.specs.Layout.{slot_start, number_at, state_of, slot_in, table_in, IsTable, in_bytes, tag_of, slot_bytes, slots_bytes, bytes_of, SlotFits}
use Rattle.layout.specs.Layout.{TableFits}
use Rattle.layout.proofs.Laid.{length_slots, slots_append, length_table}

-- ---- one number

-- bytes in front are passed over
number_past : (pre ys : List ℕ) (at n : ℕ) → number_at (pre ++ ys) (length pre + at) n ≡ number_at ys at n
unfolding number_at
number_past pre ys at zero = refl
number_past pre ys at (suc n) =
    ap₂ (λ (a b : ℕ). a + b * 256 ^ n) (number_past pre ys at n)
    (ap (λ (j : ℕ). get_or (pre ++ ys) j 0) (add_assoc (length pre) at n) ∙ get_or-append-add pre ys (at + n) 0)

number_first : (pre ys : List ℕ) (n : ℕ) → number_at (pre ++ ys) (length pre) n ≡ number_at ys 0 n
number_first pre ys n = ap (λ (at : ℕ). number_at (pre ++ ys) at n) (sym (add-zero (length pre))) ∙ number_past pre ys 0 n

four_back : (x : ℕ) → x < 2 ^ 32 → number_at (in_bytes 4 x) 0 4 ≡ x
unfolding number_at in_bytes
four_back x l = omega arith

eight_back : (x : ℕ) → x < 2 ^ 64 → number_at (in_bytes 8 x) 0 8 ≡ x
unfolding number_at in_bytes
eight_back x l = omega arith

-- ---- one slot

tag_most : (u : State) → tag_of u ≤ 4
tag_most state.Free = omega arith
tag_most (state.Waiting hold.Hard) = omega arith
tag_most (state.Waiting (hold.Soft r)) = omega arith
tag_most (state.InFlight kind.Hard) = omega arith
tag_most (state.InFlight kind.Soft) = omega arith

tag_back : (s : Slot) (rest : List ℕ) → number_at (slot_bytes s ++ rest) 0 4 ≡ tag_of s.state
unfolding number_at in_bytes slot_bytes
tag_back s rest = four_back (tag_of s.state) (omega (arith, tag_most s.state))

state_back : (u : State) → room_of u < 2 ^ 32 → state_of (tag_of u) (number_at (in_bytes 4 (room_of u)) 0 4) ≡ u
state_back state.Free l = refl
state_back (state.Waiting hold.Hard) l = refl
state_back (state.Waiting (hold.Soft r)) l = ap (λ (x : ℕ). state.Waiting (hold.Soft x)) (four_back r l)
state_back (state.InFlight kind.Hard) l = refl
state_back (state.InFlight kind.Soft) l = refl

abbrev slot_of : State → ℕ → ℕ → ℕ → ℕ → ℕ → Slot
slot_of u n b o l m = record { state = u; number = n; block = b; offset = o; len = l; befores = m }

-- slots that agree field by field are one
pub same_slot : {u v : State} {n n' b b' o o' l l' m m' : ℕ} → u ≡ v → n ≡ n' → b ≡ b' → o ≡ o' → l ≡ l' → m ≡ m'
    → slot_of u n b o l m ≡ slot_of v n' b' o' l' m'
same_slot p q r s t w = cc

slot_back : (s : Slot) (rest : List ℕ) → SlotFits s → slot_in (slot_bytes s ++ rest) 0 ≡ s
unfolding number_at in_bytes slot_bytes slot_in
slot_back s rest f =
    same_slot
    (ap (λ (tag : ℕ). state_of tag (number_at (in_bytes 4 (room_of s.state)) 0 4)) (tag_back s rest) ∙ state_back s.state f.room)
    (four_back s.number f.number) (four_back s.block f.block) (four_back s.offset f.offset) (four_back s.len f.len)
    (eight_back s.befores f.befores)

slot_past : (pre ys : List ℕ) → slot_in (pre ++ ys) (length pre) ≡ slot_in ys 0
unfolding slot_in
slot_past pre ys =
    same_slot (ap₂ state_of (number_first pre ys 4) (number_past pre ys 4 4))
    (number_past pre ys 8 4) (number_past pre ys 12 4) (number_past pre ys 16 4) (number_past pre ys 20 4) (number_past pre ys 24 8)

-- ---- the table

-- where slot i's bytes stand among all
record Stands (t : Table) (i : ℕ) : Type 0 where
  pre : List ℕ
  rest : List ℕ
  start : length pre ≡ slot_start i
  whole : bytes_of t ≡ pre ++ (slot_bytes (slot_at t.slots i) ++ rest)

stands : (t : Table) (i : ℕ) → i < length t.slots → Stands t i
unfolding in_bytes bytes_of slots_bytes
stands t i l = record {
  pre = in_bytes 4 t.first ++ in_bytes 4 t.next ++ slots_bytes (take i t.slots);
  rest = slots_bytes (drop (suc i) t.slots);
  start = omega (arith, length_slots (take i t.slots), length-take-le i t.slots (omega arith));
  whole = ap (λ (ys : List ℕ). in_bytes 4 t.first ++ in_bytes 4 t.next ++ ys)
      (ap slots_bytes (split_at t.slots i free_slot l) ∙ slots_append (take i t.slots) (slot_at t.slots i ∷ drop (suc i) t.slots));
}

slot_there : (t : Table) (i : ℕ) → Stands t i → SlotFits (slot_at t.slots i) → slot_in (bytes_of t) (slot_start i) ≡ slot_at t.slots i
slot_there t i w f =
    ap₂ slot_in w.whole (sym w.start) ∙ slot_past w.pre (slot_bytes (slot_at t.slots i) ++ w.rest) ∙ slot_back (slot_at t.slots i) w.rest f

tag_there : (t : Table) (i : ℕ) → Stands t i → number_at (bytes_of t) (slot_start i) 4 ≤ 4
tag_there t i w =
    subst (λ (x : ℕ). x ≤ 4)
    (sym (ap₂ (λ (bytes : List ℕ) (at : ℕ). number_at bytes at 4) w.whole (sym w.start) ∙ number_first w.pre
    (slot_bytes (slot_at t.slots i) ++ w.rest) 4 ∙ tag_back (slot_at t.slots i) w.rest))
    (tag_most (slot_at t.slots i).state)

same_table : {g g' : Setting} {f f' n n' : ℕ} {ss ss' : List Slot} → g ≡ g' → f ≡ f' → n ≡ n' → ss ≡ ss' → table_of g f n ss ≡ table_of g' f' n' ss'
same_table p q r s = cc

first_back : (t : Table) → t.first < 2 ^ 32 → number_at (bytes_of t) 0 4 ≡ t.first
unfolding number_at in_bytes bytes_of
first_back t l = four_back t.first l

next_back : (t : Table) → t.next < 2 ^ 32 → number_at (bytes_of t) 4 4 ≡ t.next
unfolding number_at in_bytes bytes_of
next_back t l = four_back t.next l

pub read_back : (t : Table) → TableFits t → (table_in (bytes_of t) ≡ t) × IsTable (bytes_of t)
unfolding table_in
read_back t f = (
  same_table (sym f.setting) (first_back t f.first) (next_back t f.next)
      (sym (slots_are t.slots (λ i. slot_in (bytes_of t) (slot_start i)) f.size
      (λ i l. sym (slot_there t i (stands t i (omega (arith, f.size))) (f.each i l))))),
  record { size = length_table t f.size; tags = λ i l. tag_there t i (stands t i (omega (arith, f.size))) },
)
