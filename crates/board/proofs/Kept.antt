-- WHAT IS KEPT OVER SLEEP IS THE TABLE: the bytes that a granted call leaves are a table, and mean the very next table of document 01.
-- Assumed: what was read are bytes, as memory has them.
use Prim.Native.Nat.{ℕ, zero, suc, ◌+◌, ◌*◌, ◌/◌, ◌^◌, ◌<◌}
use mathlib.Core.Path.{◌≡◌, refl, sym, subst}
use mathlib.Core.Bool.{Bool, true, false, cond}
use mathlib.Core.List.{List, [], ◌∷◌, ◌++◌}
use mathlib.Core.Logic.{inr}
use native.Mathlib.Decide.{ℕ_discrete}
use native.Mathlib.Omega.{arith}
use lib.Dec.{eqb}
use lib.ListN.{get_or}
use Rattle.masks.specs.Sets.{has}
use Rattle.masks.proofs.Laws.{set_lt}
use Rattle.rules.specs.declared.Setting.{Setting}
use Rattle.rules.specs.declared.Setting.TheVariants.{Board}
use Rattle.rules.specs.declared.Hold.{Hold}
use Rattle.rules.specs.declared.Hold.TheVariants as hold
use Rattle.rules.specs.declared.Kind.TheVariants as kind
use Rattle.rules.specs.declared.State.{State}
use Rattle.rules.specs.declared.State.TheVariants as state
use Rattle.rules.specs.declared.Slot.{Slot}
use Rattle.rules.specs.Sizes.{slots, last_number}
use Rattle.rules.specs.Slots.{is_used, room_of, free_slot, with_state}
use Rattle.rules.specs.Table.{Table, table_of, slot_at, slots_by}
use Rattle.rules.specs.Open.{opened}
use Rattle.rules.specs.Create.{Change, befores, HoldOf, turned_state, turned, patch, accepted_slots, accepted}
use Rattle.rules.specs.Create.{added, with_more, joined_slots, joined}
use Rattle.rules.specs.Write.{sent_state, sent_slot, sent_slots, sent}
use Rattle.rules.specs.Complete.{without_befores, landed_slot, landed_slots, landing, completed_slots, completed}
use Rattle.rules.specs.Refusals.{First, TakesSlot, open_cases}
use Rattle.rules.specs.Calls.{answer_number, Opening, Opens, Creation, Accepts, Creates, Writing, Writes}
use Rattle.rules.specs.Calls.{Completion, Completes, sent_set}
use Rattle.rules.proofs.Cases.{passed}
use Rattle.rules.proofs.SlotsBy.{slot_by, length_by}
use Rattle.rules.specs.Passed.{CreateReady, CreatePassed}
use Rattle.rules.proofs.Granted.{create_passed}
use Rattle.rules.proofs.Rooms.{rooms_most}
use native.Mathlib.Nat.{add-zero, add_assoc}
use Rattle.layout.specs.Layout.{number_at, state_of, slot_in, slot_start, table_in, IsTable, in_bytes, tag_of, slot_bytes, slots_bytes, bytes_of, SlotFits}
use Rattle.layout.specs.Layout.{TableFits}
use Rattle.layout.proofs.RoundTrip.{read_back}

-- ---- what is read from bytes fits

-- each is below 256, as in memory
abbrev pub Bytes : List ℕ → Type 0
Bytes xs = (i : ℕ) → get_or xs i 0 < 256

-- and so is all that is written
number_bytes : (n x : ℕ) → Bytes (in_bytes n x)
unfolding in_bytes
number_bytes zero x i = omega arith
number_bytes (suc n) x zero = omega arith
number_bytes (suc n) x (suc i) = number_bytes n (x / 256) i

append_bytes : (xs ys : List ℕ) → Bytes xs → Bytes ys → Bytes (xs ++ ys)
append_bytes [] ys f g i = g i
append_bytes (x ∷ xs) ys f g zero = f 0
append_bytes (x ∷ xs) ys f g (suc i) = append_bytes xs ys (λ j. f (suc j)) g i

more_bytes : (xs : List ℕ) (n x : ℕ) → Bytes xs → Bytes (xs ++ in_bytes n x)
more_bytes xs n x f = append_bytes xs (in_bytes n x) f (number_bytes n x)

slot-bytes : (s : Slot) → Bytes (slot_bytes s)
unfolding slot_bytes
slot-bytes s =
    let a = in_bytes 4 (tag_of s.state) in
    let b = a ++ in_bytes 4 (room_of s.state) in
    let c = b ++ in_bytes 4 s.number in
    let d = c ++ in_bytes 4 s.block in
    let e = d ++ in_bytes 4 s.offset in
    let f = e ++ in_bytes 4 s.len in
    more_bytes f 8 s.befores
    (more_bytes e 4 s.len
    (more_bytes d 4 s.offset
    (more_bytes c 4 s.block (more_bytes b 4 s.number (more_bytes a 4 (room_of s.state) (number_bytes 4 (tag_of s.state)))))))

slots-bytes : (ss : List Slot) → Bytes (slots_bytes ss)
unfolding slots_bytes
slots-bytes [] i = omega arith
slots-bytes (s ∷ ss) i = append_bytes (slot_bytes s) _ (slot-bytes s) (slots-bytes ss) i

pub bytes-of : (t : Table) → Bytes (bytes_of t)
unfolding bytes_of
bytes-of t =
    let a = in_bytes 4 t.first in
    append_bytes (a ++ in_bytes 4 t.next) (slots_bytes t.slots) (more_bytes a 4 t.next (number_bytes 4 t.first)) (slots-bytes t.slots)

state_fits : (tag room : ℕ) → room < 2 ^ 32 → room_of (state_of tag room) < 2 ^ 32
state_fits tag room l = by (eqb tag 0) (eqb tag 1) (eqb tag 2) (eqb tag 3)
  where
    by : (p q r s : Bool)
        → room_of (cond p state.Free
        (cond q (state.Waiting hold.Hard) (cond r (state.Waiting (hold.Soft room)) (cond s (state.InFlight kind.Hard) (state.InFlight kind.Soft))))) < 2 ^ 32
    by true q r s = omega arith
    by false true r s = omega arith
    by false false true s = l
    by false false false true = omega arith
    by false false false false = omega arith

-- a number of 4 and of 8 bytes from its parts
number_4 : (xs : List ℕ) (at : ℕ)
    → number_at xs at 4 ≡ ((get_or xs at 0 + get_or xs (at + 1) 0 * 256) + get_or xs (at + 2) 0 * 65536) + get_or xs (at + 3) 0 * 16777216
unfolding number_at
number_4 xs at = rw (add-zero at) (omega arith)

number_8 : (xs : List ℕ) (at : ℕ) → number_at xs at 8 ≡ number_at xs at 4 + number_at xs (at + 4) 4 * 4294967296
unfolding number_at
number_8 xs at = simp add_assoc (omega arith)

module _ (xs : List ℕ) (b : Bytes xs) where
  four_fits : (at : ℕ) → number_at xs at 4 < 2 ^ 32
  four_fits at = omega (arith, number_4 xs at, b at, b (at + 1), b (at + 2), b (at + 3))

  eight_fits : (at : ℕ) → number_at xs at 8 < 2 ^ 64
  eight_fits at = omega (arith, number_8 xs at, four_fits at, four_fits (at + 4))

  slot_fits : (at : ℕ) → SlotFits (slot_in xs at)
  unfolding slot_in
  slot_fits at = record {
    room = state_fits (number_at xs at 4) (number_at xs (at + 4) 4) (four_fits (at + 4));
    number = four_fits (at + 8);
    block = four_fits (at + 12);
    offset = four_fits (at + 16);
    len = four_fits (at + 20);
    befores = eight_fits (at + 24);
  }

-- slots that fit, one by one, make a table that fits
by_fits : {g : Setting} (first next : ℕ) (f : ℕ → Slot) → g ≡ Board → first < 2 ^ 32 → next < 2 ^ 32 → ((i : ℕ) → i < slots → SlotFits (f i))
    → TableFits (table_of g first next (slots_by f))
by_fits first next f e a b each = record { setting = e; first = a; next = b; size = length_by f; each = λ i l. subst SlotFits (sym (slot_by f i l)) (each i l) }

table_fits : (xs : List ℕ) → Bytes xs → TableFits (table_in xs)
unfolding table_in
table_fits xs b = by_fits (number_at xs 0 4) (number_at xs 4 4) (λ i. slot_in xs (slot_start i)) refl (four_fits xs b 0) (four_fits xs b 4)
    (λ i l. slot_fits xs b (slot_start i))

-- ---- what a call makes of slots that fit, fits

free_fits : SlotFits free_slot
free_fits = record { room = omega arith; number = omega arith; block = omega arith; offset = omega arith; len = omega arith; befores = omega arith }

with_state_fits : (u : State) (s : Slot) → room_of u < 2 ^ 32 → SlotFits s → SlotFits (with_state u s)
with_state_fits u s l f = record { room = l; number = f.number; block = f.block; offset = f.offset; len = f.len; befores = f.befores }

either_fits : (b : Bool) (s r : Slot) → SlotFits s → SlotFits r → SlotFits (cond b s r)
either_fits true s r f g = f
either_fits false s r f g = g

turned_room : (u : State) → room_of (turned_state u) < 2 ^ 32
turned_room state.Free = omega arith
turned_room (state.Waiting h) = omega arith
turned_room (state.InFlight k) = omega arith

turned_fits : (h : Hold) (b : ℕ) (s : Slot) → SlotFits s → SlotFits (turned h b s)
turned_fits hold.Hard b s f = either_fits (eqb s.block b) _ s (with_state_fits (turned_state s.state) s (turned_room s.state) f) f
turned_fits (hold.Soft r) b s f = f

sent_room : (u : State) → room_of (sent_state u) < 2 ^ 32
sent_room state.Free = omega arith
sent_room (state.Waiting h) = omega arith
sent_room (state.InFlight k) = omega arith

sent_slot_fits : (goes : Bool) (s : Slot) → SlotFits s → SlotFits (sent_slot goes s)
sent_slot_fits goes s f = either_fits goes _ s (with_state_fits (sent_state s.state) s (sent_room s.state) f) f

without_fits : (gone : ℕ) (s : Slot) → SlotFits s → SlotFits (without_befores gone s)
without_fits gone s f = record { room = f.room; number = f.number; block = f.block; offset = f.offset; len = f.len; befores = set_lt _ }

more_fits : (m : ℕ) (s : Slot) → SlotFits s → SlotFits (with_more m s)
more_fits m s f = record { room = f.room; number = f.number; block = f.block; offset = f.offset; len = f.len; befores = set_lt _ }

landed_slot_fits : (landed : ℕ) (commits : Bool) (s : Slot) → SlotFits s → SlotFits (landed_slot landed commits s)
landed_slot_fits landed commits s f =
    either_fits commits free_slot _ free_fits (either_fits (is_used s.state) (without_befores landed s) s (without_fits landed s f) f)

hold_room : {g : Setting} {ss : List Slot} {b : ℕ} {h : Hold} → HoldOf g ss b h → room_of (state.Waiting h) < 2 ^ 32
hold_room {g} (HoldOf.hard w) = omega arith
hold_room {g} (HoldOf.soft n r) = omega (arith, r.within, rooms_most g)

module _ (t : Table) (f : TableFits t) where
  patch_fits : {image undo : List ℕ} (c : Change) (h : Hold) → CreateReady t image undo c → HoldOf t.setting t.slots c.block h → SlotFits (patch t c h)
  unfolding patch befores
  patch_fits c h v o = record {
    room = hold_room o;
    number = f.next;
    block = omega (arith, v.is_block);
    offset = omega (arith, v.ends);
    len = omega (arith, v.len_most);
    befores = set_lt _;
  }

  accepted_fits : {image undo : List ℕ} (c : Change) (j : ℕ) (h : Hold) → CreatePassed t image undo c → TakesSlot t c
      → HoldOf t.setting t.slots c.block h → TableFits (accepted t c j h)
  unfolding accepted accepted_slots
  accepted_fits c j h v own o =
      let p = patch t c h in
      by_fits t.first (t.next + 1) _ f.setting f.first (omega (arith, v.last own))
      (λ i l. either_fits (eqb i j) p _ (patch_fits c h v.ready o) (turned_fits h p.block (slot_at t.slots i) (f.each i l)))

  joined_fits : (c : Change) (j : ℕ) → TableFits (joined t c j)
  unfolding joined joined_slots
  joined_fits c j =
      let m = added t.slots c in
      by_fits t.first t.next _ f.setting f.first f.next
      (λ i l.
      let s = turned_fits hold.Hard c.block (slot_at t.slots i) (f.each i l) in
      either_fits (eqb i j) (with_more m (turned hold.Hard c.block (slot_at t.slots i))) _ (more_fits m _ s) s)

  sent_fits : (s : ℕ) → TableFits (sent t s)
  unfolding sent sent_slots
  sent_fits s = by_fits t.first t.next _ f.setting f.first f.next (λ i l. sent_slot_fits (has s i) (slot_at t.slots i) (f.each i l))

  completed_fits : (b : ℕ) → TableFits (completed t b)
  unfolding completed completed_slots landed_slots
  completed_fits b =
      let landed = landing t.slots b in
      by_fits t.first t.next _ f.setting f.first f.next (λ i l. landed_slot_fits landed (has landed i) (slot_at t.slots i) (f.each i l))

-- ---- the theorems

-- a table whose bytes mean it
abbrev pub ReadsBack : Table → Type 0
ReadsBack t = (table_in (bytes_of t) ≡ t) × IsTable (bytes_of t)

opened_fits : (m : ℕ) → m < 2 ^ 32 → TableFits (opened Board m)
opened_fits m l = by_fits m m (λ i. free_slot) refl l l (λ i b. free_fits)

pub open_kept : (n : ℕ) (o : Opening) → Opens Board n o → ReadsBack o.table
open_kept n o p = go (ℕ_discrete (answer_number o.answer) 0)
  where
    go : Dec (answer_number o.answer ≡ 0) → ReadsBack o.table
    go (no d) = subst (λ (x : Opening). ReadsBack x.table) (sym (p.refusal d).2) (read_back (opened Board 1) (opened_fits 1 (omega arith)))
    go (yes z) =
        let f = passed (λ e. omega arith) (subst (First (open_cases n)) z p.first) in
        let b : (last_number < n → ⊥) = λ l. f.0 (inr l) in
        subst (λ (x : Opening). ReadsBack x.table) (sym (p.grant z)) (read_back (opened Board n) (opened_fits n (omega (arith, b))))

module _ (xs : List ℕ) (bytes : Bytes xs) where
  pub create_kept : (image undo : List ℕ) (c : Change) (o : Creation) → Creates (table_in xs) image undo c o → answer_number o.answer ≡ 0
      → ReadsBack o.table
  create_kept image undo c o p z = go (p.grant z)
    where
      t : Table
      t = table_in xs

      go : Accepts t image undo c o → ReadsBack o.table
      go (Accepts.takes own g) =
          subst (λ (x : Creation). ReadsBack x.table) (sym g.whole)
          (read_back (accepted t c g.slot g.hold)
          (accepted_fits t (table_fits xs bytes) c g.slot g.hold (create_passed p z) own g.hard-or-soft))
      go (Accepts.joins j g) =
          subst (λ (x : Creation). ReadsBack x.table) (sym g.whole)
          (read_back (joined t c g.slot) (joined_fits t (table_fits xs bytes) c g.slot))

  pub write_kept : (image undo handed : List ℕ) (b : ℕ) (o : Writing) → Writes (table_in xs) image undo handed b o → answer_number o.answer ≡ 0
      → ReadsBack o.table
  write_kept image undo handed b o p z =
      let g = p.grant z in
      subst (λ (x : Writing). ReadsBack x.table) (sym g.whole)
      (read_back (sent (table_in xs) (sent_set o.answer)) (sent_fits (table_in xs) (table_fits xs bytes) (sent_set o.answer)))

  pub complete_kept : (b : ℕ) (o : Completion) → Completes (table_in xs) b o → answer_number o.answer ≡ 0 → ReadsBack o.table
  complete_kept b o p z =
      subst (λ (x : Completion). ReadsBack x.table) (sym (p.grant z))
      (read_back (completed (table_in xs) b) (completed_fits (table_in xs) (table_fits xs bytes) b))
