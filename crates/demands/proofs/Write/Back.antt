-- A granted write and the bytes it hands out: the rules take back slot by slot from the highest number, `cut` change by change from the newest. What is left
-- behind has a room, so its number stands for one change, and the two orders are the same.
use Prim.Native.Nat.{ℕ, suc, ◌+◌, ◌-◌, ◌≤◌, ◌<◌}
use native.Mathlib.Omega.{arith}
use native.Mathlib.Nat.{sub-zero}
use native.Mathlib.Decide.{dec_lt}
use mathlib.Core.Path.{◌≡◌, refl, sym, ◌∙◌, ap}
use mathlib.Core.Bool.{Bool, true, false, cond}
use mathlib.Core.List.{List, [], ◌∷◌, ◌++◌, map, Memᴰ}
use mathlib.Core.Option.{Option, none, some}
use mathlib.Core.Logic.{◌⊎◌, inl, inr}
use lib.ListN.{length, get_or}
use Rattle.ground.proofs.Decided.{clash, true_or_false}
use Rattle.spans.specs.Spans.{splice, part}
use Rattle.spans.proofs.Laws.{splice_in, splice_below, splice_above, length_part, part_in}
use Rattle.rules.specs.declared.Slot.{Slot}
use Rattle.rules.specs.Sizes.{block_bytes, block_start, slots, room_start}
use Rattle.rules.specs.Settings.{rooms}
use Rattle.rules.specs.Slots.{room_of}
use Rattle.rules.specs.Table.{slot_at}
use Rattle.rules.specs.Write.{left_behind, taken_back, back_number, back_down, handed_out}
use Rattle.rules.proofs.TakenBack.{number_nowhere, number_there}
use Rattle.rules.proofs.Pins.{length_back_number, length_handed_out}
use Rattle.cut.specs.Changes.{Store, Logged, covers}
use Rattle.cut.specs.World.{left, put_back, take_back}
use Rattle.cut.proofs.Facts.{carry_inside}
use Rattle.demands.specs.History.{History, Accepted}
use Rattle.demands.specs.Demand3.{Earlier, written}
use Rattle.rules.proofs.Words.{waiting_used}
use Rattle.demands.proofs.Log.{plain, Numbered, first_least, once_oldest}
use Rattle.demands.proofs.Views.{view, view_in, view_past, covers_of, inside_of}
use Rattle.demands.proofs.Notes.{Whole, whole, view_written}
use Rattle.demands.proofs.Lookup.{slot_of, carries_used, carries_number, carries_of, slot_carries, nowhere}
use Rattle.demands.proofs.AtSlot.{room_at}
use Rattle.demands.proofs.Linked.{Range, Has}
use Rattle.demands.proofs.Good.{room_byte, room-byte, old_byte, world}
use Rattle.demands.proofs.Write.Slots.{Sending, writ, goes}
use Rattle.demands.proofs.Write.Left.{behind, is_left, behind_waits, behind_roomed, left_slot, left_nowhere, left_one, joined_not_left}

-- the part of a log that starts at some place of it
record Since (l log : List Accepted) : Type 0 where
  member : (x : Accepted) → Memᴰ x l → Memᴰ x log
  order : (y x : Accepted) → Earlier l y x → Earlier log y x

since_older : {a : Accepted} {l log : List Accepted} → Since (a ∷ l) log → Since l log
since_older f = record { member = λ x m. f.member x (Memᴰ.tail m); order = λ y x e. f.order y x (Earlier.there e) }

module _ {h : History} {b s : ℕ} (d : Sending h b s) where
  abbrev ss : List Slot
  ss = h.table.slots

  -- a list of bytes looks like block b of a store
  abbrev Looks : List ℕ → Store → Type 0
  Looks xs st = (i : ℕ) → i < block_bytes → get_or xs i 0 ≡ st b i

  -- ---- one change: its patch taken back from its room, and its old bytes put back, look alike

  module _ (a : Accepted) (j : ℕ) (q : slot_of ss a.number ≡ some j) (same : Range (slot_at ss j) (plain a)) (e : behind d j ≡ true)
      (at_block : a.change.block ≡ b) (xs : List ℕ) (st : Store) (size : length xs ≡ block_bytes) (looks : Looks xs st) where
    mine : Has ss a j
    mine = slot_carries ss a.number j q

    room : ℕ
    room = room_of (slot_at ss j).state

    room_low : room < rooms h.table.setting
    unfolding room
    room_low = d.good.sound.room_most j (room_of (slot_at ss j).state) mine.0 (behind_roomed d j mine.0 e)

    old : List ℕ
    old = part h.undo (room_start room) (slot_at ss j).len

    short : (slot_at ss j).len ≤ 64
    short = d.good.sound.len_most j mine.0 (carries_used ss a.number j mine.1)

    old_length : length old ≡ (slot_at ss j).len
    unfolding old
    old_length = length_part h.undo (room_start room) (slot_at ss j).len (omega (arith, room_low, short, d.passed.ready.undo_whole))

    in_range : (i : ℕ) → covers (plain a) b i ≡ true → get_or (splice xs (slot_at ss j).offset old) i 0 ≡ old_byte ss h.undo (plain a) i
    unfolding old room
    in_range i k =
        let p = inside_of (plain a) b i k in
        let eo = same.offset in
        let el = same.len in
        let ol = old_length in
        let sh = short in
        let ends = d.good.sound.ends j mine.0 (carries_used ss a.number j mine.1) in
        let back : i - (slot_at ss j).offset ≡ i - a.change.offset = ap (λ (x : ℕ). i - x) eo in
        splice_in xs (slot_at ss j).offset old i (omega (arith, p.1)) (omega (arith, p.2)) (omega (arith, p.2))
        ∙ ap (λ (x : ℕ). get_or old x 0) back
        ∙ part_in h.undo (room_start room) (slot_at ss j).len (i - a.change.offset) (omega (arith, p.1, p.2))
        ∙ sym (room-byte h.undo room (i - a.change.offset) (omega (arith, p.1, p.2)))
        ∙ ap (λ (x : ℕ). room_byte h.undo x (i - a.change.offset)) (sym (ap (room_at ss) q))

    past_range : (i : ℕ) → covers (plain a) b i ≡ false → get_or (splice xs (slot_at ss j).offset old) i 0 ≡ get_or xs i 0
    past_range i k = other (dec_lt i (slot_at ss j).offset) (dec_lt i ((slot_at ss j).offset + (slot_at ss j).len))
      where
        other : Dec (i < (slot_at ss j).offset) → Dec (i < (slot_at ss j).offset + (slot_at ss j).len)
            → get_or (splice xs (slot_at ss j).offset old) i 0 ≡ get_or xs i 0
        other (yes p) z = splice_below xs (slot_at ss j).offset old i p
        other (no p) (no z) = splice_above xs (slot_at ss j).offset old i (omega (arith, old_length))
        other (no p) (yes z) =
            let eo = same.offset in
            let el = same.len in
            absurd (clash (covers_of (plain a) b i (sym at_block) (omega arith) (omega arith)) k)

    put_looks : Looks (taken_back ss h.undo j xs) (put_back (old_byte ss h.undo) (plain a) st)
    unfolding taken_back put_back old room
    put_looks i l = go (covers (plain a) b i) refl
      where
        go : (v : Bool) → covers (plain a) b i ≡ v → get_or (splice xs (slot_at ss j).offset old) i 0 ≡ cond v (old_byte ss h.undo (plain a) i) (st b i)
        go true k = in_range i k
        go false k = past_range i k ∙ looks i l

  -- ---- one number

  module _ (a : Accepted) (m : Memᴰ a h.accepted) (xs : List ℕ) (st : Store) (size : length xs ≡ block_bytes) (looks : Looks xs st) where
    abbrev taken : List ℕ
    taken = back_number h.table.slots (left_behind h.table.slots b s) h.undo a.number slots xs

    -- the store with the change put back, if it is left behind
    abbrev put : Store
    put = cond (left b (goes d) (world h) (plain a)) (put_back (old_byte h.table.slots h.undo) (plain a) st) st

    as_it_was : taken ≡ xs → is_left d (plain a) ≡ false → Looks taken put
    as_it_was e f i l =
        ap (λ (x : List ℕ). get_or x i 0) e ∙ looks i l ∙ sym (ap (λ (v : Bool). cond v (put_back (old_byte ss h.undo) (plain a) st) st b i) f)

    module _ (j : ℕ) (q : slot_of ss a.number ≡ some j) where
      has_it : Has ss a j
      has_it = slot_carries ss a.number j q

      number : (slot_at ss j).number ≡ a.number
      number = carries_number ss a.number j has_it.1

      only_j : (i : ℕ) → i < slots → behind d i ≡ true → (slot_at ss i).number ≡ a.number → i ≡ j
      only_j i l e n =
          let used-i = waiting_used (slot_at ss i).state (behind_waits d i e).0 in
          d.good.sound.numbers_differ i j l has_it.0 used-i (carries_used ss a.number j has_it.1) (n ∙ sym number)

      at_slot_j : (v : Bool) → behind d j ≡ v → Looks taken put
      at_slot_j true e i l =
          let gone = left_slot d a m j q ∙ e in
          let oldest = once_oldest h.accepted a m (left_one d a m gone).1 in
          let block = sym (d.good.linked.block a m j has_it) ∙ (behind_waits d j e).1 in
          ap (λ (n : ℕ). get_or (back_number ss (behind d) h.undo n slots xs) i 0) (sym number)
          ∙ ap (λ (x : List ℕ). get_or x i 0) (number_there ss (behind d) h.undo j slots xs has_it.0 e (λ y ly ey ny. only_j y ly ey (ny ∙ number)))
          ∙ put_looks a j q (d.good.linked.range a oldest j has_it) e block xs st size looks i l
          ∙ sym (ap (λ (v : Bool). cond v (put_back (old_byte ss h.undo) (plain a) st) st b i) gone)
      at_slot_j false e i l =
          as_it_was (number_nowhere ss (behind d) h.undo a.number slots xs (λ y ly f n. clash f (ap (behind d) (only_j y ly f n) ∙ e)))
          (left_slot d a m j q ∙ e) i l

    one_back : Looks taken put
    one_back = go (slot_of ss a.number) refl
      where
        go : (p : Option ℕ) → slot_of ss a.number ≡ p → Looks taken put
        go none q =
            as_it_was
            (number_nowhere ss (behind d) h.undo a.number slots xs
            (λ i l f n. nowhere ss a.number q i l (carries_of ss a.number i (waiting_used (slot_at ss i).state (behind_waits d i f).0) n)))
            (left_nowhere d a q)
        go (some j) q = at_slot_j j q (behind d j) refl

  -- ---- all of them

  -- a change that has joined another stays as it is, and any other is met at its number
  all_back : {l : List Accepted} {next : ℕ} (n : ℕ) → Numbered h.table.first l next → next ≡ h.table.first + n → Since l h.accepted
      → (xs : List ℕ) (st : Store) → length xs ≡ block_bytes → Looks xs st
      → Looks (back_down ss (behind d) h.undo h.table.first n xs) (take_back (is_left d) (old_byte ss h.undo) (map plain l) st)
  unfolding back_down take_back
  all_back n Numbered.begins e f xs st size looks i k =
      let z : n ≡ 0 = omega arith in ap (λ (x : ℕ). get_or (back_down ss (behind d) h.undo h.table.first x xs) i 0) z ∙ looks i k
  all_back n (Numbered.fresh {older = l} {next = next} a p q) e f xs st size looks i k =
      let low = first_least q in
      let rest : ℕ = next - h.table.first in
      let top : n ≡ suc rest = omega arith in
      let num : h.table.first + rest ≡ a.number = omega arith in
      let m = f.member a (Memᴰ.head refl) in
      ap (λ (x : ℕ). get_or (back_down ss (behind d) h.undo h.table.first x xs) i 0) top
      ∙ ap (λ (x : ℕ). get_or (back_down ss (behind d) h.undo h.table.first rest (back_number ss (behind d) h.undo x slots xs)) i 0) num
      ∙ all_back rest q (omega arith) (since_older f) (taken a m xs st size looks) (put a m xs st size looks)
      (length_back_number ss (behind d) h.undo a.number slots xs ∙ size) (one_back a m xs st size looks) i k
  all_back n (Numbered.joins {older = l} a x t p r q) e f xs st size looks i k =
      let stays = joined_not_left d a x (f.member a (Memᴰ.head refl)) (f.order a x (Earlier.here t)) p in
      all_back n q e (since_older f) xs st size looks i k
      ∙ sym
      (ap (λ (v : Bool). take_back (is_left d) (old_byte ss h.undo) (map plain l) (cond v (put_back (old_byte ss h.undo) (plain a) st) st) b i) stays)

  -- past a block's edge nothing is taken back
  past_back : (l : List Accepted) → ((x : Accepted) → Memᴰ x l → Memᴰ x h.accepted) → (out : Logged → Bool) (undo : Logged → ℕ → ℕ)
      (st : Store) (i : ℕ) → block_bytes ≤ i → take_back out undo (map plain l) st b i ≡ st b i
  unfolding take_back put_back
  past_back [] f out undo st i k = refl
  past_back (a ∷ l) f out undo st i k =
      past_back l (λ x m. f x (Memᴰ.tail m)) out undo (cond (out (plain a)) (put_back undo (plain a) st) st) i k
      ∙ go (out (plain a)) (true_or_false (covers (plain a) b i))
    where
      go : (v : Bool) → (covers (plain a) b i ≡ true) ⊎ (covers (plain a) b i ≡ false) → cond v (put_back undo (plain a) st) st b i ≡ st b i
      go false e = refl
      go true (inl e) =
          let p = inside_of (plain a) b i e in let w = d.good.within a (f a (Memᴰ.head refl)) in absurd (omega (arith, p.2, w.ends))
      go true (inr e) = ap (λ (v : Bool). cond v (undo (plain a) i) (st b i)) e

  pub whole_writ : Whole (writ d)
  whole_writ = record {
    is_block = d.passed.ready.is_block;
    size = length_handed_out h.table b s h.image h.undo d.good.image_whole d.passed.ready.is_block;
  }

  -- the block handed out is the working one with what is left behind taken back, newest first
  pub bytes : (i : ℕ) → view (written (writ d ∷ (h.in_flight ++ h.landed)) h.opening) b i
      ≡ take_back (is_left d) (old_byte ss h.undo) (map plain h.accepted) (view h.image) b i
  unfolding handed_out
  bytes i = go (dec_lt i block_bytes)
    where
      size : length (part h.image (block_start b) block_bytes) ≡ block_bytes
      size = length_part h.image (block_start b) block_bytes (omega (arith, d.good.image_whole, d.passed.ready.is_block))

      looks : Looks (part h.image (block_start b) block_bytes) (view h.image)
      looks i l = part_in h.image (block_start b) block_bytes i l ∙ sym (view_in h.image b i d.passed.ready.is_block l)

      go : Dec (i < block_bytes) → view (written (writ d ∷ (h.in_flight ++ h.landed)) h.opening) b i
          ≡ take_back (is_left d) (old_byte ss h.undo) (map plain h.accepted) (view h.image) b i
      go (yes l) =
          let w = whole_writ.size in
          let low = d.good.sound.next_least in
          view_written h.opening d.good.opening_whole b i (writ d) (h.in_flight ++ h.landed) whole_writ
          ∙ carry_inside b i (whole (writ d)) (view (written (h.in_flight ++ h.landed) h.opening))
          (covers_of (whole (writ d)) b i refl (omega arith) (omega arith))
          ∙ ap (λ (x : ℕ). get_or (handed_out h.table b s h.image h.undo) x 0) (sub-zero i)
          ∙ all_back (h.table.next - h.table.first) d.good.numbers (omega arith) (record { member = λ x m. m; order = λ y x e. e })
          (part h.image (block_start b) block_bytes) (view h.image) size looks i l
      go (no n) =
          view_past (written (writ d ∷ (h.in_flight ++ h.landed)) h.opening) b i (omega arith)
          ∙ sym (past_back h.accepted (λ x m. m) (is_left d) (old_byte ss h.undo) (view h.image) i (omega arith)
          ∙ view_past h.image b i (omega arith))
