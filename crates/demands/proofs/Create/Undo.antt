-- A granted create and the undo area: old bytes that are kept stay, and those kept for the new change are the image's from before it.
use Prim.Native.Nat.{ℕ, ◌+◌, ◌-◌, ◌≤◌, ◌<◌}
use native.Mathlib.Omega.{arith}
use native.Mathlib.Decide.{dec_lt}
use mathlib.Core.Path.{◌≡◌, refl, sym, ◌∙◌, ap, subst}
use mathlib.Core.Bool.{true}
use mathlib.Core.List.{List, map, Memᴰ}
use mathlib.Core.Option.{Option, none, some}
use mathlib.Core.Logic.{◌≢◌}
use lib.ListN.{length, get_or}
use Rattle.ground.proofs.Decided.{clash}
use Rattle.spans.specs.Spans.{splice}
use Rattle.spans.proofs.Laws.{splice_in, splice_below, splice_above, length_part, part_in}
use Rattle.rules.specs.declared.Hold.{Hold}
use Rattle.rules.specs.declared.Hold.TheVariants as hold
use Rattle.rules.specs.declared.State.TheVariants as state
use Rattle.rules.specs.declared.Slot.{Slot}
use Rattle.rules.specs.declared.Setting.{Setting}
use Rattle.rules.specs.Sizes.{block_start, slots, room_start}
use Rattle.rules.specs.Settings.{rooms}
use Rattle.rules.specs.Slots.{room_of}
use Rattle.rules.specs.Table.{slot_at, HasRoom}
use Rattle.rules.specs.Create as create
use Rattle.rules.specs.Create.{FreeRoom, HoldOf, patch, place, old_bytes, kept}
use Rattle.cut.specs.Changes.{Logged, covers}
use Rattle.demands.specs.History.{History}
use Rattle.demands.proofs.Log.{plain}
use Rattle.demands.proofs.Views.{view, view_in, inside_of}
use Rattle.demands.proofs.Lookup.{slot_of, carries_used, slot_carries}
use Rattle.demands.proofs.AtSlot.{roomed, roomed_at, room_at, roomed_of, room_for}
use Rattle.demands.proofs.Linked.{room_stays}
use Rattle.demands.proofs.Good.{room_byte, room-byte, rooms_alike, old_byte}
use Rattle.demands.proofs.Create.Slots.{Making, new, made, new_at, like, slot_old, slot_new, below_log}

-- the room taken was free
room_taken : (g : Setting) (ss : List Slot) (b : ℕ) (z : Hold) → HoldOf g ss b z → (r : ℕ) → z ≡ hold.Soft r → (r < rooms g) × FreeRoom ss r
room_taken g ss b z (HoldOf.hard w) r e = absurd (let y : ◌≡◌ {A = ℕ} 0 1 = cc in omega arith)
room_taken g ss b z (HoldOf.soft {r = q} w f) r e = let y : q ≡ r = cc in subst (λ (x : ℕ). (x < rooms g) × FreeRoom ss x) y (f.within, f.holds)

module _ {h : History} {c : create.Change} {j : ℕ} {k : Hold} (d : Making h c j k) where
  abbrev ss : List Slot
  ss = h.table.slots

  abbrev ss' : List Slot
  ss' = (made d).table.slots

  old_length : length (old_bytes h.image c) ≡ length c.bytes
  old_length = let v = d.passed.ready in length_part h.image (place c) (length c.bytes) (omega (arith, v.image_whole, v.is_block, v.ends))

  -- the bytes of a room that is not the one taken stay
  other_room : (q n : ℕ) → n < 64 → (k ≡ hold.Soft q → ⊥) → get_or (made d).undo (room_start q + n) 0 ≡ get_or h.undo (room_start q + n) 0
  unfolding kept
  other_room q n m other = go k refl
    where
      go : (z : Hold) → k ≡ z → get_or (kept h.undo h.image c z) (room_start q + n) 0 ≡ get_or h.undo (room_start q + n) 0
      go hold.Hard e = refl
      go (hold.Soft r) e = by (dec_lt q r)
        where
          apart : q ≢ r
          apart z = other (e ∙ ap hold.Soft (sym z))

          by : Dec (q < r) → get_or (splice h.undo (room_start r) (old_bytes h.image c)) (room_start q + n) 0 ≡ get_or h.undo (room_start q + n) 0
          by (yes p) = splice_below h.undo (room_start r) (old_bytes h.image c) (room_start q + n) (omega arith)
          by (no p) =
              splice_above h.undo (room_start r) (old_bytes h.image c) (room_start q + n) (omega (arith, old_length, d.passed.ready.len_most, apart))

  -- the old bytes go into the first bytes of the room taken
  in_room : (r n : ℕ) → r < rooms h.table.setting → n < length c.bytes
      → get_or (kept h.undo h.image c (hold.Soft r)) (room_start r + n) 0 ≡ get_or h.image (place c + n) 0
  unfolding kept
  in_room r n l m =
      let v = d.passed.ready in
      let longest = old_length in
      let at_n : room_start r + n - room_start r ≡ n = omega arith in
      splice_in h.undo (room_start r) (old_bytes h.image c) (room_start r + n) (omega arith) (omega arith) (omega (arith, v.len_most, v.undo_whole))
      ∙ ap (λ (x : ℕ). get_or (old_bytes h.image c) x 0) at_n
      ∙ part_in h.image (place c) (length c.bytes) n m

  pub new-undo : roomed_of ss' h.table.next ≡ true → (b i : ℕ) → covers (plain (new d)) b i ≡ true
      → old_byte ss' (made d).undo (plain (new d)) i ≡ view h.image b i
  unfolding patch
  new-undo s b i e = go k refl d.held
    where
      q : (b ≡ c.block) × (c.offset ≤ i) × (i < c.offset + length c.bytes)
      q = inside_of (plain (new d)) b i e

      soft_new : roomed (state.Waiting k) ≡ true
      soft_new = sym (ap (λ (x : Slot). roomed x.state) (new_at d)) ∙ sym (ap (roomed_at ss') (slot_new d)) ∙ s

      at_room : room_for ss' h.table.next ≡ room_of (state.Waiting k)
      at_room = ap (room_at ss') (slot_new d) ∙ ap (λ (x : Slot). room_of x.state) (new_at d)

      go : (z : Hold) → k ≡ z → HoldOf h.table.setting ss c.block z → old_byte ss' (made d).undo (plain (new d)) i ≡ view h.image b i
      go hold.Hard y w = absurd (clash soft_new (ap (λ (x : Hold). roomed (state.Waiting x)) y))
      go (hold.Soft r) y w =
          let v = d.passed.ready in
          let room : room_for ss' h.table.next ≡ r = at_room ∙ ap (λ (x : Hold). room_of (state.Waiting x)) y in
          let free = room_taken h.table.setting ss c.block (hold.Soft r) w r refl in
          let spot : place c + (i - c.offset) ≡ block_start b + i = omega (arith, q.0, q.1) in
          ap (λ (x : ℕ). room_byte (made d).undo x (i - c.offset)) room
          ∙ room-byte (made d).undo r (i - c.offset) (omega (arith, q.1, q.2, v.len_most))
          ∙ ap (λ (x : Hold). get_or (kept h.undo h.image c x) (room_start r + (i - c.offset)) 0) y
          ∙ in_room r (i - c.offset) free.0 (omega (arith, q.1, q.2))
          ∙ ap (λ (x : ℕ). get_or h.image x 0) spot
          ∙ sym (view_in h.image b i (omega (arith, q.0, v.is_block)) (omega (arith, q.2, v.ends)))

  -- the room of an older change is not the one taken, and its bytes stay
  old_room : (i : ℕ) → i < slots → roomed (slot_at ss i).state ≡ true → (n : ℕ)
      → room_byte (made d).undo (room_of (slot_at ss i).state) n ≡ room_byte h.undo (room_of (slot_at ss i).state) n
  old_room i l soft =
      let room : ℕ = room_of (slot_at ss i).state in
      let has_room : HasRoom ss i room = soft in
      let not_taken : k ≡ hold.Soft room → ⊥ = λ z. (room_taken h.table.setting ss c.block k d.held room z).1 i l has_room in
      rooms_alike (made d).undo h.undo room (λ n o. other_room room n o not_taken)

  pub old-undo : (x : Logged) → Memᴰ x (map plain h.accepted) → roomed_of ss' x.number ≡ true
      → (roomed_of ss x.number ≡ true) × ((i : ℕ) → old_byte ss' (made d).undo x i ≡ old_byte ss h.undo x i)
  old-undo x m s =
      (room.0, λ n. ap (λ (q : ℕ). room_byte (made d).undo q (n - x.offset)) room.1 ∙ bytes (slot_of ss x.number) refl room.0 (n - x.offset))
    where
      room : (roomed_of ss x.number ≡ true) × (room_for ss' x.number ≡ room_for ss x.number)
      room =
          room_stays ss ss' x.number (slot_old d x.number (below_log d x m))
          (λ i q. let f = slot_carries ss x.number i q in like d i f.0 (carries_used ss x.number i f.1)) s

      bytes : (p : Option ℕ) → slot_of ss x.number ≡ p → roomed_at ss (slot_of ss x.number) ≡ true → (n : ℕ)
          → room_byte (made d).undo (room_for ss x.number) n ≡ room_byte h.undo (room_for ss x.number) n
      bytes none e u n = absurd (clash u (ap (roomed_at ss) e))
      bytes (some i) e u n =
          ap (λ (p : Option ℕ). room_byte (made d).undo (room_at ss p) n) e
          ∙ old_room i (slot_carries ss x.number i e).0 (sym (ap (roomed_at ss) e) ∙ u) n
          ∙ sym (ap (λ (p : Option ℕ). room_byte h.undo (room_at ss p) n) e)
