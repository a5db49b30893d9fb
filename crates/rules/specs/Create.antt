-- Document 01, "Create", with document 02, request a: small changes share an entry.
use Rattle.std.specs.Prelude.{ℕ, ◌+◌, ◌≤◌, ◌<◌, min, max, ◌≡◌, Bool, true, false, cond, ◌&&◌, ◌||◌, not, List, [], ◌∷◌, eqb, ltb, length}
use Rattle.masks.specs.Sets.{has, set_of}
use Rattle.masks.specs.Lowest.{Lowest}
use Rattle.spans.specs.Spans.{splice, part}
use Rattle.rules.specs.declared.Hold.{Hold}
use Rattle.rules.specs.declared.Hold.TheVariants as hold
use Rattle.rules.specs.declared.State.{State}
use Rattle.rules.specs.declared.State.TheVariants as state
use Rattle.rules.specs.declared.Slot.{Slot}
use Rattle.rules.specs.declared.Setting.{Setting}
use Rattle.rules.specs.declared.Change as lent
use Rattle.rules.specs.Sizes.{slots, block_start, room_start}
use Rattle.rules.specs.Settings.{rooms, joins, all_soft}
use Rattle.rules.specs.Slots.{with_state, with_befores}
use Rattle.rules.specs.Table.{Table, slot_at, used, waits_on, hard_patch_on, Waits, HasRoom, slots_by, with_slots, with_next}

-- create takes block, offset, data and named numbers
pub record Change : Type 0 where
  pub block : ℕ
  pub offset : ℕ
  pub bytes : List ℕ
  pub named : List ℕ

abbrev pub change_of : ℕ → ℕ → List ℕ → List ℕ → Change
change_of block offset bytes named = record { block = block; offset = offset; bytes = bytes; named = named }

-- a change as the code lends it
abbrev pub change_in : lent.Change → Change
change_in c = change_of c.block c.offset c.bytes.now c.named.now

-- slot i is free
abbrev pub FreeSlot : List Slot → ℕ → Type 0
FreeSlot ss i = used ss i ≡ false

-- n is one of the numbers; one named twice counts once
unfoldable pub is_in : ℕ → List ℕ → Bool
is_in n [] = false
is_in n (m ∷ l) = eqb n m || is_in n l

-- the range of l bytes from o and that of m bytes from p share a byte: the later start is before the earlier end
abbrev pub shares : ℕ → ℕ → ℕ → ℕ → Bool
shares o l p m = ltb (max o p) (min (o + l) (p + m))

-- slot i has a number that is named; a committed number is in no slot
abbrev pub is_named : List Slot → Change → ℕ → Bool
is_named ss c i = used ss i && is_in (slot_at ss i).number c.named

-- slot i has a waiting or in-flight patch of the same block whose byte range shares a byte with the new one
abbrev pub overlaps : List Slot → Change → ℕ → Bool
overlaps ss c i = used ss i && (eqb (slot_at ss i).block c.block && shares (slot_at ss i).offset (slot_at ss i).len c.offset (length c.bytes))

-- the befores of the new patch: these two, and every hard patch of its block, waiting or in flight, overlapping or not
abbrev pub is_before : List Slot → Change → ℕ → Bool
is_before ss c i = is_named ss c i || (overlaps ss c i || hard_patch_on ss c.block i)

unfoldable pub befores : List Slot → Change → ℕ
befores ss c = set_of (is_before ss c)

-- patch k, on another block, has patch i, waiting on block b, among its befores
abbrev pub holds_back : List Slot → ℕ → ℕ → ℕ → Bool
holds_back ss b k i = (used ss k && not (eqb (slot_at ss k).block b)) && (has (slot_at ss k).befores i && waits_on ss b i)

-- the new patch is hard: no patch on another block has a waiting patch of this block among its befores; where every patch is soft, none is hard
pub record WouldBeHard (g : Setting) (ss : List Slot) (b : ℕ) : Type 0 where
  pub not_all_soft : all_soft g ≡ false
  pub nobody_holds : (k i : ℕ) → k < slots → i < slots → holds_back ss b k i ≡ false

-- room r is free
abbrev pub FreeRoom : List Slot → ℕ → Type 0
FreeRoom ss r = (i : ℕ) → i < slots → HasRoom ss i r → ⊥

-- whether the new patch is hard or soft: a soft creation takes the lowest free room
pub data HoldOf (g : Setting) (ss : List Slot) (b : ℕ) : Hold → Type 0 where
  hard : WouldBeHard g ss b → HoldOf g ss b hold.Hard
  soft : {r : ℕ} → (WouldBeHard g ss b → ⊥) → Lowest (rooms g) (FreeRoom ss) r → HoldOf g ss b (hold.Soft r)

-- a hard creation turns every waiting soft patch of the block hard and frees their rooms; a soft one leaves all as it is
abbrev pub turned_state : State → State
turned_state state.Free = state.Free
turned_state (state.Waiting h) = state.Waiting hold.Hard
turned_state (state.InFlight k) = state.InFlight k

-- a slot that is turned, or is not
abbrev pub turned_slot : Bool → Slot → Slot
turned_slot turns s = cond turns (with_state (turned_state s.state) s) s

abbrev pub turned : Hold → ℕ → Slot → Slot
turned hold.Hard b s = turned_slot (eqb s.block b) s
turned (hold.Soft r) b s = s

-- the new patch: the number next, its block and range, waiting, with its befores
unfoldable pub patch : Table → Change → Hold → Slot
patch t c h = record {
  state = state.Waiting h;
  number = t.next;
  block = c.block;
  offset = c.offset;
  len = length c.bytes;
  befores = befores t.slots c;
}

-- a slot when the new patch p is accepted: p where it is `here`, and otherwise as the creation turns it
abbrev pub accepted_slot : Slot → Hold → Bool → Slot → Slot
accepted_slot p h here s = cond here p (turned h p.block s)

-- the next slots: the new patch p in slot j
unfoldable pub accepted_slots : List Slot → Slot → ℕ → Hold → List Slot
accepted_slots ss p j h = slots_by (λ i. accepted_slot p h (eqb i j) (slot_at ss i))

-- the next table; next grows by one
unfoldable pub accepted : Table → Change → ℕ → Hold → Table
accepted t c j h = with_next (t.next + 1) (with_slots (accepted_slots t.slots (patch t c h) j h) t)

-- where the change's range starts in the working image
abbrev pub place : Change → ℕ
place c = block_start c.block + c.offset

-- the data goes into the working image
unfoldable pub changed : List ℕ → Change → List ℕ
changed image c = splice image (place c) c.bytes

-- the old bytes of the range, in the working image
abbrev pub old_bytes : List ℕ → Change → List ℕ
old_bytes image c = part image (place c) (length c.bytes)

-- a soft creation puts the old bytes into the first bytes of its room; a hard one changes no byte of the undo area
unfoldable pub kept : List ℕ → List ℕ → Change → Hold → List ℕ
kept undo image c hold.Hard = undo
kept undo image c (hold.Soft r) = splice undo (room_start r) (old_bytes image c)

-- ---- joining (document 02, request a)

-- a creation on block b joins a patch: it would be hard, and a patch of the block waits
pub record Joins (g : Setting) (ss : List Slot) (b : ℕ) : Type 0 where
  pub joining : joins g ≡ true
  pub would_be_hard : WouldBeHard g ss b
  pub some_wait : Waits ss b

-- slot j has the lowest-numbered waiting patch of block b
pub record LowestNumbered (ss : List Slot) (b j : ℕ) : Type 0 where
  pub is_slot : j < slots
  pub waits : waits_on ss b j ≡ true
  pub lowest : (i : ℕ) → i < slots → waits_on ss b i ≡ true → (slot_at ss j).number ≤ (slot_at ss i).number

-- what a change that joins adds to the befores of the patch: the slots of the named numbers that have not committed and are on other blocks
abbrev pub named_elsewhere : List Slot → Change → ℕ → Bool
named_elsewhere ss c i = is_named ss c i && not (eqb (slot_at ss i).block c.block)

unfoldable pub added : List Slot → Change → ℕ
added ss c = set_of (named_elsewhere ss c)

-- a slot with the slots of the set m among its befores besides
abbrev pub with_more : ℕ → Slot → Slot
with_more m s = with_befores (set_of (λ k. has s.befores k || has m k)) s

-- a slot when a change joins a patch of block b: turned as by every hard creation, and where it is the patch's own, `here`, with the set m among its
-- befores besides; number, block and range stay
abbrev pub joined_slot : ℕ → ℕ → Bool → Slot → Slot
joined_slot m b here s = cond here (with_more m (turned hold.Hard b s)) (turned hold.Hard b s)

-- the next slots: the change joins the patch of slot j
unfoldable pub joined_slots : List Slot → Change → ℕ → List Slot
joined_slots ss c j = slots_by (λ i. joined_slot (added ss c) c.block (eqb i j) (slot_at ss i))

-- the next table; no number is used, and next stays
unfoldable pub joined : Table → Change → ℕ → Table
joined t c j = with_slots (joined_slots t.slots c j) t
