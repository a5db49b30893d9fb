-- Document 01, "The table", with document 02, request b: what a table holds, when it is sound, which numbers have committed.
use Rattle.std.specs.Prelude.{ℕ, zero, suc, ◌+◌, ◌≤◌, ◌<◌, ◌≡◌, Bool, true, ◌&&◌, List, [], ◌∷◌, eqb, get_or}
use Rattle.masks.specs.Sets.{has}
use Rattle.rules.specs.declared.Setting.{Setting}
use Rattle.rules.specs.declared.Slot.{Slot}
use Rattle.rules.specs.Sizes.{blocks, block_bytes, slots, most_bytes, last_number}
use Rattle.rules.specs.Settings.{rooms}
use Rattle.rules.specs.Slots.{is_used, is_waiting, is_in_flight, is_hard, is_hard_patch, has_room, free_slot}

-- a table holds its first number, its next number and 64 slots; and the setting that it was opened with
pub record Table : Type 0 where
  pub setting : Setting
  pub first : ℕ
  pub next : ℕ
  pub slots : List Slot

abbrev pub table_of : Setting → ℕ → ℕ → List Slot → Table
table_of g first next ss = record { setting = g; first = first; next = next; slots = ss }

-- slot i of the slots of a table
abbrev pub slot_at : List Slot → ℕ → Slot
slot_at ss i = get_or ss i free_slot

-- f i, f (i + 1), .., n of them
unfoldable pub list_from : {A : Type 0} → (ℕ → A) → ℕ → ℕ → List A
list_from f i zero = []
list_from f i (suc n) = f i ∷ list_from f (suc i) n

-- the 64 slots f 0 to f 63
abbrev pub slots_by : (ℕ → Slot) → List Slot
slots_by f = list_from f 0 slots

-- the table with other slots, and with another next number
abbrev pub with_slots : List Slot → Table → Table
with_slots ss t = record { setting = t.setting; first = t.first; next = t.next; slots = ss }

abbrev pub with_next : ℕ → Table → Table
with_next n t = record { setting = t.setting; first = t.first; next = n; slots = t.slots }

-- slot i is used
abbrev pub used : List Slot → ℕ → Bool
used ss i = is_used (slot_at ss i).state

-- slot i holds a waiting patch of block b; one in flight; a waiting patch that is hard
abbrev pub waits_on : List Slot → ℕ → ℕ → Bool
waits_on ss b i = is_waiting (slot_at ss i).state && eqb (slot_at ss i).block b

abbrev pub flies_on : List Slot → ℕ → ℕ → Bool
flies_on ss b i = is_in_flight (slot_at ss i).state && eqb (slot_at ss i).block b

abbrev pub hard_on : List Slot → ℕ → ℕ → Bool
hard_on ss b i = is_hard (slot_at ss i).state && eqb (slot_at ss i).block b

-- slot i holds a hard patch of block b, waiting or in flight
abbrev pub hard_patch_on : List Slot → ℕ → ℕ → Bool
hard_patch_on ss b i = is_hard_patch (slot_at ss i).state && eqb (slot_at ss i).block b

-- some patch of block b waits; some patch of it is in flight
abbrev pub Waits : List Slot → ℕ → Type 0
Waits ss b = (i : ℕ) × (i < slots) × (waits_on ss b i ≡ true)

abbrev pub Flies : List Slot → ℕ → Type 0
Flies ss b = (i : ℕ) × (i < slots) × (flies_on ss b i ≡ true)

-- slot i holds a patch that has the undo room r
abbrev pub HasRoom : List Slot → ℕ → ℕ → Type 0
HasRoom ss i r = has_room (slot_at ss i).state r ≡ true

-- the table is sound; nothing more is tested, and of a free slot nothing at all
pub record Sound (t : Table) : Type 0 where
  -- first is 1 to 1,000,000,000; next is from first to 1,000,000,001
  pub first_least : 1 ≤ t.first
  pub first_most : t.first ≤ last_number
  pub next_least : t.first ≤ t.next
  pub next_most : t.next ≤ last_number + 1
  -- numbers in use are at least first, below next and all different
  pub number_least : (i : ℕ) → i < slots → used t.slots i ≡ true → t.first ≤ (slot_at t.slots i).number
  pub number_most : (i : ℕ) → i < slots → used t.slots i ≡ true → (slot_at t.slots i).number < t.next
  pub numbers_differ : (i j : ℕ) → i < slots → j < slots → used t.slots i ≡ true → used t.slots j ≡ true
      → (slot_at t.slots i).number ≡ (slot_at t.slots j).number → i ≡ j
  -- blocks are at most 63
  pub block_most : (i : ℕ) → i < slots → used t.slots i ≡ true → (slot_at t.slots i).block < blocks
  -- lengths are 1 to 64 and offset + length is at most 256
  pub len_least : (i : ℕ) → i < slots → used t.slots i ≡ true → 1 ≤ (slot_at t.slots i).len
  pub len_most : (i : ℕ) → i < slots → used t.slots i ≡ true → (slot_at t.slots i).len ≤ most_bytes
  pub ends : (i : ℕ) → i < slots → used t.slots i ≡ true → (slot_at t.slots i).offset + (slot_at t.slots i).len ≤ block_bytes
  -- befores are used slots other than the patch's own
  pub befores_used : (i j : ℕ) → i < slots → j < slots → used t.slots i ≡ true → has (slot_at t.slots i).befores j ≡ true → used t.slots j ≡ true
  pub befores_other : (i : ℕ) → i < slots → used t.slots i ≡ true → has (slot_at t.slots i).befores i ≡ true → ⊥
  -- rooms are 0 to 15 (as many as the setting has) and no two patches share one
  pub room_most : (i r : ℕ) → i < slots → HasRoom t.slots i r → r < rooms t.setting
  pub rooms_differ : (i j r : ℕ) → i < slots → j < slots → HasRoom t.slots i r → HasRoom t.slots j r → i ≡ j

-- the numbers from 1 up to next - 1 have been issued, and no other
abbrev pub Issued : (next : ℕ) → ℕ → Type 0
Issued next n = (1 ≤ n) × (n < next)

-- those below first before this opening: the old numbers (document 02, request b)
abbrev pub Old : (first : ℕ) → ℕ → Type 0
Old first n = (1 ≤ n) × (n < first)

-- the patch with number n is in slot i
abbrev pub InSlot : Table → ℕ → ℕ → Type 0
InSlot t n i = (i < slots) × (used t.slots i ≡ true) × ((slot_at t.slots i).number ≡ n)

-- an issued number that is in no slot has committed; an old one is in none, as numbers in use are at least first
abbrev pub Committed : Table → ℕ → Type 0
Committed t n = Issued t.next n × ((i : ℕ) → InSlot t n i → ⊥)
