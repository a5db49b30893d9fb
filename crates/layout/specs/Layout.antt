-- The table as 2,056 bytes that the caller keeps, and what they mean, always under the setting of the board. Every number is little-endian; board.h
-- has the same places.
use Rattle.std.specs.Prelude.{ℕ, zero, suc, ◌+◌, ◌*◌, ◌/◌, ◌%◌, ◌^◌, ◌≤◌, ◌<◌, ◌≡◌, cond, List, [], ◌∷◌, ◌++◌, eqb, length, get_or}
use Rattle.rules.specs.declared.Setting.TheVariants.{Board}
use Rattle.rules.specs.declared.Hold.TheVariants as hold
use Rattle.rules.specs.declared.Kind.TheVariants as kind
use Rattle.rules.specs.declared.State.{State}
use Rattle.rules.specs.declared.State.TheVariants as state
use Rattle.rules.specs.declared.Slot.{Slot}
use Rattle.rules.specs.Sizes.{slots}
use Rattle.rules.specs.Slots.{room_of}
use Rattle.rules.specs.Table.{Table, table_of, slot_at, slots_by}
use Rattle.rules.specs.Open.{opened}

-- first (4 bytes), next (4), then 64 slots of 32 bytes
abbrev pub table_bytes : ℕ
table_bytes = 2056

abbrev pub slot_start : ℕ → ℕ
slot_start i = 8 + 32 * i

-- READING. The number in the n bytes from place `at`, the lowest first
unfoldable pub number_at : List ℕ → ℕ → ℕ → ℕ
number_at bytes at zero = 0
number_at bytes at (suc n) = number_at bytes at n + get_or bytes (at + n) 0 * 256 ^ n

-- the state tag: 0 free, 1 waiting hard, 2 waiting soft, 3 in flight hard, 4 in flight soft. The room is read only for tag 2
abbrev pub state_of : ℕ → ℕ → State
state_of tag room =
    cond (eqb tag 0) state.Free
    (cond (eqb tag 1) (state.Waiting hold.Hard)
    (cond (eqb tag 2) (state.Waiting (hold.Soft room))
    (cond (eqb tag 3) (state.InFlight kind.Hard) (state.InFlight kind.Soft))))

-- a slot in the 32 bytes from place `at`: tag, room, number, block, offset and length, 4 bytes each, and the befores, 8 bytes, bit i for slot i
unfoldable pub slot_in : List ℕ → ℕ → Slot
slot_in bytes at = record {
  state = state_of (number_at bytes at 4) (number_at bytes (at + 4) 4);
  number = number_at bytes (at + 8) 4;
  block = number_at bytes (at + 12) 4;
  offset = number_at bytes (at + 16) 4;
  len = number_at bytes (at + 20) 4;
  befores = number_at bytes (at + 24) 8;
}

unfoldable pub table_in : List ℕ → Table
table_in bytes = table_of Board (number_at bytes 0 4) (number_at bytes 4 4) (slots_by (λ i. slot_in bytes (slot_start i)))

-- bytes that are a table: of this length, and no tag above 4
pub record IsTable (bytes : List ℕ) : Type 0 where
  pub size : length bytes ≡ table_bytes
  pub tags : (i : ℕ) → i < slots → number_at bytes (slot_start i) 4 ≤ 4

-- WRITING. The n bytes of the number x, the lowest first
unfoldable pub in_bytes : ℕ → ℕ → List ℕ
in_bytes zero x = []
in_bytes (suc n) x = x % 256 ∷ in_bytes n (x / 256)

abbrev pub tag_of : State → ℕ
tag_of state.Free = 0
tag_of (state.Waiting hold.Hard) = 1
tag_of (state.Waiting (hold.Soft r)) = 2
tag_of (state.InFlight kind.Hard) = 3
tag_of (state.InFlight kind.Soft) = 4

-- the 32 bytes of a slot; the room is written 0 where the state has none
unfoldable pub slot_bytes : Slot → List ℕ
slot_bytes s =
    in_bytes 4 (tag_of s.state)
    ++ in_bytes 4 (room_of s.state)
    ++ in_bytes 4 s.number
    ++ in_bytes 4 s.block
    ++ in_bytes 4 s.offset
    ++ in_bytes 4 s.len
    ++ in_bytes 8 s.befores

unfoldable pub slots_bytes : List Slot → List ℕ
slots_bytes [] = []
slots_bytes (s ∷ ss) = slot_bytes s ++ slots_bytes ss

unfoldable pub bytes_of : Table → List ℕ
bytes_of t = in_bytes 4 t.first ++ in_bytes 4 t.next ++ slots_bytes t.slots

-- WHATEVER THE LENGTH. What is read of bytes of another length is an empty table, and over those nothing is written. No call meets them
unfoldable pub table_read : List ℕ → Table
table_read bytes = cond (eqb (length bytes) table_bytes) (table_in bytes) (opened Board 1)

unfoldable pub table_stored : List ℕ → Table → List ℕ
table_stored bytes t = cond (eqb (length bytes) table_bytes) (bytes_of t) bytes

-- FITTING. Every field of the slot is below what its bytes hold
pub record SlotFits (s : Slot) : Type 0 where
  pub room : room_of s.state < 2 ^ 32
  pub number : s.number < 2 ^ 32
  pub block : s.block < 2 ^ 32
  pub offset : s.offset < 2 ^ 32
  pub len : s.len < 2 ^ 32
  pub befores : s.befores < 2 ^ 64

-- of every slot; and the setting, which has no bytes, is the board's
pub record TableFits (t : Table) : Type 0 where
  pub setting : t.setting ≡ Board
  pub first : t.first < 2 ^ 32
  pub next : t.next < 2 ^ 32
  pub size : length t.slots ≡ slots
  pub each : (i : ℕ) → i < slots → SlotFits (slot_at t.slots i)
