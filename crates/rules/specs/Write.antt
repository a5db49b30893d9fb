-- Document 01, "Write".
use Rattle.std.specs.Prelude.{ℕ, zero, suc, ◌+◌, ◌-◌, ◌<◌, ◌^◌, ◌≡◌, Bool, true, cond, ◌&&◌, not, List, eqb}
use Rattle.masks.specs.Sets.{has, Sub}
use Rattle.spans.specs.Spans.{splice, part}
use Rattle.rules.specs.declared.State.{State}
use Rattle.rules.specs.declared.State.TheVariants as state
use Rattle.rules.specs.declared.Slot.{Slot}
use Rattle.rules.specs.Sizes.{slots, block_bytes, block_start, room_start}
use Rattle.rules.specs.Slots.{kind_of, room_of, with_state}
use Rattle.rules.specs.Table.{Table, slot_at, waits_on, hard_on, slots_by, with_slots}

-- the set s of waiting patches of block b may go
pub record MayGo (ss : List Slot) (b s : ℕ) : Type 0 where
  -- it is a set of slots, each with a waiting patch of the block
  pub set : s < 2 ^ slots
  pub within : (i : ℕ) → has s i ≡ true → waits_on ss b i ≡ true
  -- each before of each member is in it
  pub closed : (i k : ℕ) → has s i ≡ true → k < slots → has (slot_at ss i).befores k ≡ true → has s k ≡ true
  -- if it is not empty, all hard patches of the block are in it
  pub hards : (i : ℕ) → has s i ≡ true → (h : ℕ) → h < slots → hard_on ss b h ≡ true → has s h ≡ true

-- the largest set that may go: every set that may go is in it
pub record Largest (ss : List Slot) (b s : ℕ) : Type 0 where
  pub goes : MayGo ss b s
  pub most : (u : ℕ) → MayGo ss b u → Sub u s

-- slot i has a waiting patch of block b that is left behind when s goes
abbrev pub left_behind : List Slot → ℕ → ℕ → ℕ → Bool
left_behind ss b s i = waits_on ss b i && not (has s i)

-- the patch of slot i taken back from its room
unfoldable pub taken_back : List Slot → List ℕ → ℕ → List ℕ → List ℕ
taken_back ss undo i block = splice block (slot_at ss i).offset (part undo (room_start (room_of (slot_at ss i).state)) (slot_at ss i).len)

-- of the slots below i, that with number n taken back if it is left behind; numbers in use are all different
unfoldable pub back_number : List Slot → (ℕ → Bool) → List ℕ → ℕ → ℕ → List ℕ → List ℕ
back_number ss left undo n zero block = block
back_number ss left undo n (suc i) block =
    let below = back_number ss left undo n i block in
    cond (left i && eqb (slot_at ss i).number n) (taken_back ss undo i below) below

-- the patches left behind with numbers first + n - 1 down to first taken back: highest number first
unfoldable pub back_down : List Slot → (ℕ → Bool) → List ℕ → ℕ → ℕ → List ℕ → List ℕ
back_down ss left undo first zero block = block
back_down ss left undo first (suc n) block = back_down ss left undo first n (back_number ss left undo (first + n) slots block)

-- the block handed out: the working block with each waiting patch left behind taken back
unfoldable pub handed_out : Table → ℕ → ℕ → List ℕ → List ℕ → List ℕ
handed_out t b s image undo = back_down t.slots (left_behind t.slots b s) undo t.first (t.next - t.first) (part image (block_start b) block_bytes)

-- a patch sent becomes in flight, hard or soft as it was; its room is free from then on
abbrev pub sent_state : State → State
sent_state state.Free = state.Free
sent_state (state.Waiting h) = state.InFlight (kind_of h)
sent_state (state.InFlight k) = state.InFlight k

-- a slot whose patch `goes`, or does not
abbrev pub sent_slot : Bool → Slot → Slot
sent_slot goes s = cond goes (with_state (sent_state s.state) s) s

-- the next slots: the patches of s in flight
unfoldable pub sent_slots : List Slot → ℕ → List Slot
sent_slots ss s = slots_by (λ i. sent_slot (has s i) (slot_at ss i))

-- the next table
unfoldable pub sent : Table → ℕ → Table
sent t s = with_slots (sent_slots t.slots s) t
