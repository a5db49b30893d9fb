-- Document 01, "Refusal numbers and their order", with document 02, request a for 8 and 9 and request b for 7: a call tests in rising number, among
-- those listed for it, and answers the first that holds.
use Rattle.std.specs.Prelude.{ℕ, ◌+◌, ◌<◌, ◌≤◌, ◌≡◌, true, List, [], ◌∷◌, ◌⊎◌, length}
use Rattle.rules.specs.declared.refusals.Refusal.{Refusal}
use Rattle.rules.specs.declared.refusals.Refusal.TheVariants as refusal
use Rattle.rules.specs.declared.Slot.{Slot}
use Rattle.rules.specs.Sizes.{blocks, block_bytes, image_bytes, slots, most_bytes, most_named, last_number}
use Rattle.rules.specs.Settings.{rooms, undo_bytes}
use Rattle.rules.specs.Table.{Table, Waits, Flies, Sound, Issued}
use Rattle.rules.specs.Create.{Change, is_in, WouldBeHard, Joins, FreeSlot, FreeRoom}
use Rattle.rules.specs.Write.{MayGo}

-- the number of each refusal
abbrev pub number_of : Refusal → ℕ
number_of refusal.BufferSize = 1
number_of refusal.NotSound = 2
number_of refusal.NoBlock = 3
number_of refusal.DataLength = 4
number_of refusal.PastTheEnd = 5
number_of refusal.ManyNames = 6
number_of refusal.NeverIssued = 7
number_of refusal.NoNumber = 8
number_of refusal.NoSlot = 9
number_of refusal.NoRoom = 10
number_of refusal.InFlight = 11
number_of refusal.NoneWaits = 12
number_of refusal.NoneMayGo = 13
number_of refusal.NoneInFlight = 14
number_of refusal.FirstNumber = 15
number_of refusal.NoRecord = 16

-- a refusal number and what it holds for
pub record Case : Type 1 where
  pub number : ℕ
  pub condition : Type 0

abbrev pub case : ℕ → Type 0 → Case
case n C = record { number = n; condition = C }

-- k is the number of the first case that holds, or 0, granted, where none does
unfoldable pub FirstOf : List Case → ℕ → Type 0
FirstOf [] k = k ≡ 0
FirstOf (c ∷ rest) k = (c.condition × (k ≡ c.number)) ⊎ ((c.condition → ⊥) × FirstOf rest k)

pub record First (cases : List Case) (k : ℕ) : Type 0 where
  pub is : FirstOf cases k

-- 1: a lent buffer has not its exact size
abbrev pub WrongSize : ℕ → List ℕ → Type 0
WrongSize n buffer = length buffer ≡ n → ⊥

-- 2: the table is not sound
abbrev pub Unsound : Table → Type 0
Unsound t = Sound t → ⊥

-- 3: the block is above 63
abbrev pub NoBlock : ℕ → Type 0
NoBlock b = blocks ≤ b

-- 4: the data length is 0 or above 64
abbrev pub WrongLength : Change → Type 0
WrongLength c = (length c.bytes ≡ 0) ⊎ (most_bytes < length c.bytes)

-- 5: offset + length is above 256
abbrev pub PastEnd : Change → Type 0
PastEnd c = block_bytes < c.offset + length c.bytes

-- 6: more than 8 named numbers
abbrev pub ManyNamed : Change → Type 0
ManyNamed c = most_named < length c.named

-- 7: a named or asked number was never issued: it is 0, or not below next
abbrev pub NeverIssued : Table → ℕ → Type 0
NeverIssued t n = Issued t.next n → ⊥

abbrev pub NamesUnissued : Table → Change → Type 0
NamesUnissued t c = (n : ℕ) × (is_in n c.named ≡ true) × NeverIssued t n

-- 8 and 9 are not given to a creation that joins
abbrev pub TakesSlot : Table → Change → Type 0
TakesSlot t c = Joins t.setting t.slots c.block → ⊥

-- 8: next is 1,000,000,001
abbrev pub NoNumber : Table → Change → Type 0
NoNumber t c = TakesSlot t c × (t.next ≡ last_number + 1)

-- 9: no free slot
abbrev pub NoSlot : Table → Change → Type 0
NoSlot t c = TakesSlot t c × ((i : ℕ) → i < slots → FreeSlot t.slots i → ⊥)

-- 10: the patch would be soft and all 16 rooms are taken (as many as the setting has)
abbrev pub NoRoom : Table → Change → Type 0
NoRoom t c = (WouldBeHard t.setting t.slots c.block → ⊥) × ((r : ℕ) → r < rooms t.setting → FreeRoom t.slots r → ⊥)

-- 11: a patch of the block is in flight (Flies); 14: none is. 12: no patch of the block waits (Waits)

-- 13: some wait, and only the empty subset may go
abbrev pub OnlyEmpty : List Slot → ℕ → Type 0
OnlyEmpty ss b = Waits ss b × ((s : ℕ) → MayGo ss b s → s ≡ 0)

-- 15: the first number is 0 or above 1,000,000,000
abbrev pub NoFirst : ℕ → Type 0
NoFirst n = (n ≡ 0) ⊎ (last_number < n)

-- the numbers listed for each call
abbrev pub open_cases : ℕ → List Case
open_cases n = case 15 (NoFirst n) ∷ []

abbrev pub create_cases : Table → List ℕ → List ℕ → Change → List Case
create_cases t image undo c =
    case 1 (WrongSize image_bytes image ⊎ WrongSize (undo_bytes t.setting) undo)
    ∷ case 2 (Unsound t)
    ∷ case 3 (NoBlock c.block)
    ∷ case 4 (WrongLength c)
    ∷ case 5 (PastEnd c)
    ∷ case 6 (ManyNamed c)
    ∷ case 7 (NamesUnissued t c)
    ∷ case 8 (NoNumber t c)
    ∷ case 9 (NoSlot t c)
    ∷ case 10 (NoRoom t c)
    ∷ []

abbrev pub write_cases : Table → List ℕ → List ℕ → List ℕ → ℕ → List Case
write_cases t image undo block b =
    case 1 (WrongSize image_bytes image ⊎ (WrongSize (undo_bytes t.setting) undo ⊎ WrongSize block_bytes block))
    ∷ case 2 (Unsound t)
    ∷ case 3 (NoBlock b)
    ∷ case 11 (Flies t.slots b)
    ∷ case 12 (Waits t.slots b → ⊥)
    ∷ case 13 (OnlyEmpty t.slots b)
    ∷ []

abbrev pub complete_cases : Table → ℕ → List Case
complete_cases t b = case 2 (Unsound t) ∷ case 3 (NoBlock b) ∷ case 14 (Flies t.slots b → ⊥) ∷ []

abbrev pub ask_cases : Table → ℕ → List Case
ask_cases t n = case 2 (Unsound t) ∷ case 7 (NeverIssued t n) ∷ []

abbrev pub count_cases : Table → ℕ → List Case
count_cases t b = case 2 (Unsound t) ∷ case 3 (NoBlock b) ∷ []
