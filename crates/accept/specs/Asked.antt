-- Between crates, need not be believed: the questions of a creation that are not already a definition of `rules`.
use Rattle.std.specs.Prelude.{ℕ, ◌<◌, ◌≡◌, true, List, Option, Some, None}
use Rattle.masks.specs.Lowest.{Lowest, Outside}
use Rattle.rules.specs.declared.Hold.{Hold}
use Rattle.rules.specs.declared.Hold.TheVariants as hold
use Rattle.rules.specs.declared.Setting.{Setting}
use Rattle.rules.specs.declared.Slot.{Slot}
use Rattle.rules.specs.Settings.{rooms}
use Rattle.rules.specs.Table.{slot_at, waits_on}
use Rattle.rules.specs.Create.{WouldBeHard, FreeRoom, HoldOf, Joins, LowestNumbered}
use Rattle.accept.specs.declared.types.Entry.{Entry}
use Rattle.accept.specs.declared.types.Entry.TheVariants as entry

-- slot j has the lowest-numbered waiting patch of block b, and no slot below it has one with that number: in a sound table none can
pub record FirstNumbered (ss : List Slot) (b j : ℕ) : Type 0 where
  pub numbered : LowestNumbered ss b j
  pub first : (i : ℕ) → i < j → waits_on ss b i ≡ true → (slot_at ss j).number < (slot_at ss i).number

-- what becomes of a creation on block b: it joins; or has an entry of its own and is hard, or soft with the lowest room outside the set `taken`; or it
-- would be soft and no room is outside that set
pub data Enters (g : Setting) (ss : List Slot) (b taken : ℕ) : Entry → Type 0 where
  joins : {j : ℕ} → Joins g ss b → FirstNumbered ss b j → Enters g ss b taken (entry.Joins j)
  hard : WouldBeHard g ss b → (Joins g ss b → ⊥) → Enters g ss b taken (entry.Own (Some hold.Hard))
  soft : {r : ℕ} → (WouldBeHard g ss b → ⊥) → Lowest (rooms g) (Outside taken) r → Enters g ss b taken (entry.Own (Some (hold.Soft r)))
  full : (WouldBeHard g ss b → ⊥) → ((r : ℕ) → r < rooms g → Outside taken r → ⊥) → Enters g ss b taken (entry.Own None)

-- the paper's word for each case of the answer, where `taken` are the rooms taken
abbrev pub HeldAs : Setting → List Slot → ℕ → Option Hold → Type 0
HeldAs g ss b (Some h) = HoldOf g ss b h
HeldAs g ss b None = (WouldBeHard g ss b → ⊥) × ((r : ℕ) → r < rooms g → FreeRoom ss r → ⊥)

abbrev pub Means : Setting → List Slot → ℕ → Entry → Type 0
Means g ss b (entry.Joins j) = Joins g ss b × LowestNumbered ss b j
Means g ss b (entry.Own h) = (Joins g ss b → ⊥) × HeldAs g ss b h
