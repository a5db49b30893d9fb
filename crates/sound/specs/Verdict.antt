-- Between crates, need not be believed: what the verdict on a table says, in the words of `rules`.
use Rattle.std.specs.Prelude.{ℕ, ◌≡◌, List, Option, Some, None}
use Rattle.masks.specs.Sets.{set_of}
use Rattle.rules.specs.declared.Setting.{Setting}
use Rattle.rules.specs.declared.Slot.{Slot}
use Rattle.rules.specs.Table.{Sound, table_of, used}
use Rattle.slots.specs.Walks.{taken_rooms}
use Rattle.sound.specs.declared.types.InUse.{InUse}

-- the table is sound, and u says which slots are in use and which rooms are taken
pub record SoundWith (g : Setting) (first next : ℕ) (ss : List Slot) (u : InUse) : Type 0 where
  pub sound : Sound (table_of g first next ss)
  pub used_slots : u.used ≡ set_of (used ss)
  pub taken-rooms : u.rooms ≡ taken_rooms ss

-- the verdict v is None just where the table is not sound; of one that is it says which slots are in use and which rooms are taken
pub record IsVerdict (g : Setting) (first next : ℕ) (ss : List Slot) (v : Option InUse) : Type 0 where
  pub unsound : v ≡ None → Sound (table_of g first next ss) → ⊥
  pub sound : (u : InUse) → v ≡ Some u → SoundWith g first next ss u
