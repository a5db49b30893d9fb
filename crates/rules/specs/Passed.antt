-- Between crates, need not be believed: what a call has found when none of its refusals holds, one record of named facts for create and one for write.
use Rattle.std.specs.Prelude.{ℕ, ◌+◌, ◌≤◌, ◌<◌, ◌≡◌, true, List, length}
use Rattle.masks.specs.Sets.{has}
use Rattle.rules.specs.Sizes.{blocks, block_bytes, image_bytes, most_bytes, most_named, last_number}
use Rattle.rules.specs.Settings.{undo_bytes}
use Rattle.rules.specs.Table.{Table, Waits, Flies, Sound, Issued}
use Rattle.rules.specs.Create.{Change, is_in}
use Rattle.rules.specs.Write.{Largest}
use Rattle.rules.specs.Refusals.{TakesSlot}

-- every named number was issued
abbrev pub NamesIssued : Table → Change → Type 0
NamesIssued t c = (n : ℕ) → is_in n c.named ≡ true → Issued t.next n

-- none of the refusals 1 to 7 holds of a create
pub record CreateReady (t : Table) (image undo : List ℕ) (c : Change) : Type 0 where
  pub image_whole : length image ≡ image_bytes
  pub undo_whole : length undo ≡ undo_bytes t.setting
  pub sound : Sound t
  pub is_block : c.block < blocks
  pub len_least : 1 ≤ length c.bytes
  pub len_most : length c.bytes ≤ most_bytes
  pub ends : c.offset + length c.bytes ≤ block_bytes
  pub few_named : length c.named ≤ most_named
  pub issued : NamesIssued t c

-- nor 8: a number is left for a creation that takes a slot; 9 and 10 are the slot and the room that the grant itself names
pub record CreatePassed (t : Table) (image undo : List ℕ) (c : Change) : Type 0 where
  pub ready : CreateReady t image undo c
  pub last : TakesSlot t c → t.next ≤ last_number

-- none of the refusals 1 to 12 holds of a write
pub record WriteReady (t : Table) (image undo block : List ℕ) (b : ℕ) : Type 0 where
  pub image_whole : length image ≡ image_bytes
  pub undo_whole : length undo ≡ undo_bytes t.setting
  pub block_whole : length block ≡ block_bytes
  pub sound : Sound t
  pub is_block : b < blocks
  pub none_flies : Flies t.slots b → ⊥
  pub some_wait : Waits t.slots b

-- nor 13: a largest set has a member
pub record WritePassed (t : Table) (image undo block : List ℕ) (b : ℕ) : Type 0 where
  pub ready : WriteReady t image undo block b
  pub some_goes : (s : ℕ) → Largest t.slots b s → (i : ℕ) × (has s i ≡ true)
