-- Inside this crate, need not be believed: what create's private functions are given once its early refusals are judged, and what they make. No public
-- promise cites this file.
use Rattle.std.specs.Prelude.{ℕ, ◌+◌, ◌≡◌, List, Option, Ok}
use Rattle.spans.specs.Spans.{splice, part}
use Rattle.rules.specs.declared.Hold.{Hold}
use Rattle.rules.specs.declared.Hold.TheVariants as hold
use Rattle.rules.specs.declared.Slot.{Slot}
use Rattle.masks.specs.Sets.{set_of}
use Rattle.rules.specs.Sizes.{room_start}
use Rattle.rules.specs.Table.{Table, used, with_slots, with_next}
use Rattle.rules.specs.Create.{Change, accepted_slots}
use Rattle.rules.specs.Refusals.{TakesSlot}
use Rattle.rules.specs.Calls.{create_joined}
use Rattle.rules.specs.Passed.{CreateReady}
use Rattle.accept.specs.Asked.{HeldAs}
use Rattle.rules.specs.declared.Created.{Created}
use Rattle.cache.specs.declared.types.Table as code
use Rattle.cache.specs.Seen.{seen}

-- none of 1 to 7 holds of a create, and it takes a slot, hard or soft as h says; `in_use` are the slots in use
pub record Taking (t : Table) (image undo : List ℕ) (c : Change) (in_use : ℕ) (h : Option Hold) : Type 0 where
  pub ready : CreateReady t image undo c
  pub own : TakesSlot t c
  pub is-used : in_use ≡ set_of (used t.slots)
  pub held : HeldAs t.setting t.slots c.block h

-- r and the image afterwards are what comes of a change that joins the patch of slot j, whatever the undo area holds
abbrev pub Joined : Table → List ℕ → Change → ℕ → code.Table × Created → List ℕ → Type 0
Joined t image c j r image' = (undo : List ℕ) → record { answer = Ok r.1; table = seen r.0; image = image'; undo = undo } ≡ create_joined t image undo c j

-- the undo area once the n old bytes of the image from place `at` are kept, where the patch is soft
abbrev pub kept_at : List ℕ → List ℕ → ℕ → ℕ → Hold → List ℕ
kept_at undo image at n hold.Hard = undo
kept_at undo image at n (hold.Soft r) = splice undo (room_start r) (part image at n)

-- the table with the patch p in slot j, and next grown by one
abbrev pub with_patch : Table → Slot → ℕ → Hold → Table
with_patch t p j h = with_next (t.next + 1) (with_slots (accepted_slots t.slots p j h) t)
