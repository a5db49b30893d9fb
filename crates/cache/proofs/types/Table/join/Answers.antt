-- `Table::join` meets its contract: the slots, the image and the answer are those of a change that joins. Assumes nothing.
use Prim.Native.Nat.{ℕ}
use mathlib.Core.Path.{◌≡◌, ap, ap₂, ◌∙◌}
use mathlib.Core.List.{List}
use lib.Dec.{eqb}
use Rattle.std.specs.Prelude.{Ok}
use Rattle.rules.specs.declared.Slot.{Slot}
use Rattle.rules.specs.declared.Hold.TheVariants as hold
use Rattle.rules.specs.Table as rules
use Rattle.rules.specs.Table.{slot_at, slots_by, with_slots}
use Rattle.rules.specs.Create.{Change, change_in, added, joined_slot, joined_slots, joined}
use Rattle.rules.specs.Calls.{Creation}
use Rattle.cache.specs.Seen.{seen}
use Rattle.cache.proofs.Accepted.{image_made}
use Rattle.cache.proofs.types.Table.join.Goals as goal

-- the slots with the set m added are those of the change that joins, where m is what it adds
slots_made : (ss : List Slot) (c : Change) (m j : ℕ) → m ≡ added ss c
    → slots_by (λ i. joined_slot m c.block (eqb i j) (slot_at ss i)) ≡ joined_slots ss c j
unfolding joined_slots
slots_made ss c m j e = ap (λ (x : ℕ). slots_by (λ i. joined_slot x c.block (eqb i j) (slot_at ss i))) e

-- a creation that is granted number n, and hard
abbrev granted : ℕ → List ℕ → rules.Table → List ℕ → Creation
granted n undo t image = record { answer = Ok (record { number = n; hold = hold.Hard }); table = t; image = image; undo = undo }

pub returns : goal.returns
unfolding joined
returns c =
    let a = c.args in
    let t = seen a.self.now in
    let change = change_in a.change.now in
    λ undo.
    ap₂ (granted (slot_at a.self.now.slots a.j).number undo)
    (c.with_slots-next.ensures
    ∙ ap (λ (ss : List Slot). with_slots ss t) (c.joined.ensures ∙ slots_made a.self.now.slots change c.added-more.result a.j c.added-more.ensures))
    (c.lay.ensures ∙ image_made a.image.now change c.place.ensures)
