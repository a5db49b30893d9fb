-- The rooms of the slots passed, as a walk gathers them: the room of one slot more is among them just where a slot below has it. Assumes nothing.
use Prim.Native.Nat.{ℕ, ◌+◌, ◌<◌}
use mathlib.Core.Path.{◌≡◌, sym, ◌∙◌}
use mathlib.Core.Bool.{Bool, false, ◌||◌}
use mathlib.Core.List.{List}
use mathlib.Core.Logic.{⊎_elim}
use Rattle.masks.specs.Sets.{has, Meet, set_of}
use Rattle.ground.proofs.Decided.{clash, true_or_false}
use Rattle.masks.proofs.Laws.{has_of, has_slot, set_lt}
use Rattle.rules.specs.declared.Slot.{Slot}
use Rattle.rules.specs.Slots.{has_room}
use Rattle.rules.specs.Table.{slot_at, used, HasRoom}
use Rattle.rules.proofs.Words.{has_room_used}
use Rattle.sound.proofs.Gathered.{gathered, gathered_more, gathered_all, gathered_only}

-- slot i gives its room
abbrev pub roomed : List Slot → ℕ → ℕ → Bool
roomed ss i = has_room (slot_at ss i).state

-- a free slot gives none
pub free_roomless : (ss : List Slot) (i : ℕ) → used ss i ≡ false → (r : ℕ) → roomed ss i r ≡ false
free_roomless ss i free r = ⊎_elim (λ e. absurd (clash (has_room_used ss i r e) free)) (λ e. e) (true_or_false (roomed ss i r))

module _ (ss : List Slot) (n : ℕ) {m q : ℕ} (below : m ≡ gathered (roomed ss) n) (room : q ≡ set_of (roomed ss n)) where
  -- the set q has just the room of slot n
  room_in : (r : ℕ) → r < 64 → has q r ≡ roomed ss n r
  room_in r l = has_of (roomed ss n) q r room l

  pub rooms_more : set_of (λ k. has m k || has q k) ≡ gathered (roomed ss) (n + 1)
  rooms_more = gathered_more (roomed ss) below q room_in

  -- the room of slot n is taken just where a slot below has it
  pub meets_shares : Meet m q → (j r : ℕ) × (j < n) × HasRoom ss n r × HasRoom ss j r
  meets_shares h =
      let l = has_slot q h.0 (rw room (set_lt (roomed ss n))) h.2 in
      let z = gathered_only (roomed ss) below h.0 l h.1 in
      (z.0, h.0, z.1, sym (room_in h.0 l) ∙ h.2, z.2)

  pub shares_meets : (j r : ℕ) → j < n → r < 64 → HasRoom ss n r → HasRoom ss j r → Meet m q
  shares_meets j r b l e f = (r, gathered_all (roomed ss) below j r b l f, room_in r l ∙ e)
