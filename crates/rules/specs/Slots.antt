-- Document 01, "The table": what one slot holds.
use Rattle.std.specs.Prelude.{ℕ, Bool, true, false, eqb}
use Rattle.rules.specs.declared.Hold.{Hold}
use Rattle.rules.specs.declared.Hold.TheVariants as hold
use Rattle.rules.specs.declared.Kind.{Kind}
use Rattle.rules.specs.declared.Kind.TheVariants as kind
use Rattle.rules.specs.declared.State.{State}
use Rattle.rules.specs.declared.State.TheVariants as state
use Rattle.rules.specs.declared.Slot.{Slot}

-- each slot is free, waiting or in flight
abbrev pub is_waiting : State → Bool
is_waiting state.Free = false
is_waiting (state.Waiting h) = true
is_waiting (state.InFlight k) = false

abbrev pub is_in_flight : State → Bool
is_in_flight state.Free = false
is_in_flight (state.Waiting h) = false
is_in_flight (state.InFlight k) = true

-- a used slot is waiting or in flight
abbrev pub is_used : State → Bool
is_used state.Free = false
is_used (state.Waiting h) = true
is_used (state.InFlight k) = true

-- a waiting patch that is hard
abbrev pub is_hard : State → Bool
is_hard state.Free = false
is_hard (state.Waiting hold.Hard) = true
is_hard (state.Waiting (hold.Soft r)) = false
is_hard (state.InFlight k) = false

-- a patch that is hard, waiting or in flight
abbrev pub is_hard_patch : State → Bool
is_hard_patch state.Free = false
is_hard_patch (state.Waiting hold.Hard) = true
is_hard_patch (state.Waiting (hold.Soft r)) = false
is_hard_patch (state.InFlight kind.Hard) = true
is_hard_patch (state.InFlight kind.Soft) = false

-- a patch in the state has the undo room r: a soft waiting one has it, no other patch has a room
abbrev pub has_room : State → ℕ → Bool
has_room state.Free r = false
has_room (state.Waiting hold.Hard) r = false
has_room (state.Waiting (hold.Soft q)) r = eqb r q
has_room (state.InFlight k) r = false

-- the room of a patch that has one; for any other this says nothing
abbrev pub room_of : State → ℕ
room_of state.Free = 0
room_of (state.Waiting hold.Hard) = 0
room_of (state.Waiting (hold.Soft r)) = r
room_of (state.InFlight k) = 0

-- whether a waiting patch is hard or soft, without its room
abbrev pub kind_of : Hold → Kind
kind_of hold.Hard = kind.Hard
kind_of (hold.Soft r) = kind.Soft

-- a free slot carries nothing of its last patch
abbrev pub free_slot : Slot
free_slot = record { state = state.Free; number = 0; block = 0; offset = 0; len = 0; befores = 0 }

-- a slot with another state, and with other befores
abbrev pub with_state : State → Slot → Slot
with_state u s = record { state = u; number = s.number; block = s.block; offset = s.offset; len = s.len; befores = s.befores }

abbrev pub with_befores : ℕ → Slot → Slot
with_befores m s = record { state = s.state; number = s.number; block = s.block; offset = s.offset; len = s.len; befores = m }
