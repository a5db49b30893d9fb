-- The worked session, row by row: each call on what the row before left, its tests computed. The theorem stands in Rows.antt.
use Prim.Native.Nat.{ℕ}
use mathlib.Core.Path.{refl}
use mathlib.Core.List.{List, [], ◌∷◌}
use native.Mathlib.Omega.{arith}
use lib.ListN.{replicate}
use Rattle.masks.specs.Sets.{bit, has, set_below, some_below}
use Rattle.spans.specs.Spans.{splice}
use Rattle.rules.specs.declared.Setting.TheVariants.{Board}
use Rattle.rules.specs.declared.refusals.Refusal.TheVariants.{NoneMayGo, InFlight}
use Rattle.rules.specs.declared.Hold.TheVariants as hold
use Rattle.rules.specs.Sizes.{block_bytes}
use Rattle.rules.specs.Settings.{rooms, joins, all_soft}
use Rattle.rules.specs.Table.{list_from}
use Rattle.rules.specs.Create.{Change, is_in, befores, patch, accepted_slots, accepted, added, joined_slots, joined, changed, kept, HoldOf}
use Rattle.rules.specs.Write.{taken_back, back_number, back_down, handed_out, sent_slots, sent}
use Rattle.rules.specs.Rounds.{round, rounds}
use Rattle.rules.specs.Complete.{landed_slots, completed_slots, completed}
use Rattle.rules.specs.Calls.{create_granted, create_joined, write_granted, complete_granted}
use Rattle.rules.specs.Rows.{Radio, Runs, rows_p1to_p10}
use Rattle.rules.proofs.Computed.{all_issued, lowest_free, only_waiting, soft_test, hard_tested, held_back, room_free}
use Rattle.rules.proofs.Steps.{just_opened, just_opened_good, Made, JoinedIn, Went, Done, Stayed, after_create, after_write}
use Rattle.rules.proofs.Steps.{after_complete, in_bounds, none_to_join}
use Rattle.rules.proofs.Steps.{create_row, join_row, write_flies, write-none, write_row, complete_row}

abbrev lent : List ℕ
lent = replicate block_bytes 9

abbrev r0 : Radio
r0 = just_opened 1

abbrev c1 : Change
c1 = record { block = 1; offset = 0; bytes = replicate 8 65; named = [] }

abbrev c2 : Change
c2 = record { block = 2; offset = 0; bytes = replicate 2 1; named = 1 ∷ [] }

abbrev c3 : Change
c3 = record { block = 2; offset = 2; bytes = replicate 2 2; named = [] }

abbrev c4 : Change
c4 = record { block = 1; offset = 8; bytes = replicate 8 66; named = 2 ∷ [] }

abbrev r1 : Radio
r1 = after_create (create_granted r0.table r0.image r0.undo c1 0 hold.Hard)

P1 : Made r0 c1 0 hold.Hard
unfolding list_from in_bounds all_issued some_below soft_test all_soft has bit
P1 =
    create_row r0 (just_opened_good 1 (omega arith) (omega arith)) c1 0 hold.Hard refl (omega arith) (none_to_join r0.table c1 refl)
    (lowest_free r0.table.slots 0 (omega arith) refl refl)
    (HoldOf.hard (hard_tested Board r0.table.slots 1 refl refl))

abbrev r2 : Radio
r2 = after_create (create_granted r1.table r1.image r1.undo c2 1 hold.Hard)

P2 : Made r1 c2 1 hold.Hard
unfolding list_from accepted accepted_slots patch befores is_in set_below in_bounds all_issued some_below soft_test all_soft has bit
P2 =
    create_row r1 P1.1 c2 1 hold.Hard refl (omega arith) (none_to_join r1.table c2 refl) (lowest_free r1.table.slots 1 (omega arith) refl refl)
    (HoldOf.hard (hard_tested Board r1.table.slots 2 refl refl))

abbrev r3 : Radio
r3 = after_create (create_joined r2.table r2.image r2.undo c3 1)

-- patch 2, in slot 1, is the only one that waits on block 2
P3 : JoinedIn r2 c3 1
unfolding list_from accepted accepted_slots patch befores is_in set_below in_bounds all_issued some_below soft_test all_soft joins has bit
P3 =
    join_row r2 P2.1 c3 1 refl
    (record { joining = refl; would_be_hard = hard_tested Board r2.table.slots 2 refl refl; some_wait = (1, omega arith, refl) })
    (only_waiting r2.table.slots 2 1 (omega arith) refl refl)

abbrev r4 : Radio
r4 = after_create (create_granted r3.table r3.image r3.undo c4 2 (hold.Soft 0))

-- patch 2, in slot 1 on block 2, follows patch 1, in slot 0, which waits on block 1
P4 : Made r3 c4 2 (hold.Soft 0)
unfolding list_from accepted accepted_slots joined joined_slots added patch befores is_in set_below in_bounds all_issued some_below rooms has bit
P4 =
    let soft = held_back Board r3.table.slots 1 1 0 (omega arith) (omega arith) refl in
    create_row r3 P3.1 c4 2 (hold.Soft 0) refl (omega arith) (λ j. soft j.would_be_hard)
    (lowest_free r3.table.slots 2 (omega arith) refl refl)
    (HoldOf.soft soft (record { within = omega arith; holds = room_free r3.table.slots 0 refl; least = λ i l. absurd (omega arith) }))

P5 : Stayed r4 lent 2 NoneMayGo
unfolding list_from accepted accepted_slots joined joined_slots added patch befores is_in set_below some_below round rounds has bit
P5 = write-none r4 P4.1 2 lent (omega arith) refl 2 0 refl refl refl 1 (omega arith) refl refl

P6 : Went r4 lent 1 1
unfolding list_from accepted accepted_slots joined joined_slots added patch befores is_in set_below some_below round rounds has bit
P6 = write_row r4 P4.1 1 lent (omega arith) refl 2 1 refl refl refl 0 refl

abbrev r6 : Radio
r6 = after_write (write_granted r4.table r4.image r4.undo 1 1)

P7 : Stayed r6 lent 1 InFlight
unfolding list_from accepted accepted_slots joined joined_slots added patch befores is_in set_below sent sent_slots has bit
P7 = write_flies r6 P6.1 1 lent (omega arith) refl 0 (omega arith) refl

P8a : Done r6 1
unfolding list_from accepted accepted_slots joined joined_slots added patch befores is_in set_below sent sent_slots has bit
P8a = complete_row r6 P6.1 1 0 (omega arith) (omega arith) refl

abbrev r8a : Radio
r8a = after_complete r6 (complete_granted r6.table 1)

P8b : Went r8a lent 2 2
unfolding list_from accepted accepted_slots joined joined_slots added patch befores is_in set_below sent sent_slots
    completed completed_slots landed_slots some_below round rounds has bit
P8b = write_row r8a P8a.1 2 lent (omega arith) refl 1 2 refl refl refl 1 refl

abbrev r8 : Radio
r8 = after_write (write_granted r8a.table r8a.image r8a.undo 2 2)

P9 : Stayed r8 lent 1 NoneMayGo
unfolding list_from accepted accepted_slots joined joined_slots added patch befores is_in set_below sent sent_slots
    completed completed_slots landed_slots some_below round rounds has bit
P9 = write-none r8 P8b.1 1 lent (omega arith) refl 2 0 refl refl refl 2 (omega arith) refl refl

P10a : Done r8 2
unfolding list_from accepted accepted_slots joined joined_slots added patch befores is_in set_below sent sent_slots
    completed completed_slots landed_slots has bit
P10a = complete_row r8 P8b.1 2 1 (omega arith) (omega arith) refl

abbrev r10 : Radio
r10 = after_complete r8 (complete_granted r8.table 2)

P10b : Went r10 lent 1 4
unfolding list_from accepted accepted_slots joined joined_slots added patch befores is_in set_below sent sent_slots
    completed completed_slots landed_slots some_below round rounds has bit
P10b = write_row r10 P10a.1 1 lent (omega arith) refl 1 4 refl refl refl 2 refl

-- the rows, one after the other; the answers and the bytes handed out compute to those of the table
pub session : Runs r0 rows_p1to_p10
unfolding rooms rows_p1to_p10 list_from accepted accepted_slots joined joined_slots added patch befores is_in set_below sent sent_slots
    completed completed_slots landed_slots changed kept splice handed_out back_down back_number taken_back has bit
session =
    Runs.creates _ P1.0
    (Runs.creates _ P2.0
    (Runs.creates _ P3.0
    (Runs.creates _ P4.0
    (Runs.writes _ P5
    (Runs.writes _ P6.0
    (Runs.writes _ P7
    (Runs.completes _ P8a.0
    (Runs.writes _ P8b.0
    (Runs.writes _ P9
    (Runs.completes _ P10a.0
    (Runs.writes _ P10b.0
    Runs.end)))))))))))
