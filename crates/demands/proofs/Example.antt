-- Demand 3 is not empty: a history over three blocks, with a soft patch left behind, an overlap, a change that joins a patch, a completion, and a cut
-- that lands one of two blocks in flight. The theorem's conclusion is computed, and is neither the opening nor the working image. The change that
-- joined named another, which `closed` shows to be landed.
use Prim.Native.Nat.{ℕ}
use mathlib.Core.Path.{◌≡◌, refl, sym, ◌∙◌, ap}
use mathlib.Core.Bool.{Bool, true, false}
use mathlib.Core.List.Memᴰ
use mathlib.Core.List.{List, [], ◌∷◌}
use native.Mathlib.Omega.{arith}
use lib.Dec.{eqb}
use lib.ListN.{replicate, length-replicate, get_or}
use Rattle.masks.specs.Sets.{bit, has, set_below, some_below}
use Rattle.spans.specs.Spans.{splice}
use Rattle.rules.specs.declared.Setting.TheVariants.{Board}
use Rattle.rules.specs.declared.Hold.TheVariants as hold
use Rattle.rules.specs.Sizes.{image_bytes, block_bytes}
use Rattle.rules.specs.Settings.{undo_bytes, rooms, joins, all_soft}
use Rattle.rules.specs.Table.{list_from}
use Rattle.rules.specs.Create.{Change, is_in, befores, patch, accepted_slots, accepted, added, joined_slots, joined, changed, kept, HoldOf}
use Rattle.rules.specs.Write.{taken_back, back_number, back_down, handed_out, sent_slots, sent}
use Rattle.rules.specs.Rounds.{round, rounds}
use Rattle.rules.specs.Complete.{landed_slots, completed_slots, completed}
use Rattle.rules.specs.Calls.{open_granted, create_granted, create_joined, write_granted, complete_granted}
use Rattle.rules.specs.Rows.{Radio}
use Rattle.rules.proofs.Computed.{all_issued, lowest_free, only_waiting, soft_test, hard_tested, held_back, room_free}
use Rattle.rules.proofs.Steps.{just_opened, just_opened_good, Made, JoinedIn, Went, Done, after_create, after_write, after_complete, in_bounds}
use Rattle.rules.proofs.Steps.{none_to_join, open_row, create_row, join_row}
use Rattle.rules.proofs.Steps.{write_row, complete_row}
use Rattle.demands.specs.History as history
use Rattle.demands.specs.History.{History, Accepted, Happened, Call, begun, numbers_below, those}
use Rattle.demands.specs.Demand3.{written, on_store, store_after_cut, sent_in, has_landed, carried_out, Earlier, Follows}
use Rattle.demands.proofs.Demand3.{demand_3}

abbrev pub zeros : List ℕ
zeros = replicate image_bytes 0

abbrev r0 : Radio
r0 = just_opened 1

-- a name on block 1, the index on block 2 after it, a longer name over the first after the index, a note on block 3, and another note there after the first
-- name, which joins the note's patch
abbrev pub c1 : Change
c1 = record { block = 1; offset = 0; bytes = replicate 4 10; named = [] }

abbrev c2 : Change
c2 = record { block = 2; offset = 0; bytes = replicate 4 20; named = 1 ∷ [] }

abbrev c3 : Change
c3 = record { block = 1; offset = 2; bytes = replicate 4 11; named = 2 ∷ [] }

abbrev pub c4 : Change
c4 = record { block = 3; offset = 5; bytes = replicate 3 30; named = [] }

abbrev pub c5 : Change
c5 = record { block = 3; offset = 7; bytes = replicate 2 31; named = 1 ∷ [] }

abbrev r1 : Radio
r1 = after_create (create_granted r0.table r0.image r0.undo c1 0 hold.Hard)

abbrev r2 : Radio
r2 = after_create (create_granted r1.table r1.image r1.undo c2 1 hold.Hard)

abbrev r3 : Radio
r3 = after_create (create_granted r2.table r2.image r2.undo c3 2 (hold.Soft 0))

abbrev r4 : Radio
r4 = after_create (create_granted r3.table r3.image r3.undo c4 3 hold.Hard)

abbrev r5 : Radio
r5 = after_create (create_joined r4.table r4.image r4.undo c5 3)

abbrev r6 : Radio
r6 = after_write (write_granted r5.table r5.image r5.undo 1 1)

abbrev r7 : Radio
r7 = after_complete r6 (complete_granted r6.table 1)

abbrev r8 : Radio
r8 = after_write (write_granted r7.table r7.image r7.undo 3 8)

abbrev pub lent : List ℕ
lent = replicate block_bytes 9

E1 : Made r0 c1 0 hold.Hard
unfolding list_from in_bounds all_issued some_below soft_test all_soft has bit
E1 =
    create_row r0 (just_opened_good 1 (omega arith) (omega arith)) c1 0 hold.Hard refl (omega arith) (none_to_join r0.table c1 refl)
    (lowest_free r0.table.slots 0 (omega arith) refl refl)
    (HoldOf.hard (hard_tested Board r0.table.slots 1 refl refl))

E2 : Made r1 c2 1 hold.Hard
unfolding list_from accepted accepted_slots patch befores is_in set_below in_bounds all_issued some_below soft_test all_soft has bit
E2 =
    create_row r1 E1.1 c2 1 hold.Hard refl (omega arith) (none_to_join r1.table c2 refl) (lowest_free r1.table.slots 1 (omega arith) refl refl)
    (HoldOf.hard (hard_tested Board r1.table.slots 2 refl refl))

E3 : Made r2 c3 2 (hold.Soft 0)
unfolding list_from accepted accepted_slots patch befores is_in set_below in_bounds all_issued some_below rooms has bit
E3 =
    let soft = held_back Board r2.table.slots 1 1 0 (omega arith) (omega arith) refl in
    create_row r2 E2.1 c3 2 (hold.Soft 0) refl (omega arith) (λ j. soft j.would_be_hard)
    (lowest_free r2.table.slots 2 (omega arith) refl refl)
    (HoldOf.soft soft (record { within = omega arith; holds = room_free r2.table.slots 0 refl; least = λ i l. absurd (omega arith) }))

E4 : Made r3 c4 3 hold.Hard
unfolding list_from accepted accepted_slots patch befores is_in set_below in_bounds all_issued some_below soft_test all_soft has bit
E4 =
    create_row r3 E3.1 c4 3 hold.Hard refl (omega arith) (none_to_join r3.table c4 refl) (lowest_free r3.table.slots 3 (omega arith) refl refl)
    (HoldOf.hard (hard_tested Board r3.table.slots 3 refl refl))

-- patch 4, in slot 3, is the only one that waits on block 3
E5 : JoinedIn r4 c5 3
unfolding list_from accepted accepted_slots patch befores is_in set_below in_bounds all_issued some_below soft_test all_soft joins has bit
E5 =
    join_row r4 E4.1 c5 3 refl
    (record { joining = refl; would_be_hard = hard_tested Board r4.table.slots 3 refl refl; some_wait = (3, omega arith, refl) })
    (only_waiting r4.table.slots 3 3 (omega arith) refl refl)

-- block 1 sends patch 1 alone and leaves patch 3 behind; that is told to be there, and so block 3 may send patch 4, with both its changes
E6 : Went r5 lent 1 1
unfolding list_from accepted accepted_slots joined joined_slots added patch befores is_in set_below some_below round rounds has bit
E6 = write_row r5 E5.1 1 lent (omega arith) refl 2 1 refl refl refl 0 refl

E7 : Done r6 1
unfolding list_from accepted accepted_slots joined joined_slots added patch befores is_in set_below sent sent_slots has bit
E7 = complete_row r6 E6.1 1 0 (omega arith) (omega arith) refl

E8 : Went r7 lent 3 8
unfolding list_from accepted accepted_slots joined joined_slots added patch befores is_in set_below sent sent_slots
    completed completed_slots landed_slots some_below round rounds has bit
E8 = write_row r7 E7.1 3 lent (omega arith) refl 1 8 refl refl refl 3 refl

-- and block 2 sends patch 2
E9 : Went r8 lent 2 2
unfolding list_from accepted accepted_slots joined joined_slots added patch befores is_in set_below sent sent_slots
    completed completed_slots landed_slots some_below round rounds has bit
E9 = write_row r8 E8.1 2 lent (omega arith) refl 1 2 refl refl refl 1 refl

-- ---- the history

abbrev h0 : History
h0 = begun (open_granted Board 1) zeros (replicate (undo_bytes Board) 7)

abbrev h1 : History
h1 = history.after_create h0 c1 (create_granted r0.table r0.image r0.undo c1 0 hold.Hard)

abbrev h2 : History
h2 = history.after_create h1 c2 (create_granted r1.table r1.image r1.undo c2 1 hold.Hard)

abbrev h3 : History
h3 = history.after_create h2 c3 (create_granted r2.table r2.image r2.undo c3 2 (hold.Soft 0))

abbrev h4 : History
h4 = history.after_create h3 c4 (create_granted r3.table r3.image r3.undo c4 3 hold.Hard)

abbrev h5 : History
h5 = history.after_create h4 c5 (create_joined r4.table r4.image r4.undo c5 3)

abbrev h6 : History
h6 = history.after_write h5 1 (write_granted r5.table r5.image r5.undo 1 1)

abbrev h7 : History
h7 = history.after_complete h6 1 (complete_granted r6.table 1)

abbrev h8 : History
h8 = history.after_write h7 3 (write_granted r7.table r7.image r7.undo 3 8)

-- block 1's write has landed, those of blocks 2 and 3 are on their way, and patch 3 waits
abbrev pub end : History
end = history.after_write h8 2 (write_granted r8.table r8.image r8.undo 2 2)

happened_5 : Happened h5
unfolding begun history.after_create
happened_5 =
    Happened.calls
    (Happened.calls
    (Happened.calls
    (Happened.calls
    (Happened.calls
    (Happened.opens Board 1 (open_granted Board 1) zeros (replicate (undo_bytes Board) 7) (open_row Board 1 (λ e. omega arith) (omega arith))
    (length-replicate {A = ℕ} image_bytes 0))
    (Call.creates c1 (create_granted r0.table r0.image r0.undo c1 0 hold.Hard) E1.0))
    (Call.creates c2 (create_granted r1.table r1.image r1.undo c2 1 hold.Hard) E2.0))
    (Call.creates c3 (create_granted r2.table r2.image r2.undo c3 2 (hold.Soft 0)) E3.0))
    (Call.creates c4 (create_granted r3.table r3.image r3.undo c4 3 hold.Hard) E4.0))
    (Call.creates c5 (create_joined r4.table r4.image r4.undo c5 3) E5.0)

pub happened : Happened end
unfolding begun history.after_create history.after_write history.after_complete
happened =
    Happened.calls
    (Happened.calls
    (Happened.calls
    (Happened.calls happened_5
    (Call.writes 1 lent (write_granted r5.table r5.image r5.undo 1 1) E6.0))
    (Call.completes 1 (complete_granted r6.table 1) E7.0))
    (Call.writes 3 lent (write_granted r7.table r7.image r7.undo 3 8) E8.0))
    (Call.writes 2 lent (write_granted r8.table r8.image r8.undo 2 2) E9.0)

-- ---- the cut

-- it lets block 3's write be there, and not block 2's
abbrev pub one_lands : ℕ → Bool
one_lands b = eqb b 3

-- the store after it: the first name and both notes, the second over the first, without a byte of the longer name or of the index
abbrev pub both : List ℕ
both = splice (splice (splice zeros 256 (replicate 4 10)) 773 (replicate 3 30)) 775 (replicate 2 31)

pub store_is : store_after_cut one_lands end ≡ both
unfolding store_after_cut on_store written those begun history.after_create history.after_write history.after_complete rooms
    list_from accepted accepted_slots joined joined_slots added patch befores is_in set_below changed kept splice handed_out back_down back_number taken_back
    sent sent_slots completed completed_slots landed_slots has bit
store_is = refl

-- and that is what demand 3 says of it
pub carried_is : carried_out (has_landed one_lands end) end.accepted end.opening ≡ both
carried_is = sym (demand_3 happened one_lands).holds ∙ store_is

-- ---- the second note is landed under the first one's number, and named the first name: so that is landed, and not all are

abbrev name : Accepted
name = record { number = 1; change = c1 }

abbrev note : Accepted
note = record { number = 4; change = c5 }

note_lands : has_landed one_lands end note ≡ true
unfolding has_landed on_store sent_in those begun history.after_create history.after_write history.after_complete numbers_below
    list_from accepted accepted_slots joined joined_slots added patch befores is_in set_below sent sent_slots completed completed_slots landed_slots has bit
note_lands = refl

note_asks : Follows end note name
unfolding begun history.after_create history.after_write history.after_complete is_in accepted accepted_slots list_from patch
note_asks = Follows.straight (record { earlier = Earlier.here (Memᴰ.tail (Memᴰ.tail (Memᴰ.tail (Memᴰ.head refl)))); named = refl })

pub name_lands : has_landed one_lands end name ≡ true
name_lands = (demand_3 happened one_lands).closed note name note_lands note_asks

pub index_does_not : has_landed one_lands end (record { number = 2; change = c2 }) ≡ false
unfolding has_landed on_store sent_in those begun history.after_create history.after_write history.after_complete numbers_below
    list_from accepted accepted_slots joined joined_slots added patch befores is_in set_below sent sent_slots completed completed_slots landed_slots has bit
index_does_not = refl

-- ---- neither the opening nor the working image

at_256 : get_or both 256 0 ≡ 10
unfolding splice
at_256 = refl

pub not_the_opening : store_after_cut one_lands end ≡ zeros → ⊥
not_the_opening e =
    let z : ◌≡◌ {A = ℕ} 10 0 = sym at_256 ∙ ap (λ (s : List ℕ). get_or s 256 0) (sym store_is ∙ e) ∙ zero_at in omega arith
  where
    zero_at : get_or zeros 256 0 ≡ 0
    zero_at = refl

-- the working image has the longer name over the first
pub not_the_image : store_after_cut one_lands end ≡ end.image → ⊥
unfolding begun history.after_create history.after_write history.after_complete changed splice
not_the_image e = let z : ◌≡◌ {A = ℕ} 10 11 = sym at_258 ∙ ap (λ (s : List ℕ). get_or s 258 0) (sym store_is ∙ e) in omega arith
  where
    at_258 : get_or both 258 0 ≡ 10
    at_258 = refl
