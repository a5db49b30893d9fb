-- Document 02's own example, and the same with a change that joins: what is printed of these inputs, computed. So nobody has to believe that the
-- definitions print something, or that a cut counts changes: two changes share the patch that went.
use Prim.Native.Nat.{ℕ, zero, suc, ◌<◌}
use mathlib.Core.Path.{◌≡◌, refl, ap}
use mathlib.Core.Bool.{true}
use mathlib.Core.List.{List, [], ◌∷◌, ◌++◌}
use native.Mathlib.Omega.{arith}
use lib.ListN.{get_or, replicate, length-replicate}
use Rattle.masks.specs.Sets.{bit, has, set_below, some_below, how_many}
use Rattle.rules.specs.declared.Setting.TheVariants.{Board}
use Rattle.rules.specs.declared.Hold.TheVariants as hold
use Rattle.rules.specs.Sizes.{image_bytes}
use Rattle.rules.specs.Settings.{joins, all_soft, undo_bytes}
use Rattle.rules.specs.Table.{list_from}
use Rattle.rules.specs.Open.{opened}
use Rattle.rules.specs.Create.{Change, is_in, befores, patch, accepted_slots, accepted, added, joined_slots, joined, HoldOf}
use Rattle.rules.specs.Write.{sent_slots, sent}
use Rattle.rules.specs.Rounds.{round, rounds}
use Rattle.rules.specs.Calls.{open_granted, create_granted, create_joined}
use Rattle.rules.specs.Rows.{Radio}
use Rattle.rules.proofs.Computed.{all_issued, lowest_free, only_waiting, soft_test, hard_tested}
use Rattle.rules.proofs.Steps.{Good, just_opened_good, Made, JoinedIn, Went, after_create, in_bounds, none_to_join}
use Rattle.rules.proofs.Steps.{open_row, create_row, join_row, write_row}
use Rattle.ground.proofs.Decided.{clash}
use Rattle.records.specs.Record.{Call, opens, creates, writes, cuts, high_first, four_each, value_of, record_of, trace_of, Fits, CreateFits}
use Rattle.lines.specs.Decimal.{digits_in, decimal}
use Rattle.lines.specs.Line.{word_text, hold_text, more_text, text_of}
use Rattle.trace.specs.declared.types.Phase.{Phase}
use Rattle.trace.specs.declared.types.Phase.TheVariants as phase
use Rattle.tally.specs.Counts.{plus, one_more, carried_below}
use Rattle.trace.specs.Run.{Run, Step, begun, Makes, makes_open, makes_create, makes_write, makes_cut, blank, is_in_order}
use Rattle.trace.specs.Printed as prints
use Rattle.trace.specs.Printed.{Prints, Printed}

-- ---- the calls

abbrev r0 : Radio
r0 = record { table = opened Board 1; image = replicate image_bytes 0; undo = replicate (undo_bytes Board) 0 }

g0 : Good r0
g0 =
    let g = just_opened_good 1 (omega arith) (omega arith) in
    record { sound = g.sound; image_whole = g.image_whole; undo_whole = length-replicate {A = ℕ} (undo_bytes Board) 0 }

-- one byte on block 1
abbrev change : ℕ → Change
change offset = record { block = 1; offset = offset; bytes = 65 ∷ []; named = [] }

abbrev c1 : Change
c1 = change 0

abbrev r1 : Radio
r1 = after_create (create_granted r0.table r0.image r0.undo c1 0 hold.Hard)

P1 : Made r0 c1 0 hold.Hard
unfolding list_from in_bounds all_issued some_below soft_test all_soft has bit
P1 =
    create_row r0 g0 c1 0 hold.Hard refl (omega arith) (none_to_join r0.table c1 refl) (lowest_free r0.table.slots 0 (omega arith) refl refl)
    (HoldOf.hard (hard_tested Board r0.table.slots 1 refl refl))

P2 : Went r1 blank 1 1
unfolding list_from accepted accepted_slots patch befores is_in set_below some_below round rounds has bit
P2 = write_row r1 P1.1 1 blank (omega arith) refl 1 1 refl refl refl 0 refl

-- ---- the lines

-- the input goes on with the record of a call that fits
on : {r : Run} (c : Call) {s : Step} {rest text : List ℕ} → Fits c → is_in_order r.phase c ≡ true → Makes r c s → Prints s.run rest text
    → Prints r (record_of c ++ rest) (text_of s.line ++ text)
on c {rest = rest} f o m t =
    prints.goes_on (record { bytes = record_of c; rest = rest; whole = refl; good = record { fits = f; bytes_are = refl; in_order = o } }) m t

-- 01 0004 00000001, 02 0005 01 0000 00 41, 03 0001 01, 05 0008 0000000000000002
input : List ℕ
input =
    1 ∷ 0 ∷ 4 ∷ 0 ∷ 0 ∷ 0 ∷ 1
    ∷ 2 ∷ 0 ∷ 5 ∷ 1 ∷ 0 ∷ 0 ∷ 0 ∷ 65
    ∷ 3 ∷ 0 ∷ 1 ∷ 1
    ∷ 5 ∷ 0 ∷ 8 ∷ 0 ∷ 0 ∷ 0 ∷ 0 ∷ 0 ∷ 0 ∷ 0 ∷ 2 ∷ []

-- "1 open 0", "2 create 0 1 hard", "3 write 0 1", "4 cut 1"
text : List ℕ
text =
    49 ∷ 32 ∷ 111 ∷ 112 ∷ 101 ∷ 110 ∷ 32 ∷ 48 ∷ 10
    ∷ 50 ∷ 32 ∷ 99 ∷ 114 ∷ 101 ∷ 97 ∷ 116 ∷ 101 ∷ 32 ∷ 48 ∷ 32 ∷ 49 ∷ 32 ∷ 104 ∷ 97 ∷ 114 ∷ 100 ∷ 10
    ∷ 51 ∷ 32 ∷ 119 ∷ 114 ∷ 105 ∷ 116 ∷ 101 ∷ 32 ∷ 48 ∷ 32 ∷ 49 ∷ 10
    ∷ 52 ∷ 32 ∷ 99 ∷ 117 ∷ 116 ∷ 32 ∷ 49 ∷ 10 ∷ []

one_byte : (i : ℕ) → i < 1 → get_or (65 ∷ []) i 0 < 256
one_byte zero l = omega arith
one_byte (suc i) l = absurd (omega arith)

change_fits : (offset : ℕ) → offset < 256 → CreateFits (change offset)
change_fits offset l = record {
  sizes = record { block = omega arith; offset = omega arith; many = omega arith; value = omega arith };
  named = λ i l. absurd (omega arith);
  bytes = one_byte;
}

-- after a cut the open has come
over_came : phase.Over ≡ phase.Unopened → ⊥
over_came e = clash (ap (λ (p : Phase). is_in_order p (opens 1)) e) refl

document_02 : Printed input text
unfolding
    begun input text list_from accepted accepted_slots patch befores is_in set_below sent sent_slots has bit how_many plus one_more carried_below high_first
    four_each value_of record_of decimal digits_in word_text hold_text more_text text_of
document_02 =
    on (opens 1) (omega arith) refl (makes_open (open_granted Board 1) (open_row Board 1 (λ e. absurd (omega arith)) (omega arith)))
    (on (creates c1) (change_fits 0 (omega arith)) refl (makes_create _ P1.0)
    (on (writes 1) (omega arith) refl (makes_write _ P2.0)
    (on (cuts 2) (omega arith) refl makes_cut (prints.ends (record { all_read = refl; some_came = over_came })))))

-- ---- with a change that joins

abbrev c2 : Change
c2 = change 8

abbrev r2 : Radio
r2 = after_create (create_joined r1.table r1.image r1.undo c2 0)

J1 : JoinedIn r1 c2 0
unfolding list_from accepted accepted_slots patch befores is_in set_below in_bounds all_issued some_below soft_test all_soft joins has bit
J1 =
    join_row r1 P1.1 c2 0 refl
    (record { joining = refl; would_be_hard = hard_tested Board r1.table.slots 1 refl refl; some_wait = (0, omega arith, refl) })
    (only_waiting r1.table.slots 1 0 (omega arith) refl refl)

J2 : Went r2 blank 1 1
unfolding list_from accepted accepted_slots joined joined_slots added patch befores is_in set_below some_below round rounds has bit
J2 = write_row r2 J1.1 1 blank (omega arith) refl 1 1 refl refl refl 0 refl

-- "1 open 0", "2 create 0 1 hard", "3 create 0 1 hard", "4 write 0 1", "5 cut 2"
text_joined : List ℕ
text_joined =
    49 ∷ 32 ∷ 111 ∷ 112 ∷ 101 ∷ 110 ∷ 32 ∷ 48 ∷ 10
    ∷ 50 ∷ 32 ∷ 99 ∷ 114 ∷ 101 ∷ 97 ∷ 116 ∷ 101 ∷ 32 ∷ 48 ∷ 32 ∷ 49 ∷ 32 ∷ 104 ∷ 97 ∷ 114 ∷ 100 ∷ 10
    ∷ 51 ∷ 32 ∷ 99 ∷ 114 ∷ 101 ∷ 97 ∷ 116 ∷ 101 ∷ 32 ∷ 48 ∷ 32 ∷ 49 ∷ 32 ∷ 104 ∷ 97 ∷ 114 ∷ 100 ∷ 10
    ∷ 52 ∷ 32 ∷ 119 ∷ 114 ∷ 105 ∷ 116 ∷ 101 ∷ 32 ∷ 48 ∷ 32 ∷ 49 ∷ 10
    ∷ 53 ∷ 32 ∷ 99 ∷ 117 ∷ 116 ∷ 32 ∷ 50 ∷ 10 ∷ []

two_in_one : Printed (trace_of (opens 1 ∷ creates c1 ∷ creates c2 ∷ writes 1 ∷ cuts 2 ∷ [])) text_joined
unfolding
    begun text_joined list_from accepted accepted_slots joined joined_slots added patch befores is_in set_below sent sent_slots has bit how_many plus one_more
    carried_below high_first four_each value_of record_of trace_of decimal digits_in word_text hold_text more_text text_of
two_in_one =
    on (opens 1) (omega arith) refl (makes_open (open_granted Board 1) (open_row Board 1 (λ e. absurd (omega arith)) (omega arith)))
    (on (creates c1) (change_fits 0 (omega arith)) refl (makes_create _ P1.0)
    (on (creates c2) (change_fits 8 (omega arith)) refl (makes_create _ J1.0)
    (on (writes 1) (omega arith) refl (makes_write _ J2.0)
    (on (cuts 2) (omega arith) refl makes_cut (prints.ends (record { all_read = refl; some_came = over_came }))))))
