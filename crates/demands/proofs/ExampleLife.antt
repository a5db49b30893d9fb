-- The life of the radio is not empty: after the cut of Example.antt it is opened on what that left, at the old next, 5. A change names the numbers 4, which
-- had landed, and 2, which was lost with the cut: both are old, and it follows nothing. It is written, and the supply is cut while it is in flight. Had it
-- been completed, the radio would have been at rest.
use Prim.Native.Nat.{ℕ}
use mathlib.Core.Path.{◌≡◌, refl, sym, ◌∙◌, ap}
use mathlib.Core.Bool.{Bool, true, false}
use mathlib.Core.List.Memᴰ
use mathlib.Core.List.{List, [], ◌∷◌}
use native.Mathlib.Omega.{arith}
use lib.ListN.{length, replicate, length-replicate}
use Rattle.masks.specs.Sets.{bit, has, set_below, some_below}
use Rattle.masks.proofs.Laws.{none_at}
use Rattle.spans.specs.Spans.{splice}
use Rattle.spans.proofs.Laws.{length_splice}
use Rattle.rules.specs.declared.AskAnswer.TheVariants as ask
use Rattle.rules.specs.declared.Setting.TheVariants.{Board}
use Rattle.rules.specs.declared.Hold.TheVariants as hold
use Rattle.rules.specs.Sizes.{image_bytes, slots}
use Rattle.rules.specs.Settings.{undo_bytes, all_soft, rooms}
use Rattle.rules.specs.Table.{list_from, used}
use Rattle.rules.specs.Open.{opened}
use Rattle.rules.specs.Create.{Change, is_in, befores, patch, accepted_slots, accepted, added, joined_slots, joined, changed, kept, HoldOf}
use Rattle.rules.specs.Write.{taken_back, back_number, back_down, handed_out, sent_slots, sent}
use Rattle.rules.specs.Rounds.{round, rounds}
use Rattle.rules.specs.Complete.{landed_slots, completed_slots, completed}
use Rattle.rules.specs.Calls.{open_granted, create_granted, write_granted, complete_granted, Asks}
use Rattle.rules.specs.Rows.{Radio}
use Rattle.rules.proofs.StaysSound.{opened_sound}
use Rattle.rules.proofs.OldNumbers.{old_asks}
use Rattle.rules.proofs.Computed.{all_issued, lowest_free, soft_test, hard_tested}
use Rattle.rules.proofs.Steps.{Good, Made, Went, Done, after_create, after_write, in_bounds, none_to_join, open_row, create_row, write_row, complete_row}
use Rattle.demands.specs.History as history
use Rattle.demands.specs.History.{History, Accepted, Happened, Call, begun, numbers_below, those}
use Rattle.demands.specs.Demand3.{written, on_store, store_after_cut, sent_in, has_landed, carried_out}
use Rattle.demands.specs.Life.{PowerUp, power_up, store_left, Lived, landed_in, all_landed, every, Onward, AtRest}
use Rattle.demands.proofs.QuestionFour.{question_four_for_life}
use Rattle.demands.proofs.Example as first
use Rattle.demands.proofs.Example.{zeros, both, lent, c1, c4, c5, one_lands}

abbrev undo : List ℕ
undo = replicate (undo_bytes Board) 7

length_both : length both ≡ image_bytes
length_both = length_splice _ _ _ ∙ length_splice _ _ _ ∙ length_splice _ _ _ ∙ length-replicate {A = ℕ} image_bytes 0

abbrev r0 : Radio
r0 = record { table = opened Board 5; image = both; undo = undo }

r0_good : Good r0
r0_good = record {
  sound = opened_sound Board 5 (omega arith) (omega arith);
  image_whole = length_both;
  undo_whole = length-replicate {A = ℕ} (undo_bytes Board) 7;
}

abbrev c6 : Change
c6 = record { block = 4; offset = 0; bytes = replicate 2 40; named = 4 ∷ 2 ∷ [] }

abbrev r1 : Radio
r1 = after_create (create_granted r0.table r0.image r0.undo c6 0 hold.Hard)

L1 : Made r0 c6 0 hold.Hard
unfolding list_from in_bounds all_issued some_below soft_test all_soft has bit
L1 =
    create_row r0 r0_good c6 0 hold.Hard refl (omega arith) (none_to_join r0.table c6 refl) (lowest_free r0.table.slots 0 (omega arith) refl refl)
    (HoldOf.hard (hard_tested Board r0.table.slots 4 refl refl))

-- it goes at once: it follows nothing
L2 : Went r1 lent 4 1
unfolding list_from accepted accepted_slots patch befores is_in set_below some_below round rounds has bit
L2 = write_row r1 L1.1 4 lent (omega arith) refl 1 1 refl refl refl 0 refl

-- ---- the two power-ups

abbrev h0 : History
h0 = begun (open_granted Board 5) both undo

abbrev h1 : History
h1 = history.after_create h0 c6 (create_granted r0.table r0.image r0.undo c6 0 hold.Hard)

abbrev pub end : History
end = history.after_write h1 4 (write_granted r1.table r1.image r1.undo 4 1)

happened : Happened end
unfolding begun history.after_create history.after_write
happened =
    Happened.calls
    (Happened.calls
    (Happened.opens Board 5 (open_granted Board 5) both undo (open_row Board 5 (λ e. omega arith) (omega arith)) length_both)
    (Call.creates c6 (create_granted r0.table r0.image r0.undo c6 0 hold.Hard) L1.0))
    (Call.writes 4 lent (write_granted r1.table r1.image r1.undo 4 1) L2.0)

abbrev all_land : ℕ → Bool
all_land b = true

abbrev pub life : List PowerUp
life = power_up end all_land ∷ power_up first.end one_lands ∷ []

pub lived : Lived zeros life
unfolding store_left begun history.after_create history.after_write history.after_complete
lived =
    Lived.again end all_land
    (Lived.again first.end one_lands (Lived.begins (length-replicate {A = ℕ} image_bytes 0)) first.happened refl)
    happened (sym first.store_is)

-- ---- what the life leaves: of the first power-up the name and both notes, and the new change

abbrev landed : List Accepted
landed =
    record { number = 5; change = c6 } ∷ record { number = 4; change = c5 } ∷ record { number = 4; change = c4 } ∷ record { number = 1; change = c1 } ∷ []

pub landed_are : all_landed life ≡ landed
unfolding all_landed landed_in has_landed on_store sent_in those begun history.after_create history.after_write history.after_complete numbers_below
    list_from accepted accepted_slots joined joined_slots added patch befores is_in set_below sent sent_slots completed completed_slots landed_slots has bit
landed_are = refl

pub store_is : store_left life zeros ≡ splice both 1024 (replicate 2 40)
unfolding store_left store_after_cut on_store written those begun history.after_create history.after_write rooms
    list_from accepted accepted_slots patch befores is_in set_below changed kept splice handed_out back_down back_number taken_back sent sent_slots has bit
store_is = refl

-- and that is what question four says of it
pub carried_is : carried_out every landed zeros ≡ splice both 1024 (replicate 2 40)
carried_is =
    ap (λ (l : List Accepted). carried_out every l zeros) (sym landed_are) ∙ sym (question_four_for_life.at_any_cut zeros life lived) ∙ store_is

-- ---- names stay good, and at rest nothing is lost

onward : Onward life
unfolding begun history.after_create history.after_write history.after_complete accepted joined sent completed
onward = Onward.then {u = power_up end all_land} {v = power_up first.end one_lands} (omega arith) Onward.one

pub note_called_committed : Asks end.table 4 ask.Committed
unfolding begun history.after_create history.after_write history.after_complete accepted accepted_slots list_from patch
note_called_committed =
    (question_four_for_life.names_stay zeros (power_up end all_land) (power_up first.end one_lands ∷ []) lived onward (power_up first.end one_lands)
    (Memᴰ.head refl) (record { number = 4; change = c5 }) (Memᴰ.head refl)).0

abbrev r2 : Radio
r2 = after_write (write_granted r1.table r1.image r1.undo 4 1)

L3 : Done r2 4
unfolding list_from accepted accepted_slots patch befores is_in set_below sent sent_slots has bit
L3 = complete_row r2 L2.1 4 0 (omega arith) (omega arith) refl

abbrev asleep : History
asleep = history.after_complete end 4 (complete_granted r2.table 4)

rests : AtRest asleep
unfolding begun history.after_create history.after_write history.after_complete
    list_from accepted accepted_slots patch befores is_in set_below sent sent_slots completed completed_slots landed_slots some_below has bit
rests i l = none_at (used (completed r2.table 4).slots) slots i refl l

pub nothing_lost : store_after_cut (λ b. false) asleep ≡ asleep.image
unfolding begun history.after_create history.after_write history.after_complete
nothing_lost = (question_four_for_life.at_rest asleep (Happened.calls happened (Call.completes 4 (complete_granted r2.table 4) L3.0)) rests (λ b. false)).1

-- ---- what question four does not say: 2 was lost with the first cut, and is called committed all the same. At rest there would have been no such number

pub lost_called_committed : Asks r0.table 2 ask.Committed
lost_called_committed = old_asks r0.table r0_good.sound 2 (omega arith, omega arith)
