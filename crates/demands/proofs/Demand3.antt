-- DEMAND 3. Only states and cites.
use Prim.Native.Nat.{ℕ}
use mathlib.Core.Bool.{Bool}
use mathlib.Core.List.{Memᴰ}
use Rattle.rules.specs.declared.AskAnswer.TheVariants as ask
use Rattle.rules.specs.Calls.{Asks}
use Rattle.demands.specs.History.{History, Accepted, Happened}
use Rattle.demands.specs.Demand3.{CutSafe, NotesTrue, ForGood}
use Rattle.demands.proofs.Histories.{happened_good}
use Rattle.demands.proofs.Safe.{good_safe}
use Rattle.demands.proofs.Besides.{change_landed, good_notes}
use Rattle.demands.proofs.Later.{landed_for_good}

-- From one opening with the image equal to the store, after any calls in any order and a cut at any point, the store holds the opening with the changes of the
-- landed writes carried out singly in accepted order, and every change that one of them asked to have before it, straight or through others, is among them.
pub demand_3 : {h : History} → Happened h → (new : ℕ → Bool) → CutSafe h new
demand_3 {h} w new = good_safe h (happened_good w) new

-- Beside it: every number issued since the opening is an accepted change's, and every named one an old one or an earlier change's; every number sent is that
-- of an accepted change, with all its changes of its block, and is sent once; a granted write finds nothing in flight to its block; and what ask calls
-- waiting or in flight is unsent or out by the notes, and what it calls committed is old or landed, with all its changes. So demand 3 is not met by forgetting.
pub notes_true : {h : History} → Happened h → NotesTrue h
notes_true {h} w = good_notes h (happened_good w)

-- And what ask has called committed is on the store for good: after any further calls and any cut.
pub committed_stays : {h : History} → Happened h → (a : Accepted) → Memᴰ a h.accepted → Asks h.table a.number ask.Committed → ForGood h a
committed_stays {h} w a m p = landed_for_good h a m (change_landed h (happened_good w) a m p)
