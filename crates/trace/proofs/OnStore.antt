-- A CUT PRINTS HOW MANY ACCEPTED CHANGES ARE ON THE STORE: those whose number has committed, and those in flight on a block whose bit is set.
-- Assumes nothing.
use Prim.Native.Nat.{ℕ, ◌≤◌, ◌<◌}
use mathlib.Core.Path.{◌≡◌, ap, ◌∙◌}
use mathlib.Core.Bool.{Bool, true, false, not, ◌&&◌, ◌||◌}
use mathlib.Core.List.{List}
use mathlib.Core.Logic.{◌⊎◌, inl, inr}
use borrow.Author.Tests.{eq-eqb, eqb-true, not-true}
use lib.ListN.{length}
use Rattle.masks.proofs.Laws.{has_set, some_at, at_none}
use Rattle.ground.proofs.Decided.{clash, and-true, true_and, true_or_false}
use Rattle.rules.specs.Sizes.{slots}
use Rattle.rules.specs.Table.{Table, slot_at, InSlot, Committed}
use Rattle.rules.specs.Create.{is_in}
use Rattle.records.specs.Record.{cuts}
use Rattle.tally.specs.Counts.{most_count, holds_number, cut_landing}
use Rattle.trace.specs.Run.{Run, Step, Makes, makes_cut, on_store}
use Rattle.trace.specs.OnStore.{lands_in, in_no_slot, in_landing, is_on_store, how_many_of, CutCounts, and_made}
use Rattle.trace.proofs.HowMany.{many_same}
use Rattle.trace.proofs.Counted.{within, some_same, joint}
use Rattle.trace.proofs.Holds.{single}
use Rattle.trace.proofs.Told.{Told, noted_told}

-- the set of the slots that land has those that do
landing_same : (t : Table) (bits n : ℕ) → within (holds_number t.slots) (cut_landing t.slots bits) n ≡ in_landing t.slots bits n
landing_same t bits n =
    some_same _ (λ i. holds_number t.slots n i && lands_in t.slots bits i)
    (λ i l. ap (λ (x : Bool). holds_number t.slots n i && x) (has_set (lands_in t.slots bits) i l))

counts_notes : {r : Run} {ns : List ℕ} → Told r ns → length ns ≤ most_count → (bits : ℕ) → on_store r bits ≡ how_many_of (is_on_store r bits) ns
counts_notes {r} {ns} told few bits =
    joint (holds_number r.table.slots) (single r.table told.sound) (cut_landing r.table.slots bits) few (told.counted few)
    ∙ many_same _ (is_on_store r bits) ns (λ n e. ap (λ (x : Bool). in_no_slot r.table.slots n || x) (landing_same r.table bits n))

printed : {r : Run} {ns : List ℕ} {bits : ℕ} {s : Step} → Told r ns → length ns ≤ most_count → Makes r (cuts bits) s
    → s.line.number ≡ how_many_of (is_on_store r bits) ns
printed {bits = bits} told few makes_cut = counts_notes told few bits

-- the number of a patch is in a slot just where the slot holds it
in_slot : (t : Table) (n i : ℕ) → InSlot t n i → holds_number t.slots n i ≡ true
in_slot t n i p = true_and p.1 (eq-eqb (slot_at t.slots i).number n p.2)

slot-in : (t : Table) (n i : ℕ) → i < slots → holds_number t.slots n i ≡ true → InSlot t n i
slot-in t n i l e = let p = and-true _ _ e in (l, p.0, eqb-true _ n p.1)

is_committed : {r : Run} {ns : List ℕ} → Told r ns → (n : ℕ) → is_in n ns ≡ true → in_no_slot r.table.slots n ≡ true → Committed r.table n
is_committed {r} told n e f =
    (told.issued n e, λ i p. clash (some_at (holds_number r.table.slots n) slots i p.0 (in_slot r.table n i p)) (not-true _ f))

committed_is : (t : Table) (n : ℕ) → Committed t n → in_no_slot t.slots n ≡ true
committed_is t n c =
    ap not (at_none (holds_number t.slots n) slots (λ i l. not_held i l (true_or_false (holds_number t.slots n i))))
  where
    not_held : (i : ℕ) → i < slots → (holds_number t.slots n i ≡ true) ⊎ (holds_number t.slots n i ≡ false) → holds_number t.slots n i ≡ false
    not_held i l (inl e) = absurd (c.1 i (slot-in t n i l e))
    not_held i l (inr e) = e

pub cut_counts : CutCounts
cut_counts = record {
  goes_on = λ r ns input c s k g m. and_made k g.good.in_order m;
  printed = λ r ns k few bits s m. printed (noted_told k) few m;
  committed = λ r ns k n e. (is_committed (noted_told k) n e, committed_is r.table n);
}
