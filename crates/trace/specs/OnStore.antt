-- Document 02, request c: what a cut prints, said without the counters of a run: how many of the accepted changes are on the store. Run.antt has the
-- counters by which a run comes to it; this is what they come to, and it can be read without them.
use Rattle.std.specs.Prelude.{ℕ, ◌+◌, ◌≤◌, ◌≡◌, Bool, true, cond, ◌&&◌, ◌||◌, not, List, [], ◌∷◌, length}
use Rattle.masks.specs.Sets.{has, some_below}
use Rattle.rules.specs.declared.Slot.{Slot}
use Rattle.rules.specs.Sizes.{slots}
use Rattle.rules.specs.Slots.{is_in_flight}
use Rattle.rules.specs.Table.{slot_at, Committed}
use Rattle.rules.specs.Create.{is_in}
use Rattle.records.specs.Record.{Call, cuts}
use Rattle.lines.specs.declared.types.More.{More}
use Rattle.lines.specs.declared.types.More.TheVariants as more
use Rattle.tally.specs.Counts.{most_count, holds_number}
use Rattle.trace.specs.Run.{Run, Step, begun, is_in_order, Makes}
use Rattle.trace.specs.Printed.{GoesOn}

-- the notes of a run are its accepted changes, each by the number that its create was answered, newest first: a granted create's line says it
abbrev pub noted_by : More → List ℕ → List ℕ
noted_by more.Nothing ns = ns
noted_by (more.Patches k) ns = ns
noted_by (more.Patch n h) ns = n ∷ ns

-- from the first call on, each in its order
pub data Noted : Run → List ℕ → Type 0 where
  begins : Noted begun []
  and_made : {r : Run} {ns : List ℕ} {c : Call} {s : Step} → Noted r ns → is_in_order r.phase c ≡ true → Makes r c s
      → Noted s.run (noted_by s.line.more ns)

-- the number n is in no slot
abbrev pub in_no_slot : List Slot → ℕ → Bool
in_no_slot ss n = not (some_below (holds_number ss n) slots)

-- slot i is in flight on a block whose bit is set; the number n is in such a slot
abbrev pub lands_in : List Slot → ℕ → ℕ → Bool
lands_in ss bits i = is_in_flight (slot_at ss i).state && has bits (slot_at ss i).block

abbrev pub in_landing : List Slot → ℕ → ℕ → Bool
in_landing ss bits n = some_below (λ i. holds_number ss n i && lands_in ss bits i) slots

-- a noted change is on the store after a cut with these bits
abbrev pub is_on_store : Run → ℕ → ℕ → Bool
is_on_store r bits n = in_no_slot r.table.slots n || in_landing r.table.slots bits n

-- how many of the numbers pass the test p; one that is there twice counts twice
unfoldable pub how_many_of : (ℕ → Bool) → List ℕ → ℕ
how_many_of p [] = 0
how_many_of p (n ∷ ns) = cond (p n) 1 0 + how_many_of p ns

pub record CutCounts : Type 0 where
  -- what is printed of an input goes by such runs
  pub goes_on : (r : Run) (ns input : List ℕ) (c : Call) (s : Step) → Noted r ns → GoesOn r input c → Makes r c s → Noted s.run (noted_by s.line.more ns)
  -- a cut's line says how many of the accepted changes are on the store, where these are no more than a count can say
  pub printed : (r : Run) (ns : List ℕ) → Noted r ns → length ns ≤ most_count → (bits : ℕ) (s : Step) → Makes r (cuts bits) s
      → s.line.number ≡ how_many_of (is_on_store r bits) ns
  -- and those in no slot are those that have committed, in the rules' own word
  pub committed : (r : Run) (ns : List ℕ) → Noted r ns → (n : ℕ) → is_in n ns ≡ true
      → (in_no_slot r.table.slots n ≡ true → Committed r.table n) × (Committed r.table n → in_no_slot r.table.slots n ≡ true)
