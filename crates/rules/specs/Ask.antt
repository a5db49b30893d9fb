-- Document 01, "Ask".
use Rattle.std.specs.Prelude.{ℕ, ◌≡◌, true}
use Rattle.rules.specs.declared.AskAnswer.{AskAnswer}
use Rattle.rules.specs.declared.AskAnswer.TheVariants as answer
use Rattle.rules.specs.Slots.{is_waiting, is_in_flight}
use Rattle.rules.specs.Table.{Table, slot_at, InSlot, Committed}

-- a number for each of the three words, for each case of the answer; a refusal has no word
abbrev pub ask_word : AskAnswer → ℕ
ask_word answer.Waiting = 1
ask_word answer.InFlight = 2
ask_word answer.Committed = 3
ask_word (answer.Refused r) = 0

-- what a word says of an issued number
pub data Asked (t : Table) (n word : ℕ) : Type 0 where
  waiting : word ≡ 1 → (i : ℕ) → InSlot t n i → is_waiting (slot_at t.slots i).state ≡ true → Asked t n word
  in_flight : word ≡ 2 → (i : ℕ) → InSlot t n i → is_in_flight (slot_at t.slots i).state ≡ true → Asked t n word
  committed : word ≡ 3 → Committed t n → Asked t n word
