-- The whole text for the whole input.
use Rattle.std.specs.Prelude.{ℕ, ◌≡◌, List, [], ◌++◌}
use Rattle.lines.specs.Line.{text_of}
use Rattle.records.specs.Record.{Call}
use Rattle.trace.specs.declared.types.Phase.TheVariants as phase
use Rattle.trace.specs.Run.{Run, Step, begun, Makes, Good, after_bad}

-- nothing is left, and the first record, open, has come
pub record Ended (r : Run) (input : List ℕ) : Type 0 where
  pub all_read : input ≡ []
  pub some_came : r.phase ≡ phase.Unopened → ⊥

-- the input goes on with the record of a call that fits, in its order
pub record GoesOn (r : Run) (input : List ℕ) (c : Call) : Type 0 where
  pub bytes : List ℕ
  pub rest : List ℕ
  pub whole : input ≡ bytes ++ rest
  pub good : Good r bytes c

-- what is printed of the input from where the run is: a line for each record; where the input has not ended and does not go on, one line more, and no other
pub data Prints : Run → List ℕ → List ℕ → Type 0 where
  ends : {r : Run} {input : List ℕ} → Ended r input → Prints r input []
  goes_on : {r : Run} {input : List ℕ} {c : Call} {s : Step} {text : List ℕ} (g : GoesOn r input c) → Makes r c s → Prints s.run g.rest text
      → Prints r input (text_of s.line ++ text)
  stops : {r : Run} {input : List ℕ} → (Ended r input → ⊥) → ((c : Call) → GoesOn r input c → ⊥) → Prints r input (text_of (after_bad r).line)

-- what is printed of a whole input
abbrev pub Printed : List ℕ → List ℕ → Type 0
Printed input text = Prints begun input text
