-- How a program goes through an input by steps, and what is shown of it: the lines, end to end, are what is printed of the input.
use Rattle.std.specs.Prelude.{ℕ, ◌≡◌, true, false, List, [], ◌++◌}
use Rattle.records.specs.declared.types.Found.{Found}
use Rattle.records.specs.declared.types.Next.TheVariants as next
use Rattle.records.specs.Record.{AllIn}
use Rattle.records.specs.Reader.{next_in, only_in}
use Rattle.lines.specs.Line.{text_of}
use Rattle.trace.specs.Run.{Run, Step, begun, Steps}
use Rattle.trace.specs.Printed.{Ended, Printed}
use Rattle.trace.specs.Seen.{is_bad}

-- the bytes that are taken up before a step, with these still to come: a record and no more; such as no record begins with; or all that is left
pub data TakenUp : List ℕ → List ℕ → Type 0 where
  whole : {bytes rest : List ℕ} {f : Found} → only_in bytes ≡ next.Record f → TakenUp bytes rest
  bad : {bytes rest : List ℕ} → next_in bytes ≡ next.Bad → TakenUp bytes rest
  early : {bytes : List ℕ} {k : ℕ} → next_in bytes ≡ next.NoneYet k → TakenUp bytes []

-- by steps through the input: to its end, or to the first bad one
pub data Replays : Run → List ℕ → List ℕ → Type 0 where
  ends : {r : Run} {input : List ℕ} → Ended r input → Replays r input []
  goes_on : {r : Run} {bytes rest text : List ℕ} {s : Step} → Steps r bytes s → is_bad s.line.word ≡ false → Replays s.run rest text
      → Replays r (bytes ++ rest) (text_of s.line ++ text)
  stops : {r : Run} {bytes rest : List ℕ} {s : Step} → (Ended r (bytes ++ rest) → ⊥) → TakenUp bytes rest → Steps r bytes s → is_bad s.line.word ≡ true
      → Replays r (bytes ++ rest) (text_of s.line)

pub record LinesArePrinted : Type 0 where
  -- the lines, end to end, are printed of the input, for every input of bytes
  pub printed : (input text : List ℕ) → AllIn 1 input → Replays begun input text → Printed input text
  -- and nothing else is
  pub one : (input text other : List ℕ) → Printed input text → Printed input other → text ≡ other
