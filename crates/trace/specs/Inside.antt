-- Inside this crate, need not be believed: what its private functions promise each other. No public promise cites this file.
use Rattle.std.specs.Prelude.{ℕ, ◌≡◌, Bool, List}
use Rattle.spans.specs.Spans.{part}
use Rattle.rules.specs.Table.{Table}
use Rattle.rules.specs.Create.{change_of}
use Rattle.rules.specs.Calls.{Creates}
use Rattle.cache.specs.declared.types.Table as code
use Rattle.rules.specs.declared.Created.{Created}
use Rattle.cache.specs.declared.types.Answered.{Answered}
use Rattle.cache.specs.Seen.{creation}
use Rattle.records.specs.declared.types.Head.{Head}
use Rattle.records.specs.declared.types.Found.{Found}
use Rattle.records.specs.Record.{Call}
use Rattle.records.specs.Reader.{numbers_at, numbers_start, data_start, call_in}
use Rattle.lines.specs.declared.types.Word.{Word}
use Rattle.lines.specs.declared.types.More.{More}
use Rattle.trace.specs.declared.types.Phase.{Phase}
use Rattle.trace.specs.declared.types.Kept.{Kept}
use Rattle.trace.specs.declared.types.Made.{Made}
use Rattle.tally.specs.Counts.{plus}
use Rattle.trace.specs.Run.{Step, Makes, is_open, is_in_order, after_bad}
use Rattle.trace.specs.Seen.{run_of}

-- what every call of a record ends with: the next place, and the line of the place that is past
abbrev pub told : Kept → Word → ℕ → More → Made
told k w n m = record {
  kept = record { phase = k.phase; place = plus k.place 1; table = k.table; changes = k.changes; committed = k.committed };
  line = record { place = k.place; word = w; number = n; more = m };
}

-- what is kept, once a call has been made of it
abbrev pub kept_with : Kept → Phase → code.Table → List ℕ → ℕ → Kept
kept_with k p t changes committed = record { phase = p; place = k.place; table = t; changes = changes; committed = committed }

-- a record's call made, with the working image and the undo area
abbrev pub step_of : Made → List ℕ → List ℕ → Step
step_of m image undo = record { run = run_of m.kept image undo; line = m.line }

-- the call made, whatever the image and the undo area hold: it touches neither
abbrev pub MakesAlone : Kept → Call → Made → Type 0
MakesAlone k c m = (image undo : List ℕ) → Makes (run_of k image undo) c (step_of m image undo)

-- the create whose record the bytes are, on the table
abbrev pub CreatedBy : Table → List ℕ → List ℕ → List ℕ → Head → Answered Created → List ℕ → List ℕ → Type 0
CreatedBy t image undo bytes h r image' undo' =
    Creates t image undo
    (change_of h.block h.offset (part bytes (data_start h.names) h.bytes) (numbers_at bytes numbers_start h.names))
    (creation r image' undo')

-- whether what was found is an open, whatever numbers and data its bytes have
abbrev pub IsOpen : Found → Bool → Type 0
IsOpen f b = (bytes : List ℕ) → b ≡ is_open (call_in bytes f)

-- whether what was found comes in its order, whatever numbers and data its bytes have
abbrev pub InOrder : Phase → Found → Bool → Type 0
InOrder p f b = (bytes : List ℕ) → b ≡ is_in_order p (call_in bytes f)

-- the line of a bad record, whatever the image and the undo area hold
abbrev pub MadeBad : Kept → Made → Type 0
MadeBad k m = (image undo : List ℕ) → step_of m image undo ≡ after_bad (run_of k image undo)
