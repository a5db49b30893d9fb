-- The code's Kept as the definitions have it, field for field; and what a step promises.
use Rattle.std.specs.Prelude.{ℕ, ◌≡◌, Bool, true, false, List, length}
use Rattle.spans.specs.Spans.{splice}
use Rattle.cache.specs.Seen.{seen}
use Rattle.lines.specs.Line.{text_of}
use Rattle.lines.specs.declared.types.Word.{Word}
use Rattle.lines.specs.declared.types.Word.TheVariants as word
use Rattle.trace.specs.declared.types.Kept.{Kept}
use Rattle.trace.specs.declared.types.Stepped.{Stepped}
use Rattle.trace.specs.Run.{Run, Step, Steps}

-- with the working image and the undo area
abbrev pub run_of : Kept → List ℕ → List ℕ → Run
run_of k image undo = record {
  phase = k.phase;
  place = k.place;
  table = seen k.table;
  image = image;
  undo = undo;
  changes = k.changes;
  committed = k.committed;
}

-- whether a line is that of a bad record
abbrev pub is_bad : Word → Bool
is_bad word.Open = false
is_bad word.Create = false
is_bad word.Write = false
is_bad word.Complete = false
is_bad word.Cut = false
is_bad word.Bad = true

-- what a step leaves: what is kept, the image and the undo area, and the line with how many bytes it has; the line's text is laid over the lent bytes
pub record StepCall (r : Run) (bytes was : List ℕ) (o : Stepped) (image undo line : List ℕ) : Type 0 where
  pub step : Step
  pub steps : Steps r bytes step
  pub kept : run_of o.kept image undo ≡ step.run
  pub text : line ≡ splice was 0 (text_of step.line)
  pub long : o.length ≡ length (text_of step.line)
  pub bad : o.bad ≡ is_bad step.line.word
