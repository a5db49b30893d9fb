-- Document 02, request d: the trace records the joint call as the calls it made. Replayed, they give its table and its answers.
use Rattle.std.specs.Prelude.{ℕ, ◌≡◌, true, List, [], ◌∷◌, length, Option, Some, None}
use Rattle.rules.specs.Sizes.{block_bytes}
use Rattle.rules.specs.Calls.{answer_number}
use Rattle.rules.specs.Joint.{Joint, CompletesWrites, second_number}
use Rattle.records.specs.Record.{Call}
use Rattle.records.specs.Writer.{calls_made}
use Rattle.trace.specs.declared.types.Phase.TheVariants as phase
use Rattle.trace.specs.Run.{Run, Step, is_in_order, Makes}

-- calls made one after the other, each in its order: the run after them, and the numbers that their lines say
pub data MakesAll : Run → List Call → Run → List ℕ → Type 0 where
  none_left : {r : Run} → MakesAll r [] r []
  and_more : {r r' : Run} {c : Call} {cs : List Call} {s : Step} {said : List ℕ} → is_in_order r.phase c ≡ true → Makes r c s → MakesAll s.run cs r' said
      → MakesAll r (c ∷ cs) r' (s.line.number ∷ said)

-- the numbers of a joint call: completing's, and write's where it was tried
abbrev pub with_second : Option ℕ → List ℕ
with_second None = []
with_second (Some k) = k ∷ []

abbrev pub numbers_of : Joint → List ℕ
numbers_of o = answer_number o.first ∷ with_second (second_number o.second)

-- what a replay comes to that is where the radio was
pub record JointReplays (r : Run) (x y : ℕ) (o : Joint) : Type 0 where
  pub run : Run
  pub made : MakesAll r (calls_made (answer_number o.first) x y) run (numbers_of o)
  pub table : run.table ≡ o.table
  pub image : run.image ≡ o.image
  pub undo : run.undo ≡ o.undo

pub record JointReplayed : Type 0 where
  -- whatever the block of 256 bytes held that the radio lent
  pub replays : (r : Run) (x y : ℕ) (lent : List ℕ) (o : Joint) → r.phase ≡ phase.Opened → length lent ≡ block_bytes
      → CompletesWrites r.table r.image r.undo lent x y o → JointReplays r x y o
