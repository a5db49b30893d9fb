-- Document 02, request d: the joint call completes block x, then writes block y. It has no rule of its own: it is those two calls, each by its own
-- definition, the write on the table that the completion gave.
use Rattle.std.specs.Prelude.{ℕ, ◌≡◌, List, Option, Some, None, Result, Ok, Err}
use Rattle.rules.specs.declared.refusals.Refusal.{Refusal}
use Rattle.rules.specs.Table.{Table}
use Rattle.rules.specs.Calls.{answer_number, sent_set, Writing, Writes, Completion, Completes}

-- the second answer: none where it was not tried. The paper's refusal number, and the set of slots sent, for each of its cases
abbrev pub second_number : Option (Result ℕ Refusal) → Option ℕ
second_number (Some a) = Some (answer_number a)
second_number None = None

abbrev pub second_set : Option (Result ℕ Refusal) → ℕ
second_set (Some a) = sent_set a
second_set None = 0

pub record Joint : Type 0 where
  pub first : Result (Unit {0}) Refusal
  pub second : Option (Result ℕ Refusal)
  pub table : Table
  pub image : List ℕ
  pub undo : List ℕ
  pub block : List ℕ

-- the completion alone, and nothing is written
abbrev pub joint_stopped : Completion → List ℕ → List ℕ → List ℕ → Joint
joint_stopped c image undo block = record { first = c.answer; second = None; table = c.table; image = image; undo = undo; block = block }

-- the completion, then the write
abbrev pub joint_went : Completion → Writing → Joint
joint_went c w = record { first = c.answer; second = Some w.answer; table = w.table; image = w.image; undo = w.undo; block = w.block }

-- if completing is refused, nothing is written; else both calls are made
pub data CompletesWrites (t : Table) (image undo block : List ℕ) (x y : ℕ) (o : Joint) : Type 0 where
  stops : (c : Completion) → Completes t x c → (answer_number c.answer ≡ 0 → ⊥) → o ≡ joint_stopped c image undo block
      → CompletesWrites t image undo block x y o
  goes_on : (c : Completion) → Completes t x c → answer_number c.answer ≡ 0 → (w : Writing) → Writes c.table image undo block y w → o ≡ joint_went c w
      → CompletesWrites t image undo block x y o
