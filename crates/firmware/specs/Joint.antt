-- Document 02, request d: a run takes the library's joint call as the calls that it made, so it needs no further call for it.
use Rattle.std.specs.Prelude.{ℕ, ◌≡◌, cond, List, ◌∷◌, eqb}
use Rattle.rules.specs.Sizes.{slots}
use Rattle.demands.specs.History.{Sent, numbers_below}
use Rattle.layout.specs.Layout.{table_in}
use Rattle.board.specs.Calls.{WriteEnd, WriteCall, CompleteCall, JointEnd, JointCall}
use Rattle.firmware.specs.Run.{Run, run_write, run_complete, HasRun, RunsOn}

-- the notes of a joint call, by the numbers that it gives: those of the completion, and with a second answer of 0 one more write is on its way; its numbers are
-- read off the bytes that are left, as nobody saw those between the two calls
abbrev pub sent_by_second : ℕ → JointEnd → List Sent → List Sent
sent_by_second y e older =
    cond (eqb e.second 0) (record { block = y; bytes = e.handed; numbers = numbers_below (table_in e.table).slots e.set slots } ∷ older) older

abbrev pub run_joint : Run → ℕ → ℕ → JointEnd → Run
run_joint r x y e = let completed = run_complete r x e.first e.table in record {
  bytes = e.table;
  image = e.image;
  undo = e.undo;
  opening = r.opening;
  accepted = r.accepted;
  in_flight = sent_by_second y e completed.in_flight;
  landed = completed.landed;
}

-- the run after the calls that a joint call makes: a refused completion; or a granted one, and the write on the bytes that it left
pub data CallsMade (r : Run) (x y : ℕ) (lent : List ℕ) : Run → Type 0 where
  completion : (k : ℕ) → CompleteCall r.bytes x k r.bytes → (k ≡ 0 → ⊥) → CallsMade r x y lent (run_complete r x k r.bytes)
  both : (between : List ℕ) → CompleteCall r.bytes x 0 between → (w : WriteEnd) → WriteCall between r.image r.undo lent y w
      → CallsMade r x y lent (run_write (run_complete r x 0 between) y w)

pub record JointIsCalls : Type 0 where
  pub is_calls : (r : Run) → HasRun r → (x y : ℕ) (lent : List ℕ) (e : JointEnd) → JointCall r.bytes r.image r.undo lent x y e
      → CallsMade r x y lent (run_joint r x y e)
  -- so what is shown of every run is shown of those in which joint calls were made
  pub runs : (r : Run) → HasRun r → (x y : ℕ) (lent : List ℕ) (e : JointEnd) → JointCall r.bytes r.image r.undo lent x y e
      → HasRun (run_joint r x y e)
  -- and of what comes later
  pub runs_on : (r : Run) → HasRun r → (x y : ℕ) (lent : List ℕ) (e : JointEnd) → JointCall r.bytes r.image r.undo lent x y e
      → RunsOn r (run_joint r x y e)
