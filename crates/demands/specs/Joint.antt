-- Document 02, request d: demand 1 takes the joint call as two calls. So a history needs no further call for it: what a witness beside the radio writes down
-- of a joint call, by its two answers, is what he would have written down of the calls that it made.
use Rattle.std.specs.Prelude.{ℕ, ◌≡◌, List, Option, Some, None, Result}
use Rattle.rules.specs.declared.refusals.Refusal.{Refusal}
use Rattle.rules.specs.declared.Slot.{Slot}
use Rattle.rules.specs.Calls.{answer_number, Writing, Writes, Completion, Completes}
use Rattle.rules.specs.Joint.{Joint, CompletesWrites}
use Rattle.demands.specs.History.{Sent, History, sent_by, still_out, now_landed, after_write, after_complete, Happened}
use Rattle.demands.specs.Demand3.{Later}

-- a write that went out is on its way; the numbers are read off the table that is left, as nobody saw the one between the two calls
abbrev pub sent_by_second : Option (Result ℕ Refusal) → List Slot → ℕ → List ℕ → List Sent → List Sent
sent_by_second (Some a) ss b bytes older = sent_by a ss b bytes older
sent_by_second None ss b bytes older = older

unfoldable pub after_joint : History → ℕ → ℕ → Joint → History
after_joint h x y o = record {
  table = o.table;
  image = o.image;
  undo = o.undo;
  opening = h.opening;
  accepted = h.accepted;
  in_flight = sent_by_second o.second o.table.slots y o.block (still_out o.first x h.in_flight);
  landed = now_landed o.first x h.in_flight h.landed;
}

-- the history after the calls that a joint call makes: a refused completion; or a granted one, and the write on what it gave
pub data CallsMade (h : History) (x y : ℕ) (lent : List ℕ) : History → Type 0 where
  completion : (c : Completion) → Completes h.table x c → (answer_number c.answer ≡ 0 → ⊥) → CallsMade h x y lent (after_complete h x c)
  both : (c : Completion) → Completes h.table x c → answer_number c.answer ≡ 0 → (w : Writing) → Writes c.table h.image h.undo lent y w
      → CallsMade h x y lent (after_write (after_complete h x c) y w)

pub record JointIsCalls : Type 0 where
  pub is_calls : (h : History) (x y : ℕ) (lent : List ℕ) (o : Joint) → CompletesWrites h.table h.image h.undo lent x y o
      → CallsMade h x y lent (after_joint h x y o)
  -- so what is shown of every history is shown of those in which joint calls were made
  pub happens : (h : History) → Happened h → (x y : ℕ) (lent : List ℕ) (o : Joint) → CompletesWrites h.table h.image h.undo lent x y o
      → Happened (after_joint h x y o)
  -- and of what comes later
  pub later : (h : History) (x y : ℕ) (lent : List ℕ) (o : Joint) → CompletesWrites h.table h.image h.undo lent x y o → Later h (after_joint h x y o)
