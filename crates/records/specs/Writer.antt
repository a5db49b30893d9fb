-- What the writer's functions promise: the length of the call's record and every byte of the lent buffer afterwards, granted and refused alike.
use Rattle.std.specs.Prelude.{ℕ, ◌≡◌, cond, List, [], ◌∷◌, eqb, length, Result, Ok, Err}
use Rattle.spans.specs.Spans.{splice}
use Rattle.rules.specs.declared.refusals.Refusal.{Refusal}
use Rattle.rules.specs.Refusals.{Case, case, WrongSize}
use Rattle.rules.specs.Calls.{Outcome, answer_number}
use Rattle.records.specs.Record.{Call, writes, completes, record_of, record_bytes, Fits, AllFit, trace_of}

-- the record's length, for each case of the answer
abbrev pub record_length : Result ℕ Refusal → ℕ
record_length (Ok n) = n
record_length (Err r) = 0

-- what a function of the writer leaves: its answer and the lent buffer
pub record Recording : Type 0 where
  pub answer : Result ℕ Refusal
  pub buffer : List ℕ

abbrev pub recording : Result ℕ Refusal → List ℕ → Recording
recording a buffer = record { answer = a; buffer = buffer }

-- 1: the lent buffer has not its exact size, 1,203 bytes; 16: what was called fits no record
abbrev pub cases_of : List ℕ → Type 0 → List Case
cases_of buffer Fit = case 1 (WrongSize record_bytes buffer) ∷ case 16 (Fit → ⊥) ∷ []

abbrev pub record_refused : List ℕ → Refusal → Recording
record_refused buffer r = recording (Err r) buffer

-- bytes are laid over the buffer's first, and the others stay
abbrev pub record_laid : List ℕ → List ℕ → Recording
record_laid buffer bytes = recording (Ok (length bytes)) (splice buffer 0 bytes)

abbrev pub RecordsBytes : List ℕ → Type 0 → List ℕ → Recording → Type 0
RecordsBytes buffer Fit bytes = Outcome (cases_of buffer Fit) (λ o. answer_number o.answer) (record_refused buffer) (λ o. o ≡ record_laid buffer bytes)

-- one call: its record
abbrev pub Records : List ℕ → Call → Recording → Type 0
Records buffer c = RecordsBytes buffer (Fits c) (record_of c)

-- the joint call (document 02, request d), by the number that completing block x answered: the calls that it made, which are the completion alone where that
-- was refused, and else the write of block y after it; their records end to end
abbrev pub calls_made : ℕ → ℕ → ℕ → List Call
calls_made first x y = completes x ∷ cond (eqb first 0) (writes y ∷ []) []

abbrev pub JointRecords : List ℕ → ℕ → ℕ → ℕ → Recording → Type 0
JointRecords buffer x y first = RecordsBytes buffer (AllFit (calls_made first x y)) (trace_of (calls_made first x y))
