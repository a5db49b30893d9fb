-- Each call whole: its answer, the next table and every lent byte, granted and refused alike. These are what the promises of `cache` cite.
use Rattle.std.specs.Prelude.{ℕ, ◌≡◌, List, Result, Ok, Err}
use Rattle.std.proofs.Math.Option.{Option, none, some}
use Rattle.rules.specs.declared.Setting.{Setting}
use Rattle.rules.specs.declared.Hold.{Hold}
use Rattle.rules.specs.declared.Hold.TheVariants as hold
use Rattle.rules.specs.declared.Created.{Created}
use Rattle.rules.specs.declared.AskAnswer.{AskAnswer}
use Rattle.rules.specs.declared.AskAnswer.TheVariants as ask
use Rattle.rules.specs.declared.refusals.Refusal.{Refusal}
use Rattle.rules.specs.Sizes.{slots}
use Rattle.rules.specs.Table.{Table, slot_at}
use Rattle.rules.specs.Open.{opened}
use Rattle.masks.specs.Lowest.{Lowest}
use Rattle.rules.specs.Create.{Change, FreeSlot, HoldOf, Joins, LowestNumbered, accepted, joined, changed, kept}
use Rattle.rules.specs.Write.{Largest, handed_out, sent}
use Rattle.rules.specs.Complete.{completed}
use Rattle.rules.specs.Ask.{ask_word, Asked}
use Rattle.rules.specs.Count.{waiting_on}
use Rattle.rules.specs.Refusals.{number_of, Case, First, TakesSlot, open_cases, create_cases, write_cases, complete_cases, ask_cases, count_cases}

-- the paper's number for each case of an answer: 0 where the call is granted
abbrev pub answer_number : {A : Type 0} → Result A Refusal → ℕ
answer_number (Ok a) = 0
answer_number (Err r) = number_of r

-- An outcome o of a call: its refusal number is the first that holds among the call's cases; refused, the outcome is all as it came, with the
-- refusal of that number; granted, it is what the call does.
pub record Outcome {O : Type 0} (cases : List Case) (number : O → ℕ) (refused : Refusal → O) (Granted : O → Type 0) (o : O) : Type 0 where
  pub first : First cases (number o)
  pub refusal : (number o ≡ 0 → ⊥) → (r : Refusal) × (number_of r ≡ number o) × (o ≡ refused r)
  pub grant : number o ≡ 0 → Granted o

-- OPEN
pub record Opening : Type 0 where
  pub answer : Result (Unit {0}) Refusal
  pub table : Table

abbrev pub open_refused : Setting → Refusal → Opening
open_refused g r = record { answer = Err r; table = opened g 1 }

abbrev pub open_granted : Setting → ℕ → Opening
open_granted g n = record { answer = Ok tt; table = opened g n }

abbrev pub Opens : Setting → ℕ → Opening → Type 0
Opens g n = Outcome (open_cases n) (λ o. answer_number o.answer) (open_refused g) (λ o. o ≡ open_granted g n)

-- CREATE. The patch's number, and hard or soft, for each case of its answer
abbrev pub patch_number : Result Created Refusal → ℕ
patch_number (Ok a) = a.number
patch_number (Err r) = 0

abbrev pub hard_or_soft : Result Created Refusal → Option Hold
hard_or_soft (Ok a) = some a.hold
hard_or_soft (Err r) = none

pub record Creation : Type 0 where
  pub answer : Result Created Refusal
  pub table : Table
  pub image : List ℕ
  pub undo : List ℕ

abbrev pub create_refused : Table → List ℕ → List ℕ → Refusal → Creation
create_refused t image undo r = record { answer = Err r; table = t; image = image; undo = undo }

abbrev pub create_granted : Table → List ℕ → List ℕ → Change → ℕ → Hold → Creation
create_granted t image undo c j h = record {
  answer = Ok (record { number = t.next; hold = h });
  table = accepted t c j h;
  image = changed image c;
  undo = kept undo image c h;
}

abbrev pub create_joined : Table → List ℕ → List ℕ → Change → ℕ → Creation
create_joined t image undo c j = record {
  answer = Ok (record { number = (slot_at t.slots j).number; hold = hold.Hard });
  table = joined t c j;
  image = changed image c;
  undo = undo;
}

-- the new patch gets the lowest free slot and the number next; the answer gives the number and says hard or soft
pub record Takes (t : Table) (image undo : List ℕ) (c : Change) (o : Creation) : Type 0 where
  pub slot : ℕ
  pub hold : Hold
  pub lowest : Lowest slots (FreeSlot t.slots) slot
  pub hard-or-soft : HoldOf t.setting t.slots c.block hold
  pub number : patch_number o.answer ≡ t.next
  pub says : hard_or_soft o.answer ≡ some hold
  pub whole : o ≡ create_granted t image undo c slot hold

-- the change joins the lowest-numbered waiting patch of its block; the answer is that patch's number, and hard
pub record JoinsOne (t : Table) (image undo : List ℕ) (c : Change) (o : Creation) : Type 0 where
  pub slot : ℕ
  pub lowest : LowestNumbered t.slots c.block slot
  pub number : patch_number o.answer ≡ (slot_at t.slots slot).number
  pub says : hard_or_soft o.answer ≡ some hold.Hard
  pub whole : o ≡ create_joined t image undo c slot

-- a change takes a slot of its own, unless it joins
pub data Accepts (t : Table) (image undo : List ℕ) (c : Change) (o : Creation) : Type 0 where
  takes : TakesSlot t c → Takes t image undo c o → Accepts t image undo c o
  joins : Joins t.setting t.slots c.block → JoinsOne t image undo c o → Accepts t image undo c o

abbrev pub Creates : Table → List ℕ → List ℕ → Change → Creation → Type 0
Creates t image undo c = Outcome (create_cases t image undo c) (λ o. answer_number o.answer) (create_refused t image undo) (Accepts t image undo c)

-- WRITE. The set of slots sent, for each case of its answer
abbrev pub sent_set : Result ℕ Refusal → ℕ
sent_set (Ok s) = s
sent_set (Err r) = 0

pub record Writing : Type 0 where
  pub answer : Result ℕ Refusal
  pub table : Table
  pub image : List ℕ
  pub undo : List ℕ
  pub block : List ℕ

abbrev pub write_refused : Table → List ℕ → List ℕ → List ℕ → Refusal → Writing
write_refused t image undo block r = record { answer = Err r; table = t; image = image; undo = undo; block = block }

abbrev pub write_granted : Table → List ℕ → List ℕ → ℕ → ℕ → Writing
write_granted t image undo b s = record {
  answer = Ok s;
  table = sent t s;
  image = image;
  undo = undo;
  block = handed_out t b s image undo;
}

-- the largest set that may go, goes, and is the answer
pub record Sends (t : Table) (image undo : List ℕ) (b : ℕ) (o : Writing) : Type 0 where
  pub largest : Largest t.slots b (sent_set o.answer)
  pub whole : o ≡ write_granted t image undo b (sent_set o.answer)

abbrev pub Writes : Table → List ℕ → List ℕ → List ℕ → ℕ → Writing → Type 0
Writes t image undo block b =
    Outcome (write_cases t image undo block b) (λ o. answer_number o.answer) (write_refused t image undo block) (Sends t image undo b)

-- COMPLETE
pub record Completion : Type 0 where
  pub answer : Result (Unit {0}) Refusal
  pub table : Table

abbrev pub complete_refused : Table → Refusal → Completion
complete_refused t r = record { answer = Err r; table = t }

abbrev pub complete_granted : Table → ℕ → Completion
complete_granted t b = record { answer = Ok tt; table = completed t b }

abbrev pub Completes : Table → ℕ → Completion → Type 0
Completes t b = Outcome (complete_cases t b) (λ o. answer_number o.answer) (complete_refused t) (λ o. o ≡ complete_granted t b)

-- ASK. The paper's number for each case of its answer; the three words are in Ask.antt
abbrev pub ask_number : AskAnswer → ℕ
ask_number ask.Waiting = 0
ask_number ask.InFlight = 0
ask_number ask.Committed = 0
ask_number (ask.Refused r) = number_of r

abbrev pub Asks : Table → ℕ → AskAnswer → Type 0
Asks t n = Outcome (ask_cases t n) ask_number ask.Refused (λ a. Asked t n (ask_word a))

-- COUNT. The count, for each case of its answer
abbrev pub counted : Result ℕ Refusal → ℕ
counted (Ok n) = n
counted (Err r) = 0

-- the number of the block's waiting patches is the answer
pub record CountsWaiting (t : Table) (b : ℕ) (a : Result ℕ Refusal) : Type 0 where
  pub says : counted a ≡ waiting_on t.slots b
  pub whole : a ≡ Ok (counted a)

abbrev pub Counts : Table → ℕ → Result ℕ Refusal → Type 0
Counts t b = Outcome (count_cases t b) answer_number Err (CountsWaiting t b)
