-- A history: an opening, and then any calls with any arguments, each on the table that the last one returned.
-- It keeps what a witness beside the radio would write down: the changes accepted, and for each granted write its block, the bytes handed out and the
-- numbers that it sent. What has landed is read off these notes, never off the table.
use Rattle.std.specs.Prelude.{ℕ, zero, suc, ◌≡◌, Bool, cond, not, List, [], ◌∷◌, ◌++◌, eqb, length, Result, Ok, Err}
use Rattle.masks.specs.Sets.{has}
use Rattle.rules.specs.declared.Setting.{Setting}
use Rattle.rules.specs.declared.Created.{Created}
use Rattle.rules.specs.declared.refusals.Refusal.{Refusal}
use Rattle.rules.specs.declared.AskAnswer.{AskAnswer}
use Rattle.rules.specs.declared.Slot.{Slot}
use Rattle.rules.specs.Sizes.{slots, image_bytes}
use Rattle.rules.specs.Table.{Table, slot_at}
use Rattle.rules.specs.Create.{Change}
use Rattle.rules.specs.Calls.{Opening, Opens, Creation, Creates, Writing, Writes, Completion, Completes, Asks, Counts}

-- an accepted change, with the number that it was answered
pub record Accepted : Type 0 where
  pub number : ℕ
  pub change : Change

-- a granted write: its block, the bytes handed out, and the numbers it sent
pub record Sent : Type 0 where
  pub block : ℕ
  pub bytes : List ℕ
  pub numbers : List ℕ

pub record History : Type 0 where
  -- what the caller has between two calls
  pub table : Table
  pub image : List ℕ
  pub undo : List ℕ
  -- what the store held at the opening
  pub opening : List ℕ
  -- the accepted changes, newest first
  pub accepted : List Accepted
  -- the granted writes whose completion has not been told, newest first
  pub in_flight : List Sent
  -- and those whose completion has: their bytes are on the store
  pub landed : List Sent

-- opened over a store that holds these bytes, the working image filled from it, the undo area as it may be
unfoldable pub begun : Opening → List ℕ → List ℕ → History
begun o store undo = record { table = o.table; image = store; undo = undo; opening = store; accepted = []; in_flight = []; landed = [] }

-- a granted create is one more accepted change
abbrev pub accepted_by : Result Created Refusal → Change → List Accepted → List Accepted
accepted_by (Ok a) c older = record { number = a.number; change = c } ∷ older
accepted_by (Err r) c older = older

unfoldable pub after_create : History → Change → Creation → History
after_create h c o = record {
  table = o.table;
  image = o.image;
  undo = o.undo;
  opening = h.opening;
  accepted = accepted_by o.answer c h.accepted;
  in_flight = h.in_flight;
  landed = h.landed;
}

-- the numbers in the slots of the set s, of those below n
unfoldable pub numbers_below : List Slot → ℕ → ℕ → List ℕ
numbers_below ss s zero = []
numbers_below ss s (suc n) = let rest = numbers_below ss s n in cond (has s n) ((slot_at ss n).number ∷ rest) rest

-- a granted write is on its way
abbrev pub sent_by : Result ℕ Refusal → List Slot → ℕ → List ℕ → List Sent → List Sent
sent_by (Ok s) ss b bytes older = record { block = b; bytes = bytes; numbers = numbers_below ss s slots } ∷ older
sent_by (Err r) ss b bytes older = older

unfoldable pub after_write : History → ℕ → Writing → History
after_write h b o = record {
  table = o.table;
  image = o.image;
  undo = o.undo;
  opening = h.opening;
  accepted = h.accepted;
  in_flight = sent_by o.answer h.table.slots b o.block h.in_flight;
  landed = h.landed;
}

-- those of a list that pass a test, in their order
unfoldable pub those : {A : Type 0} → (A → Bool) → List A → List A
those test [] = []
those test (w ∷ older) = cond (test w) (w ∷ those test older) (those test older)

-- completion of a block, told once its bytes are there: its write has landed
abbrev pub still_out : Result (Unit {0}) Refusal → ℕ → List Sent → List Sent
still_out (Ok u) b out = those (λ w. not (eqb w.block b)) out
still_out (Err r) b out = out

abbrev pub now_landed : Result (Unit {0}) Refusal → ℕ → List Sent → List Sent → List Sent
now_landed (Ok u) b out landed = those (λ w. eqb w.block b) out ++ landed
now_landed (Err r) b out landed = landed

unfoldable pub after_complete : History → ℕ → Completion → History
after_complete h b o = record {
  table = o.table;
  image = h.image;
  undo = h.undo;
  opening = h.opening;
  accepted = h.accepted;
  in_flight = still_out o.answer b h.in_flight;
  landed = now_landed o.answer b h.in_flight h.landed;
}

-- one call, by its promise's own definition
pub data Call (h : History) : History → Type 0 where
  creates : (c : Change) (o : Creation) → Creates h.table h.image h.undo c o → Call h (after_create h c o)
  writes : (b : ℕ) (lent : List ℕ) (o : Writing) → Writes h.table h.image h.undo lent b o → Call h (after_write h b o)
  completes : (b : ℕ) (o : Completion) → Completes h.table b o → Call h (after_complete h b o)
  asks : (n : ℕ) (a : AskAnswer) → Asks h.table n a → Call h h
  counts : (b : ℕ) (a : Result ℕ Refusal) → Counts h.table b a → Call h h

-- a history that can be: under any setting, any first number, granted or refused, any store of 16,384 bytes, any undo area, and any calls
pub data Happened : History → Type 0 where
  opens : (g : Setting) (n : ℕ) (o : Opening) (store undo : List ℕ) → Opens g n o → length store ≡ image_bytes → Happened (begun o store undo)
  calls : {h h' : History} → Happened h → Call h h' → Happened h'
