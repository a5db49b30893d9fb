-- A run of a radio's firmware: an opening by the library, and then any of its functions with any arguments, each on the bytes of the table that
-- the last one left. The notes beside it are those of a history, taken by the numbers that the functions give: a call is granted where it
-- answers 0.
use Rattle.std.specs.Prelude.{ℕ, ◌≡◌, Bool, cond, not, List, [], ◌∷◌, ◌++◌, eqb, length}
use Rattle.rules.specs.Sizes.{slots, image_bytes}
use Rattle.rules.specs.Create.{Change}
use Rattle.demands.specs.History.{Accepted, Sent, History, numbers_below, those}
use Rattle.demands.specs.Life.{PowerUp, power_up, store_left}
use Rattle.layout.specs.Layout.{table_bytes, table_in}
use Rattle.board.specs.Calls.{OpenCall, CreateEnd, CreateCall, WriteEnd, WriteCall, CompleteCall, AskCall, CountCall}

pub record Run : Type 0 where
  -- what the firmware keeps between two calls, also over sleep: the table as bytes, the working image and the undo area
  pub bytes : List ℕ
  pub image : List ℕ
  pub undo : List ℕ
  -- the notes: what the store held, the accepted changes, the writes in flight and those that have landed
  pub opening : List ℕ
  pub accepted : List Accepted
  pub in_flight : List Sent
  pub landed : List Sent

-- the history that a run is: its table is the one that the bytes mean
abbrev pub meant : Run → History
meant r = record {
  table = table_in r.bytes;
  image = r.image;
  undo = r.undo;
  opening = r.opening;
  accepted = r.accepted;
  in_flight = r.in_flight;
  landed = r.landed;
}

abbrev pub run_begun : List ℕ → List ℕ → List ℕ → Run
run_begun bytes store undo = record { bytes = bytes; image = store; undo = undo; opening = store; accepted = []; in_flight = []; landed = [] }

abbrev pub run_create : Run → Change → CreateEnd → Run
run_create r c e = record {
  bytes = e.table;
  image = e.image;
  undo = e.undo;
  opening = r.opening;
  accepted = cond (eqb e.refusal 0) (record { number = e.number; change = c } ∷ r.accepted) r.accepted;
  in_flight = r.in_flight;
  landed = r.landed;
}

abbrev pub run_write : Run → ℕ → WriteEnd → Run
run_write r b e = record {
  bytes = e.table;
  image = e.image;
  undo = e.undo;
  opening = r.opening;
  accepted = r.accepted;
  in_flight = cond (eqb e.refusal 0)
      (record { block = b; bytes = e.handed; numbers = numbers_below (table_in r.bytes).slots e.set slots } ∷ r.in_flight) r.in_flight;
  landed = r.landed;
}

abbrev pub run_complete : Run → ℕ → ℕ → List ℕ → Run
run_complete r b refusal after = record {
  bytes = after;
  image = r.image;
  undo = r.undo;
  opening = r.opening;
  accepted = r.accepted;
  in_flight = cond (eqb refusal 0) (those (λ w. not (eqb w.block b)) r.in_flight) r.in_flight;
  landed = cond (eqb refusal 0) (those (λ w. eqb w.block b) r.in_flight ++ r.landed) r.landed;
}

-- one function of the library, by its promise's own definition; ask and count leave everything as it is
pub data RunCall (r : Run) : Run → Type 0 where
  creates : (c : Change) (e : CreateEnd) → CreateCall r.bytes r.image r.undo c e → RunCall r (run_create r c e)
  writes : (b : ℕ) (lent : List ℕ) (e : WriteEnd) → WriteCall r.bytes r.image r.undo lent b e → RunCall r (run_write r b e)
  completes : (b refusal : ℕ) (after : List ℕ) → CompleteCall r.bytes b refusal after → RunCall r (run_complete r b refusal after)
  asks : (n refusal state : ℕ) → AskCall r.bytes n refusal state → RunCall r r
  counts : (b refusal count : ℕ) → CountCall r.bytes b refusal count → RunCall r r

-- a run that can be: 2,056 bytes of memory that hold anything, any first number, any store of 16,384 bytes, any undo area, and any calls
pub data HasRun : Run → Type 0 where
  opens : (memory store undo : List ℕ) (first refusal : ℕ) (after : List ℕ) → length memory ≡ table_bytes → OpenCall memory first refusal after
      → length store ≡ image_bytes → HasRun (run_begun after store undo)
  calls : {r r' : Run} → HasRun r → RunCall r r' → HasRun r'

-- the run r with any further calls
pub data RunsOn (r : Run) : Run → Type 0 where
  now : RunsOn r r
  then : {r' r'' : Run} → RunsOn r r' → RunCall r' r'' → RunsOn r r''

-- a life that can be: on any store of 16,384 bytes any number of runs, each opened on what the cut before it left
pub data HasLived (store : List ℕ) : List PowerUp → Type 0 where
  begins : length store ≡ image_bytes → HasLived store []
  again : {life : List PowerUp} (r : Run) (new : ℕ → Bool) → HasLived store life → HasRun r → r.opening ≡ store_left life store
      → HasLived store (power_up (meant r) new ∷ life)
