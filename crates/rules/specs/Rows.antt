-- Document 01, "A session of two pages", with the answers of document 02, request a: rows P1 to P10 as one table, and what it is for the definitions
-- to run a table of rows.
use Rattle.std.specs.Prelude.{ℕ, List, [], ◌∷◌, ◌++◌, replicate, Result, Ok, Err}
use Rattle.rules.specs.declared.Setting.TheVariants.{Board}
use Rattle.rules.specs.declared.Hold.{Hold}
use Rattle.rules.specs.declared.Hold.TheVariants as hold
use Rattle.rules.specs.declared.Created.{Created}
use Rattle.rules.specs.declared.refusals.Refusal.{Refusal}
use Rattle.rules.specs.declared.refusals.Refusal.TheVariants.{NoneMayGo, InFlight}
use Rattle.rules.specs.Sizes.{image_bytes, block_bytes}
use Rattle.rules.specs.Settings.{undo_bytes}
use Rattle.rules.specs.Table.{Table}
use Rattle.rules.specs.Create.{Change}
use Rattle.rules.specs.Calls.{Opening, Opens, Creation, Creates, Writing, Writes, Completion, Completes}

-- what the caller has between two calls: the table that the last one returned, the working image and the undo area
pub record Radio : Type 0 where
  pub table : Table
  pub image : List ℕ
  pub undo : List ℕ

-- a row: a call with its arguments and its whole answer; a write lends a block, and says what is in it afterwards
pub data Row : Type 0 where
  create : Change → Result Created Refusal → Row
  write : (b : ℕ) → (lent : List ℕ) → Result ℕ Refusal → (handed : List ℕ) → Row
  complete : (b : ℕ) → Result (Unit {0}) Refusal → Row

-- the rows run, each on what the row before left
pub data Runs : Radio → List Row → Type 0 where
  end : {r : Radio} → Runs r []
  creates : {r : Radio} {c : Change} {rows : List Row} (o : Creation) → Creates r.table r.image r.undo c o
      → Runs (record { table = o.table; image = o.image; undo = o.undo }) rows → Runs r (create c o.answer ∷ rows)
  writes : {r : Radio} {b : ℕ} {lent : List ℕ} {rows : List Row} (o : Writing) → Writes r.table r.image r.undo lent b o
      → Runs (record { table = o.table; image = o.image; undo = o.undo }) rows → Runs r (write b lent o.answer o.block ∷ rows)
  completes : {r : Radio} {b : ℕ} {rows : List Row} (o : Completion) → Completes r.table b o
      → Runs (record { table = o.table; image = r.image; undo = r.undo }) rows → Runs r (complete b o.answer ∷ rows)

-- a block lent to write; a refusal leaves it so
blank : List ℕ
blank = replicate block_bytes 9

change : ℕ → ℕ → List ℕ → List ℕ → Change
change b o bytes named = record { block = b; offset = o; bytes = bytes; named = named }

accept : ℕ → Hold → Result Created Refusal
accept n h = Ok (record { number = n; hold = h })

-- P1 to P10. A patch is in the slot one below its number here, so 1 is the set of patch 1 alone, 2 that of 2, which two changes share, 4 that of 3
unfoldable pub rows_p1to_p10 : List Row
unfolding blank change accept
rows_p1to_p10 =
    create (change 1 0 (replicate 8 65) []) (accept 1 hold.Hard)
    ∷ create (change 2 0 (replicate 2 1) (1 ∷ [])) (accept 2 hold.Hard)
    ∷ create (change 2 2 (replicate 2 2) []) (accept 2 hold.Hard)
    ∷ create (change 1 8 (replicate 8 66) (2 ∷ [])) (accept 3 (hold.Soft 0))
    ∷ write 2 blank (Err NoneMayGo) blank
    ∷ write 1 blank (Ok 1) (replicate 8 65 ++ replicate 248 0)
    ∷ write 1 blank (Err InFlight) blank
    ∷ complete 1 (Ok tt)
    ∷ write 2 blank (Ok 2) (1 ∷ 1 ∷ 2 ∷ 2 ∷ replicate 252 0)
    ∷ write 1 blank (Err NoneMayGo) blank
    ∷ complete 2 (Ok tt)
    ∷ write 1 blank (Ok 4) (replicate 8 65 ++ replicate 8 66 ++ replicate 240 0)
    ∷ []

-- on the board, the image all zero, opened at 1; the undo area holds what it may, here 7s, so that old bytes taken from anywhere but a kept room would show
pub record RowsHold : Type 0 where
  pub opening : Opening
  pub opens : Opens Board 1 opening
  pub rows : Runs (record { table = opening.table; image = replicate image_bytes 0; undo = replicate (undo_bytes Board) 7 }) rows_p1to_p10
