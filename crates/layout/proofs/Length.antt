-- What is read of bytes, and what is written over them, by whether they are as many as a table has.
use Prim.Native.Nat.{ℕ}
use mathlib.Core.Path.{◌≡◌, ap}
use mathlib.Core.List.{List}
use native.Mathlib.Decide.{ℕ_discrete}
use borrow.Author.Tests.{eq-eqb, ne_eqb}
use lib.ListN.{length}
use Rattle.rules.specs.declared.Setting.TheVariants.{Board}
use Rattle.rules.specs.Table.{Table}
use Rattle.rules.specs.Open.{opened}
use Rattle.rules.specs.Calls.{Opening, Opens, answer_number}
use Rattle.layout.specs.Layout.{table_bytes, table_in, bytes_of, table_read, table_stored}

pub read_whole : (bytes : List ℕ) → length bytes ≡ table_bytes → table_read bytes ≡ table_in bytes
unfolding table_read
read_whole bytes e = rw (eq-eqb (length bytes) table_bytes e)

pub read_other : (bytes : List ℕ) → (length bytes ≡ table_bytes → ⊥) → table_read bytes ≡ opened Board 1
unfolding table_read
read_other bytes d = rw (ne_eqb (length bytes) table_bytes d)

pub stored_whole : (bytes : List ℕ) (t : Table) → length bytes ≡ table_bytes → table_stored bytes t ≡ bytes_of t
unfolding table_stored
stored_whole bytes t e = rw (eq-eqb (length bytes) table_bytes e)

pub stored_other : (bytes : List ℕ) (t : Table) → (length bytes ≡ table_bytes → ⊥) → table_stored bytes t ≡ bytes
unfolding table_stored
stored_other bytes t d = rw (ne_eqb (length bytes) table_bytes d)

-- opened at 1, granted or not, the table is the empty one with first 1
pub opens_one : (o : Opening) → Opens Board 1 o → o.table ≡ opened Board 1
opens_one o p = elim (ℕ_discrete (answer_number o.answer) 0) [
  | yes z ↦ ap (λ (x : Opening). x.table) (p.grant z)
  | no d ↦ ap (λ (x : Opening). x.table) (p.refusal d).2
]
