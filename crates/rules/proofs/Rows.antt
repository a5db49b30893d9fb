-- ROWS P1 TO P10 of document 01's session of two pages hold for the definitions. Only states and cites.
use native.Mathlib.Omega.{arith}
use Rattle.rules.specs.declared.Setting.TheVariants.{Board}
use Rattle.rules.specs.Calls.{open_granted}
use Rattle.rules.specs.Rows.{RowsHold}
use Rattle.rules.proofs.Steps.{open_row}
use Rattle.rules.proofs.Session.{session}

pub rows_P1_to_P10 : RowsHold
rows_P1_to_P10 = record { opening = open_granted Board 1; opens = open_row Board 1 (λ e. omega arith) (omega arith); rows = session }
