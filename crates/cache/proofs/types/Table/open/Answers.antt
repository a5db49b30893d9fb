-- `Table::open` meets its contract. Assumes nothing.
use mathlib.Core.Logic.{inl, inr, ⊎_elim}
use Rattle.rules.proofs.Steps.{open_row}
use Rattle.cache.proofs.Looks.{open_no_first}
use Rattle.cache.proofs.types.Table.open.Goals as goal

pub returns-then-first-eq0 : goal.returns-then-first-eq0
returns-then-first-eq0 c =
    let a = c.args in
    rw c.empty.ensures (open_no_first a.setting a.first (⊎_elim (λ e. inl e) (λ m. inr m.1) c.then-first-eq0.either))

pub returns : goal.returns
returns c =
    let a = c.args in
    rw c.empty-2.ensures (open_row a.setting a.first c.if-first-eq0.false c.if-first-gt-LAST_NUMBER.false)
