-- `run::made_of` meets its contract. Assumes nothing.
use mathlib.Core.Path.{sym, ap}
use mathlib.Core.Logic.{⊎_elim}
use Rattle.records.proofs.RoundTrip.{is_record}
use Rattle.trace.specs.Seen.{run_of}
use Rattle.trace.proofs.Taken.{stops_none}
use Rattle.trace.proofs.run.made_of.Goals as goal

pub returns-in-NoneYet : goal.returns-in-NoneYet
unfolding is_record
returns-in-NoneYet c =
    let a = c.args in
    stops_none (run_of a.kept a.image.now a.undo.now) a.bytes.now _ (sym c.only_in.ensures)
    (⊎_elim (λ y. ap is_record y.1) (λ b. ap is_record b) c.in-NoneYet.is) _ (c.made_bad.ensures _ _)
