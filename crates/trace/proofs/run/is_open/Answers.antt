-- `run::is_open` meets its contract. Assumes nothing.
use Prim.Native.Nat.{ℕ}
use mathlib.Core.Path.{◌≡◌, refl}
use mathlib.Core.Bool.{false}
use mathlib.Core.List.{List}
use Rattle.records.specs.declared.types.Found.{Found}
use Rattle.records.specs.declared.types.Found.TheVariants as found
use Rattle.records.specs.Reader.{call_in}
use Rattle.trace.specs.Run.{is_open}
use Rattle.trace.proofs.run.is_open.Goals as goal

pub returns-in-Open : goal.returns-in-Open
unfolding call_in
returns-in-Open c = λ bytes. rw c.in-Open.is

not_open : (f : Found) → ((n : ℕ) → f ≡ found.Open n → ⊥) → (bytes : List ℕ) → false ≡ is_open (call_in bytes f)
unfolding call_in
not_open (found.Open n) d bytes = absurd (d n refl)
not_open (found.Create h) d bytes = refl
not_open (found.Write b) d bytes = refl
not_open (found.Complete b) d bytes = refl
not_open (found.Cut s) d bytes = refl

pub returns-in_default : goal.returns-in_default
returns-in_default c = not_open c.args.found c.in_default.not-Open
