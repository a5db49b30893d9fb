-- What an Option was, from the Result that `ok_or` made of it. Every `?` behind an `ok_or` goes on by these. Assumes nothing.
use mathlib.Core.Path.{◌≡◌, refl}
use native.Mathlib.Omega.{arith}
use Rattle.std.specs.Prelude.{Option, Some, None, Ok, Err, ok_or}

pub absent : {T E : Type 0} (o : Option T) (e x : E) → ok_or o e ≡ Err x → (o ≡ None) × (e ≡ x)
absent (Some v) e x p = absurd (grind arith)
absent None e x p = (refl, grind arith)

pub present : {T E : Type 0} (o : Option T) (e : E) (v : T) → ok_or o e ≡ Ok v → o ≡ Some v
present (Some w) e v p = grind arith
present None e v p = absurd (grind arith)
