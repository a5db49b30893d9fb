-- From what a search through the named numbers found: whether one of them was never issued.
use Prim.Native.Nat.{ℕ, ◌<◌}
use mathlib.Core.Path.{subst}
use mathlib.Core.Bool.{Bool, true, false}
use mathlib.Core.List.{List}
use native.Mathlib.Omega.{arith}
use lib.ListN.{length}
use Rattle.std.specs.Prelude.{HoldsAt, MatchBool}
use Rattle.std.specs.List.{AllWithin}
use Rattle.ground.specs.Decides.{Decides}
use Rattle.rules.specs.Table.{Issued}
use Rattle.slots.proofs.Members.{at_in, in_at}
use Rattle.early.specs.Early.{Unissued}

pub found : (next : ℕ) (ns : List ℕ) (r : Bool)
    → MatchBool r ((k : ℕ) × (k < length ns) × HoldsAt (λ n. Issued next n → ⊥) ns k) (AllWithin (Issued next) ns 0 (length ns))
    → Decides (Unissued next ns) r
found next ns true f = (_, at_in ns f.0 f.1, f.2 0)
found next ns false f = λ u.
    let r = in_at ns u.0 u.1 in
    u.2 (subst (Issued next) r.2 (f r.0 0 (omega arith) r.1))
