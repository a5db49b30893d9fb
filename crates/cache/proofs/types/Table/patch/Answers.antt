-- `Table::patch` meets its contract. Assumes nothing.
use Prim.Native.Nat.{ℕ}
use mathlib.Core.Path.{ap}
use Rattle.rules.specs.Slots.{with_befores}
use Rattle.rules.specs.Create.{change_in, patch}
use Rattle.cache.specs.Seen.{seen}
use Rattle.cache.proofs.types.Table.patch.Goals as goal

pub returns : goal.returns
unfolding patch
returns c =
    let a = c.args in
    ap (λ (m : ℕ). with_befores m (patch (seen a.self.now) (change_in a.change.now) a.hold)) c.befores.ensures
