-- `masks::meets` meets its contract: a slot of `a & b` is a slot of both, and where that is 0 there is none. Assumes nothing.
use Prim.Native.Nat.{ℕ, ◌<◌, ◌^◌}
use mathlib.Core.Path.{◌≡◌, refl, sym, ap, ◌∙◌}
use mathlib.Core.Bool.{Bool, true, false, not}
use borrow.Author.Tests.{eqb-true, eqb-false}
use lib.Dec.{eqb}
use lib.Bits.{bit_and, and_lt}
use Rattle.masks.specs.Sets.{has, Meet}
use Rattle.masks.proofs.Laws.{has_and, has_none, a_member}
use Rattle.ground.specs.Decides.{Decides}
use Rattle.ground.proofs.Decided.{clash, and-true, true_and}
use Rattle.masks.proofs.meets.Goals as goal

module _ (a b : ℕ) where
  none_meet : bit_and a b ≡ 0 → Meet a b → ⊥
  none_meet e m = clash (true_and m.1 m.2) (sym (has_and a b m.0) ∙ ap (λ (x : ℕ). has x m.0) e ∙ has_none m.0)

  some_meet : a < 2 ^ 64 → b < 2 ^ 64 → (bit_and a b ≡ 0 → ⊥) → Meet a b
  some_meet la lb n =
      let m = a_member (bit_and a b) (and_lt 64 a b la lb) n in
      let w = and-true (has a m.0) (has b m.0) (sym (has_and a b m.0) ∙ m.2) in (m.0, w.0, w.1)

  says : a < 2 ^ 64 → b < 2 ^ 64 → Decides (Meet a b) (not (eqb (bit_and a b) 0))
  says la lb = go (eqb (bit_and a b) 0) refl
    where
      go : (r : Bool) → eqb (bit_and a b) 0 ≡ r → Decides (Meet a b) (not r)
      go true e = none_meet (eqb-true (bit_and a b) 0 e)
      go false e = some_meet la lb (eqb-false (bit_and a b) 0 e)

pub returns : goal.returns
returns c = says c.args.a c.args.b c.ranges.a.fits c.ranges.b.fits
