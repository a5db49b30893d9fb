-- `masks::within` meets its contract: a set lies in another just where `&` with the other's complement has no slot. Assumes nothing.
use Prim.Native.Nat.{ℕ, ◌-◌, ◌^◌, ◌<◌}
use mathlib.Core.Path.{◌≡◌, sym, ap, ◌∙◌}
use mathlib.Core.Logic.{⊎_elim}
use native.Mathlib.Omega.{arith}
use borrow.Author.Tests.{not-false, eqb-true, eq-eqb}
use lib.Dec.{eqb}
use lib.Bits.{bit_and, and_le_l}
use Rattle.masks.specs.Sets.{has, Sub, within}
use Rattle.ground.proofs.Decided.{true_or_false, same_bool}
use Rattle.masks.proofs.Laws.{has_none, has_slot, no_member, has_without, within_sub, sub_within}
use Rattle.masks.proofs.within.Goals as goal

module _ (a b : ℕ) (la : a < 2 ^ 64) (lb : b < 2 ^ 64) where
  none_sub : bit_and a ((2 ^ 64 - 1) - b) ≡ 0 → Sub a b
  none_sub e i h =
      not-false (has b i)
      (rw h at (sym (has_without a b i lb (has_slot a i la h)) ∙ ap (λ (x : ℕ). has x i) e ∙ has_none i))

  sub_none : Sub a b → bit_and a ((2 ^ 64 - 1) - b) ≡ 0
  sub_none f =
      no_member (bit_and a ((2 ^ 64 - 1) - b)) (omega (arith, and_le_l a ((2 ^ 64 - 1) - b)))
      (λ i l. has_without a b i lb l ∙ ⊎_elim (λ h. rw (f i h, h)) (λ h. rw h) (true_or_false (has a i)))

pub returns : goal.returns
returns c =
    let a = c.args.a in
    let b = c.args.b in
    let la = c.ranges.a.fits in
    let lb = c.ranges.b.fits in
    same_bool (eqb (bit_and a ((2 ^ 64 - 1) - b)) 0) (within a b) (λ e. sub_within a b (none_sub a b la lb (eqb-true _ 0 e)))
    (λ e. eq-eqb _ 0 (sub_none a b la lb (within_sub a b la e)))
