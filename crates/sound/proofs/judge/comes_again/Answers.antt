-- `sound::judge::comes_again` meets its contract: the lowest slot with the number is below slot i just where some is. Assumes nothing.
use Prim.Native.Nat.{ℕ}
use mathlib.Core.Path.{◌≡◌, refl, sym, ◌∙◌}
use mathlib.Core.Bool.{Bool, false}
use mathlib.Core.List.{List}
use native.Mathlib.Omega.{arith}
use borrow.Author.Tests.{ltb-true, ltb-false}
use lib.Dec.{ltb}
use Rattle.std.proofs.Common.{rules, tests}
use Rattle.std.specs.Prelude.{Option, Some, None, MatchOption}
use Rattle.ground.specs.Decides.{Decides}
use Rattle.ground.proofs.Decided.{clash, decides}
use Rattle.rules.specs.declared.Slot.{Slot}
use Rattle.slots.specs.Walks.{Found}
use Rattle.sound.specs.SlotSound.{ComesAgain}
use Rattle.sound.proofs.judge.comes_again.Goals as goal

by_lowest : (ss : List Slot) (n i : ℕ) {Says : ℕ → Type 0} (r : Option ℕ) (b : Bool) → Found ss n r → MatchOption r (b ≡ false) Says
    → ((j : ℕ) → Says j → b ≡ ltb j i) → Decides (ComesAgain ss n i) b
by_lowest ss n i None b found none says = decides b (λ e. absurd (clash e none)) (λ e a. found.nowhere refl a.0 a.1 a.3)
by_lowest ss n i (Some j) b found said says =
    let low = found.there j refl in
    decides b (λ e. (j, low.within, ltb-true j i (sym (says j said) ∙ e), low.holds))
    (λ e a. low.least a.0 (omega (arith, ltb-false j i (sym (says j said) ∙ e), a.2)) a.3)

pub returns : goal.returns
returns c = by_lowest c.args.slots.now c.args.number c.args.i _ _ c.find.ensures c.is_some_and.ensures (λ j q. search (rules, tests))
