-- `masks::lowest_outside` meets its contract: the search goes up from 0, and asks of each number whether it is in the set. Assumes nothing.
use Prim.Native.Nat.{ℕ}
use mathlib.Core.Path.{subst}
use Rattle.std.specs.Prelude.{Option}
use Rattle.std.proofs.Common.{rules, tests}
use Rattle.std.proofs.lemmas.Iterator.{first_from_Range}
use Rattle.masks.specs.Lowest.{Outside, LowestOr}
use Rattle.masks.proofs.Lowest.{lowest_found}
use Rattle.masks.proofs.lowest_outside.Goals as goal

pub returns-in_default : goal.returns-in_default
returns-in_default c =
    let set = c.args.set in
    subst (λ (r : Option ℕ). LowestOr c.args.n (Outside set) r) c.in_default.is
    (lowest_found c.find.result
    (first_from_Range _ _ _ _ (Outside set) (λ k. Outside set k → ⊥) c.find.ensures.ran (λ x q k. search (rules, tests)) (λ x q k. search (rules, tests))))

pub returns : goal.returns
returns c =
    let set = c.args.set in
    subst (λ (r : Option ℕ). LowestOr c.args.n (Outside set) r) c.in-Some.is
    (lowest_found c.find.result
    (first_from_Range _ _ _ _ (Outside set) (λ k. Outside set k → ⊥) c.find.ensures.ran (λ x q k. search (rules, tests)) (λ x q k. search (rules, tests))))
