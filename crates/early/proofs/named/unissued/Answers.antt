-- `early::named::unissued` meets its contract. Assumes nothing.
use Prim.Native.Nat.{ℕ}
use Rattle.std.proofs.lemmas.Iterator.{YieldsList-from_slice, cases_from_any}
use Rattle.std.proofs.Common.{rules, tests}
use Rattle.rules.specs.Table.{Issued}
use Rattle.early.proofs.Unissued.{found}
use Rattle.early.proofs.named.unissued.Goals as goal

pub returns : goal.returns
returns c =
    let next = c.args.next in
    found next c.args.numbers.now c.any.result
    (cases_from_any _ _ _ (λ (n : ℕ). Issued next n → ⊥) (Issued next) c.any.ensures.ran
    (YieldsList-from_slice c.args.numbers.now cc)
    (λ x q k. search (rules, tests)) (λ x q k. search (rules, tests)))
