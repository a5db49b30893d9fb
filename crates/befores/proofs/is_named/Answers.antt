-- `befores::is_named` meets its contract: what a search through the named numbers tells is is_in. Assumes nothing.
use Prim.Native.Nat.{ℕ}
use mathlib.Core.Path.{◌≡◌, sym, ◌∙◌}
use Rattle.std.proofs.Common.{rules, tests}
use Rattle.std.proofs.lemmas.Iterator.{cases_from_any, YieldsList-from_slice}
use Rattle.befores.proofs.Named.{found_in}
use Rattle.befores.proofs.is_named.Goals as goal

pub returns-then-is_used : goal.returns-then-is_used
returns-then-is_used c =
    let n = c.args.s.now.number in
    let named = c.args.change.now.named in
    rw (sym c.is_used.ensures ∙ c.if-is_used.true)
    (found_in named.now n c.any.result
    (cases_from_any _ _ _ (λ (m : ℕ). m ≡ n) (λ (m : ℕ). m ≡ n → ⊥) c.any.ensures.ran (YieldsList-from_slice named.now (cc))
    (λ x q k. search (rules, tests)) (λ x q k. search (rules, tests))))
