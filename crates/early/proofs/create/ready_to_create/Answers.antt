-- `early::create::ready_to_create` meets its contract: the refusals 1 to 7, in their order. Assumes nothing.
use mathlib.Core.Path.{sym, ap, ◌∙◌}
use native.Mathlib.Omega.{arith}
use Rattle.std.proofs.lemmas.Result.{err_from_is_err_and}
use Rattle.rules.proofs.Cases.{first_still, first_after, holds, passes}
use Rattle.rules.proofs.Refused.{refusal_not0}
use Rattle.std.specs.Prelude.{is_some}
use Rattle.ground.proofs.Decided.{clash}
use Rattle.ground.proofs.OkOr.{absent, present}
use Rattle.early.proofs.create.ready_to_create.Goals as goal

pub returns-in_err-judge_lent-clause-refusal : goal.returns-in_err-judge_lent-clause-refusal
returns-in_err-judge_lent-clause-refusal g c =
    let p = err_from_is_err_and c.from_residual.result c.from_residual.ensures.1 in
    rw (p.1, p.2) (first_still _ (refusal_not0 _) c.in_err-judge_lent.ensures)

pub returns-in_err-verdict-clause-refusal : goal.returns-in_err-verdict-clause-refusal
returns-in_err-verdict-clause-refusal g c =
    let p = err_from_is_err_and c.from_residual-in_err-verdict.result c.from_residual-in_err-verdict.ensures.1 in
    let none = absent _ _ _ (sym c.ok_or.ensures.value ∙ c.in_err-verdict.was) in
    rw (p.1, p.2, ← none.1) (first_after (λ e. omega arith, tt) c.in_ok-judge_lent.ensures (holds (λ q. clash q (ap is_some none.0))))

pub returns-in_err-judge_place-clause-refusal : goal.returns-in_err-judge_place-clause-refusal
returns-in_err-judge_place-clause-refusal g c =
    let p = err_from_is_err_and c.from_residual-in_err-judge_place.result c.from_residual-in_err-judge_place.ensures.1 in
    let there = ap is_some (present _ _ _ (sym c.ok_or.ensures.value ∙ c.in_ok-verdict.was)) in
    rw (p.1, p.2)
    (first_after (λ e. omega arith, tt) c.in_ok-judge_lent.ensures
    (passes (λ n. n there) (first_still _ (refusal_not0 _) c.in_err-judge_place.ensures)))

pub returns-in_err-judge_names-clause-refusal : goal.returns-in_err-judge_names-clause-refusal
returns-in_err-judge_names-clause-refusal g c =
    let p = err_from_is_err_and c.from_residual-in_err-judge_names.result c.from_residual-in_err-judge_names.ensures.1 in
    let there = ap is_some (present _ _ _ (sym c.ok_or.ensures.value ∙ c.in_ok-verdict.was)) in
    rw (p.1, p.2)
    (first_after (λ e. omega arith, tt) c.in_ok-judge_lent.ensures
    (passes (λ n. n there)
    (first_after (λ e. omega arith, (λ e. omega arith, (λ e. omega arith, tt))) c.in_ok-judge_place.ensures c.in_err-judge_names.ensures)))

pub returns-clause-refusal : goal.returns-clause-refusal
returns-clause-refusal g c =
    let there = ap is_some (present _ _ _ (sym c.ok_or.ensures.value ∙ c.in_ok-verdict.was)) in
    first_after (λ e. omega arith, tt) c.in_ok-judge_lent.ensures
    (passes (λ n. n there)
    (first_after (λ e. omega arith, (λ e. omega arith, (λ e. omega arith, tt))) c.in_ok-judge_place.ensures c.in_ok-judge_names.ensures))
