-- An outcome is shown by its first case and, granted, by what the call does; and any two outcomes are equal where any two grants are.
use Prim.Native.Nat.{ℕ}
use mathlib.Core.Path.{◌≡◌, refl, sym, ap, subst, ◌∙◌}
use mathlib.Core.List.{List}
use native.Mathlib.Decide.{ℕ_discrete}
use Rattle.rules.specs.declared.refusals.Refusal.{Refusal}
use Rattle.rules.specs.Refusals.{number_of, Case, First}
use Rattle.rules.specs.Calls.{Outcome}
use Rattle.rules.proofs.Cases.{first_one}
use Rattle.rules.proofs.Refused.{refusal_not0, refusal_one}

module _ {O : Type 0} {cases : List Case} {number : O → ℕ} {refused : Refusal → O} {Granted : O → Type 0} where
  pub refuses : (r : Refusal) → First cases (number_of r) → number (refused r) ≡ number_of r → Outcome cases number refused Granted (refused r)
  refuses r f e = record {
    first = subst (First cases) (sym e) f;
    refusal = λ n. (r, sym e, refl);
    grant = λ z. absurd (refusal_not0 r (sym e ∙ z));
  }

  pub grants : (o : O) → First cases 0 → number o ≡ 0 → Granted o → Outcome cases number refused Granted o
  grants o f e g = record { first = subst (First cases) (sym e) f; refusal = λ n. absurd (n e); grant = λ z. g }

  -- any two outcomes are equal
  pub outcome_one : (First cases 0 → (o p : O) → Granted o → Granted p → o ≡ p) → (o p : O) → Outcome cases number refused Granted o
      → Outcome cases number refused Granted p → o ≡ p
  outcome_one same o p a b = go (ℕ_discrete (number o) 0)
    where
      e : number o ≡ number p
      e = first_one a.first b.first

      go : Dec (number o ≡ 0) → o ≡ p
      go (yes z) = same (subst (First cases) z a.first) o p (a.grant z) (b.grant (sym e ∙ z))
      go (no n) =
          let r = a.refusal n in
          let q = b.refusal (λ z. n (e ∙ z)) in
          let one : r.0 ≡ q.0 = refusal_one r.0 q.0 (r.1 ∙ e ∙ sym q.1) in
          r.2 ∙ ap refused one ∙ sym q.2
