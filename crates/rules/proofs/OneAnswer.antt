-- ONE ANSWER: for each call, any two outcomes that its promise admits are equal, as values. Only states and cites.
use Prim.Native.Nat.{ℕ}
use mathlib.Core.Path.{◌≡◌, refl, sym, ap, subst, ◌∙◌}
use mathlib.Core.List.{List}
use Rattle.std.specs.Prelude.{Result}
use Rattle.rules.specs.declared.Setting.{Setting}
use Rattle.rules.specs.declared.AskAnswer.{AskAnswer}
use Rattle.rules.specs.declared.refusals.Refusal.{Refusal}
use Rattle.rules.specs.Table.{Table}
use Rattle.rules.specs.Create.{Change}
use Rattle.rules.specs.Calls.{Opening, Opens, Creation, Creates, Writing, Writes, Completion, Completes, answer_number, Asks, Counts}
use Rattle.rules.specs.Joint.{Joint, CompletesWrites, joint_stopped, joint_went}
use Rattle.rules.proofs.Outcomes.{outcome_one}
use Rattle.rules.proofs.Granted.{create_facts}
use Rattle.rules.proofs.Grants.{accepts_one, sends_one, asked_one, counts_one}

pub open_one : (g : Setting) (n : ℕ) (o p : Opening) → Opens g n o → Opens g n p → o ≡ p
open_one g n = outcome_one (λ f o p a b. a ∙ sym b)

pub create_one : (t : Table) (image undo : List ℕ) (c : Change) (o p : Creation) → Creates t image undo c o → Creates t image undo c p → o ≡ p
create_one t image undo c = outcome_one (λ f o p. accepts_one t image undo c o p (create_facts t image undo c f).ready.sound)

pub write_one : (t : Table) (image undo block : List ℕ) (b : ℕ) (o p : Writing) → Writes t image undo block b o → Writes t image undo block b p → o ≡ p
write_one t image undo block b = outcome_one (λ f. sends_one t image undo b)

pub complete_one : (t : Table) (b : ℕ) (o p : Completion) → Completes t b o → Completes t b p → o ≡ p
complete_one t b = outcome_one (λ f o p a c. a ∙ sym c)

pub ask_one : (t : Table) (n : ℕ) (o p : AskAnswer) → Asks t n o → Asks t n p → o ≡ p
ask_one t n = outcome_one (asked_one t n)

pub count_one : (t : Table) (b : ℕ) (o p : Result ℕ Refusal) → Counts t b o → Counts t b p → o ≡ p
count_one t b = outcome_one (λ f. counts_one t b)

-- the joint call: both of its calls have one
pub complete_write_one : (t : Table) (image undo block : List ℕ) (x y : ℕ) (o p : Joint) → CompletesWrites t image undo block x y o
    → CompletesWrites t image undo block x y p → o ≡ p
complete_write_one t image undo block x y o p (CompletesWrites.stops c a n e) (CompletesWrites.stops d b m f) =
    e ∙ ap (λ (z : Completion). joint_stopped z image undo block) (complete_one t x c d a b) ∙ sym f
complete_write_one t image undo block x y o p (CompletesWrites.stops c a n e) (CompletesWrites.goes_on d b z v q f) =
    absurd (n (ap (λ (r : Completion). answer_number r.answer) (complete_one t x c d a b) ∙ z))
complete_write_one t image undo block x y o p (CompletesWrites.goes_on c a z w q e) (CompletesWrites.stops d b m f) =
    absurd (m (ap (λ (r : Completion). answer_number r.answer) (complete_one t x d c b a) ∙ z))
complete_write_one t image undo block x y o p (CompletesWrites.goes_on c a z w q e) (CompletesWrites.goes_on d b u v r f) =
    let same = complete_one t x c d a b in
    let w-same = write_one d.table image undo block y w v (subst (λ (k : Completion). Writes k.table image undo block y w) same q) r in
    e ∙ ap (λ (k : Completion). joint_went k w) same ∙ ap (joint_went d) w-same ∙ sym f
