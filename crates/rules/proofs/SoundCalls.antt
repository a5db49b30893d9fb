-- A SOUND TABLE STAYS SOUND: whatever a call answers, the table that it returns is sound if the table passed was; an opened one always is.
use Prim.Native.Nat.{ℕ, ◌<◌}
use mathlib.Core.Path.{◌≡◌, sym, subst}
use mathlib.Core.List.{List}
use mathlib.Core.Logic.{inl, inr}
use native.Mathlib.Omega.{arith}
use native.Mathlib.Decide.{ℕ_discrete}
use Rattle.rules.specs.declared.Setting.{Setting}
use Rattle.rules.specs.Sizes.{last_number}
use Rattle.rules.specs.Table.{Table, Sound}
use Rattle.rules.specs.Create.{Change}
use Rattle.rules.specs.Refusals.{First, open_cases}
use Rattle.rules.specs.Passed.{CreatePassed}
use Rattle.rules.specs.Calls.{Opening, Opens, Creation, Creates, Accepts, Writing, Writes, Completion, Completes, answer_number, sent_set}
use Rattle.rules.proofs.Cases.{passed}
use Rattle.rules.proofs.Granted.{create_passed}
use Rattle.rules.proofs.StaysSound.{opened_sound, accepted_sound, sent_sound, completed_sound}
use Rattle.rules.proofs.Joined.{joined_sound}

pub open_sound : (g : Setting) (n : ℕ) (o : Opening) → Opens g n o → Sound o.table
open_sound g n o p = go (ℕ_discrete (answer_number o.answer) 0)
  where
    go : Dec (answer_number o.answer ≡ 0) → Sound o.table
    go (no d) = subst (λ (x : Opening). Sound x.table) (sym (p.refusal d).2) (opened_sound g 1 (omega arith) (omega arith))
    go (yes z) =
        let f = passed (λ e. omega arith) (subst (First (open_cases n)) z p.first) in
        let a : (n ≡ 0 → ⊥) = λ e. f.0 (inl e) in
        let b : (last_number < n → ⊥) = λ l. f.0 (inr l) in
        subst (λ (x : Opening). Sound x.table) (sym (p.grant z)) (opened_sound g n (omega (arith, a)) (omega (arith, b)))

pub create_sound : (t : Table) (image undo : List ℕ) (c : Change) (o : Creation) → Sound t → Creates t image undo c o → Sound o.table
create_sound t image undo c o s p = go (ℕ_discrete (answer_number o.answer) 0)
  where
    granted : CreatePassed t image undo c → Accepts t image undo c o → Sound o.table
    granted v (Accepts.takes own g) =
        subst (λ (x : Creation). Sound x.table) (sym g.whole)
        (accepted_sound t image undo c g.slot g.hold v own g.lowest g.hard-or-soft)
    granted v (Accepts.joins j g) = subst (λ (x : Creation). Sound x.table) (sym g.whole) (joined_sound t c g.slot s g.lowest)

    go : Dec (answer_number o.answer ≡ 0) → Sound o.table
    go (no d) = subst (λ (x : Creation). Sound x.table) (sym (p.refusal d).2) s
    go (yes z) = granted (create_passed p z) (p.grant z)

pub write_sound : (t : Table) (image undo block : List ℕ) (b : ℕ) (o : Writing) → Sound t → Writes t image undo block b o → Sound o.table
write_sound t image undo block b o s p = go (ℕ_discrete (answer_number o.answer) 0)
  where
    go : Dec (answer_number o.answer ≡ 0) → Sound o.table
    go (no d) = subst (λ (x : Writing). Sound x.table) (sym (p.refusal d).2) s
    go (yes z) = let g = p.grant z in subst (λ (x : Writing). Sound x.table) (sym g.whole) (sent_sound t (sent_set o.answer) s)

pub complete_sound : (t : Table) (b : ℕ) (o : Completion) → Sound t → Completes t b o → Sound o.table
complete_sound t b o s p = go (ℕ_discrete (answer_number o.answer) 0)
  where
    go : Dec (answer_number o.answer ≡ 0) → Sound o.table
    go (no d) = subst (λ (x : Completion). Sound x.table) (sym (p.refusal d).2) s
    go (yes z) = subst (λ (x : Completion). Sound x.table) (sym (p.grant z)) (completed_sound t b s)
