-- THE SETTING STAYS: an opened table has the setting that was asked for, and no call changes a table's, whatever it answers. So what is said of one
-- setting can be said of a whole history.
use Prim.Native.Nat.{ℕ}
use mathlib.Core.Path.{◌≡◌, refl, ap, ◌∙◌}
use mathlib.Core.List.{List}
use native.Mathlib.Decide.{ℕ_discrete}
use Rattle.rules.specs.declared.Setting.{Setting}
use Rattle.rules.specs.declared.Hold.{Hold}
use Rattle.rules.specs.Table.{Table}
use Rattle.rules.specs.Create.{Change, accepted, joined}
use Rattle.rules.specs.Write.{sent}
use Rattle.rules.specs.Complete.{completed}
use Rattle.rules.specs.Calls.{Opening, Opens, answer_number, Creation, Creates, Accepts, Writing, Writes}
use Rattle.rules.specs.Calls.{sent_set, Completion, Completes}

accepted_setting : (t : Table) (c : Change) (j : ℕ) (h : Hold) → (accepted t c j h).setting ≡ t.setting
unfolding accepted
accepted_setting t c j h = refl

joined_setting : (t : Table) (c : Change) (j : ℕ) → (joined t c j).setting ≡ t.setting
unfolding joined
joined_setting t c j = refl

sent_setting : (t : Table) (s : ℕ) → (sent t s).setting ≡ t.setting
unfolding sent
sent_setting t s = refl

completed_setting : (t : Table) (b : ℕ) → (completed t b).setting ≡ t.setting
unfolding completed
completed_setting t b = refl

pub open_setting : (g : Setting) (n : ℕ) (o : Opening) → Opens g n o → o.table.setting ≡ g
open_setting g n o p = go (ℕ_discrete (answer_number o.answer) 0)
  where
    go : Dec (answer_number o.answer ≡ 0) → o.table.setting ≡ g
    go (no d) = ap (λ (x : Opening). x.table.setting) (p.refusal d).2
    go (yes z) = ap (λ (x : Opening). x.table.setting) (p.grant z)

pub create_setting : (t : Table) (image undo : List ℕ) (c : Change) (o : Creation) → Creates t image undo c o → o.table.setting ≡ t.setting
create_setting t image undo c o p = go (ℕ_discrete (answer_number o.answer) 0)
  where
    granted : Accepts t image undo c o → o.table.setting ≡ t.setting
    granted (Accepts.takes own g) = ap (λ (x : Creation). x.table.setting) g.whole ∙ accepted_setting t c g.slot g.hold
    granted (Accepts.joins j g) = ap (λ (x : Creation). x.table.setting) g.whole ∙ joined_setting t c g.slot

    go : Dec (answer_number o.answer ≡ 0) → o.table.setting ≡ t.setting
    go (no d) = ap (λ (x : Creation). x.table.setting) (p.refusal d).2
    go (yes z) = granted (p.grant z)

pub write_setting : (t : Table) (image undo block : List ℕ) (b : ℕ) (o : Writing) → Writes t image undo block b o → o.table.setting ≡ t.setting
write_setting t image undo block b o p = go (ℕ_discrete (answer_number o.answer) 0)
  where
    go : Dec (answer_number o.answer ≡ 0) → o.table.setting ≡ t.setting
    go (no d) = ap (λ (x : Writing). x.table.setting) (p.refusal d).2
    go (yes z) = ap (λ (x : Writing). x.table.setting) (p.grant z).whole ∙ sent_setting t (sent_set o.answer)

pub complete_setting : (t : Table) (b : ℕ) (o : Completion) → Completes t b o → o.table.setting ≡ t.setting
complete_setting t b o p = go (ℕ_discrete (answer_number o.answer) 0)
  where
    go : Dec (answer_number o.answer ≡ 0) → o.table.setting ≡ t.setting
    go (no d) = ap (λ (x : Completion). x.table.setting) (p.refusal d).2
    go (yes z) = ap (λ (x : Completion). x.table.setting) (p.grant z) ∙ completed_setting t b
