-- What the joint call comes to, in document 02's words: what is left where completing is refused, where only the write is, and where both are granted.
-- That any two of its outcomes are equal stands in OneAnswer.
use Prim.Native.Nat.{ℕ, ◌≤◌}
use mathlib.Core.Path.{◌≡◌, refl, sym, ap, subst, ◌∙◌}
use mathlib.Core.List.{List}
use native.Mathlib.Omega.{arith}
use Rattle.std.specs.Prelude.{Some, None, Result}
use Rattle.std.proofs.lemmas.Option.{none-some, same_Some}
use Rattle.rules.specs.declared.refusals.Refusal.{Refusal}
use Rattle.rules.specs.Table.{Table, Sound}
use Rattle.rules.specs.Complete.{completed}
use Rattle.rules.specs.Refusals.{number_of, write_cases}
use Rattle.rules.specs.Calls.{answer_number, Writing, Writes, write_refused, Completion, complete_refused}
use Rattle.rules.specs.Calls.{complete_granted}
use Rattle.rules.specs.Joint.{Joint, CompletesWrites, joint_stopped, joint_went, second_number}
use Rattle.rules.proofs.Cases.{AtMost, first_most}
use Rattle.rules.proofs.SoundCalls.{write_sound, complete_sound}
use Rattle.rules.proofs.SettingKept.{write_setting, complete_setting}

-- write's numbers end at 13
write_most : (t : Table) (image undo block : List ℕ) (b : ℕ) (w : Writing) → Writes t image undo block b w → answer_number w.answer ≤ 13
unfolding AtMost
write_most t image undo block b w q =
    first_most 13 (write_cases t image undo block b) (omega arith, (omega arith, (omega arith, (omega arith, (omega arith, (omega arith, tt)))))) q.first

-- the outcome where completing is refused: table, image, undo area and block are as they came
abbrev pub joint_refused : Table → List ℕ → List ℕ → List ℕ → Refusal → Joint
joint_refused t image undo block r = joint_stopped (complete_refused t r) image undo block

-- and where only the write is: the completion stands, and the rest is as it came
abbrev pub write_alone_refused : Table → List ℕ → List ℕ → List ℕ → ℕ → Refusal → Joint
write_alone_refused t image undo block x r = joint_went (complete_granted t x) (write_refused (completed t x) image undo block r)

module _ {t : Table} {image undo block : List ℕ} {x y : ℕ} {o : Joint} where
  pub joint-refused : CompletesWrites t image undo block x y o → (answer_number o.first ≡ 0 → ⊥)
      → (r : Refusal) × (number_of r ≡ answer_number o.first) × (o ≡ joint_refused t image undo block r)
  joint-refused (CompletesWrites.stops c p n e) d =
      let r = p.refusal n in (
        r.0,
        r.1 ∙ sym (ap (λ (z : Joint). answer_number z.first) e),
        e ∙ ap (λ (z : Completion). joint_stopped z image undo block) r.2,
      )
  joint-refused (CompletesWrites.goes_on c p z w q e) d = absurd (d (ap (λ (z : Joint). answer_number z.first) e ∙ z))

  -- completing granted, the write is tried on the table that the completion gave
  pub joint_tried : CompletesWrites t image undo block x y o → answer_number o.first ≡ 0
      → (w : Writing) × Writes (completed t x) image undo block y w × (o ≡ joint_went (complete_granted t x) w)
  joint_tried (CompletesWrites.stops c p n e) z = absurd (n (sym (ap (λ (z : Joint). answer_number z.first) e) ∙ z))
  joint_tried (CompletesWrites.goes_on c p z w q e) z' =
      let g = p.grant z in
      (w, subst (λ (a : Completion). Writes a.table image undo block y w) g q, e ∙ ap (λ (a : Completion). joint_went a w) g)

  -- only the write refused: the completion stands, and the block handed out keeps its bytes
  pub joint_write_refused : (k : ℕ) → CompletesWrites t image undo block x y o → second_number o.second ≡ Some k → (k ≡ 0 → ⊥)
      → (r : Refusal) × (number_of r ≡ k) × (o ≡ write_alone_refused t image undo block x r)
  joint_write_refused k (CompletesWrites.stops c p n e) s d = absurd (none-some k (sym (ap (λ (z : Joint). second_number z.second) e) ∙ s))
  joint_write_refused k (CompletesWrites.goes_on c p z w q e) s d =
      let same : answer_number w.answer ≡ k = same_Some _ k (sym (ap (λ (z : Joint). second_number z.second) e) ∙ s) in
      let r = q.refusal (λ u. d (sym same ∙ u)) in
      let g = p.grant z in
      (r.0, r.1 ∙ same, e ∙ ap (joint_went c) r.2 ∙ ap (λ (a : Completion). joint_went a (write_refused a.table image undo block r.0)) g)

  -- a second answer that has a number has one of write's
  pub second_most : (k : ℕ) → CompletesWrites t image undo block x y o → second_number o.second ≡ Some k → k ≤ 13
  second_most k (CompletesWrites.stops c p n e) s = absurd (none-some k (sym (ap (λ (z : Joint). second_number z.second) e) ∙ s))
  second_most k (CompletesWrites.goes_on c p z w q e) s =
      subst (λ (j : ℕ). j ≤ 13)
      (same_Some _ k (sym (ap (λ (z : Joint). second_number z.second) e) ∙ s))
      (write_most c.table image undo block y w q)

  -- not tried is said where completing was refused, and nowhere else
  pub not-tried : CompletesWrites t image undo block x y o → o.second ≡ None → answer_number o.first ≡ 0 → ⊥
  not-tried p s z =
      let r = joint_tried p z in
      none-some _ (sym (ap second_number s) ∙ ap (λ (a : Joint). second_number a.second) r.2)

  pub joint_sound : Sound t → CompletesWrites t image undo block x y o → Sound o.table
  joint_sound s (CompletesWrites.stops c p n e) = subst (λ (z : Joint). Sound z.table) (sym e) (complete_sound t x c s p)
  joint_sound s (CompletesWrites.goes_on c p z w q e) =
      subst (λ (z : Joint). Sound z.table) (sym e) (write_sound c.table image undo block y w (complete_sound t x c s p) q)

  pub joint_setting : CompletesWrites t image undo block x y o → o.table.setting ≡ t.setting
  joint_setting (CompletesWrites.stops c p n e) = ap (λ (z : Joint). z.table.setting) e ∙ complete_setting t x c p
  joint_setting (CompletesWrites.goes_on c p z w q e) =
      ap (λ (z : Joint). z.table.setting) e ∙ write_setting c.table image undo block y w q ∙ complete_setting t x c p
