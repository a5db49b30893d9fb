-- Which lent bytes a function of the library reaches: on bytes that are a table those that its call reaches, on others none. Assumes nothing.
use Prim.Native.Nat.{ℕ, ◌+◌}
use mathlib.Core.Path.{◌≡◌, refl, sym, ap, subst, ◌∙◌}
use mathlib.Core.List.{List}
use mathlib.Core.Option.{Option, none, some}
use native.Mathlib.Omega.{arith}
use Rattle.rules.specs.declared.Hold.{Hold}
use Rattle.rules.specs.declared.Hold.TheVariants as hold
use Rattle.rules.specs.Table.{Table}
use Rattle.rules.specs.Create.{Change}
use Rattle.rules.specs.Refusals.{First}
use Rattle.rules.specs.Calls.{answer_number, hard_or_soft, Writing}
use Rattle.rules.specs.Joint.{Joint, CompletesWrites}
use Rattle.rules.proofs.Cases.{passed}
use Rattle.demands.proofs.QuestionSeven.{question_seven}
use Rattle.layout.specs.Layout.{table_in, IsTable}
use Rattle.board.specs.Calls.{no_table_cases, hold_number, CreateEnd, CreateCall, WriteEnd, WriteCall, CompleteCall}
use Rattle.board.specs.Calls.{second_as, JointEnd, JointCall}
use Rattle.board.proofs.OneAnswer.{table_or_not}
use Rattle.board.proofs.Joint.{unwritten}
use Rattle.firmware.specs.Answers.{CreateEndReaches}

-- ---- bytes that are no table

-- where there is none, no call is granted
no_grant : {xs : List ℕ} {Wrong : Type 0} {k : ℕ} → (IsTable xs → ⊥) → First (no_table_cases xs Wrong) k → k ≡ 0 → ⊥
no_grant {xs} {Wrong} n f z =
    let c1 = passed (λ e. omega arith) (subst (First (no_table_cases xs Wrong)) z f) in
    let c2 = passed (λ e. omega arith) c1.1 in
    c2.0 n

-- ---- the numbers for hard and soft

hold_hard : (x : Option Hold) → hold_number x ≡ 1 → x ≡ some hold.Hard
hold_hard none e = absurd (omega arith)
hold_hard (some hold.Hard) e = refl
hold_hard (some (hold.Soft r)) e = absurd (omega arith)

hold_soft : (x : Option Hold) (r : ℕ) → hold_number x ≡ 2 + r → x ≡ some (hold.Soft r)
hold_soft none r e = absurd (omega arith)
hold_soft (some hold.Hard) r e = absurd (omega arith)
hold_soft (some (hold.Soft q)) r e = let z : q ≡ r = omega arith in ap (λ (n : ℕ). some (hold.Soft n)) z

-- ---- the functions

module _ (table image undo : List ℕ) (c : Change) (e : CreateEnd) (p : CreateCall table image undo c e) where
  pub create_reaches : e.refusal ≡ 0 → CreateEndReaches image undo c e
  create_reaches z = by (table_or_not table)
    where
      by : Dec (IsTable table) → CreateEndReaches image undo c e
      by (yes t) =
          let q = p.is_table t in
          let o = q.0 in
          let reach = question_seven.creates (table_in table) image undo c o q.1 (sym (ap (λ (x : CreateEnd). x.refusal) q.2) ∙ z) in
          subst (CreateEndReaches image undo c) (sym q.2) (record {
            in_image = reach.in_image;
            hard = λ h. reach.hard (hold_hard (hard_or_soft o.answer) h);
            soft = λ r h. reach.soft r (hold_soft (hard_or_soft o.answer) r h);
          })
      by (no n) = absurd (no_grant n (p.no_table n).0 z)

  pub create-refused : (e.refusal ≡ 0 → ⊥) → (e.table ≡ table) × (e.image ≡ image) × (e.undo ≡ undo)
  create-refused d = by (table_or_not table)
    where
      by : Dec (IsTable table) → (e.table ≡ table) × (e.image ≡ image) × (e.undo ≡ undo)
      by (yes t) =
          let q = p.is_table t in
          let o = q.0 in
          let n : answer_number o.answer ≡ 0 → ⊥ = λ z. d (ap (λ (x : CreateEnd). x.refusal) q.2 ∙ z) in
          let same = question_seven.create-refused (table_in table) image undo c o q.1 n in
          subst (λ (x : CreateEnd). (x.table ≡ table) × (x.image ≡ image) × (x.undo ≡ undo)) (sym q.2) (unwritten _ table o.table n, same.1, same.2)
      by (no n) =
          let same = (p.no_table n).1 in
          (ap (λ (x : CreateEnd). x.table) same, ap (λ (x : CreateEnd). x.image) same, ap (λ (x : CreateEnd). x.undo) same)

module _ (table image undo handed : List ℕ) (b : ℕ) (e : WriteEnd) (p : WriteCall table image undo handed b e) where
  pub write_reaches : (e.image ≡ image) × (e.undo ≡ undo)
  write_reaches = by (table_or_not table)
    where
      by : Dec (IsTable table) → (e.image ≡ image) × (e.undo ≡ undo)
      by (yes t) =
          let q = p.is_table t in
          subst (λ (x : WriteEnd). (x.image ≡ image) × (x.undo ≡ undo)) (sym q.2)
          (question_seven.writes (table_in table) image undo handed b q.0 q.1)
      by (no n) = let same = (p.no_table n).1 in (ap (λ (x : WriteEnd). x.image) same, ap (λ (x : WriteEnd). x.undo) same)

  pub write-refused : (e.refusal ≡ 0 → ⊥) → (e.table ≡ table) × (e.handed ≡ handed)
  write-refused d = by (table_or_not table)
    where
      by : Dec (IsTable table) → (e.table ≡ table) × (e.handed ≡ handed)
      by (yes t) =
          let q = p.is_table t in
          let o = q.0 in
          let n : answer_number o.answer ≡ 0 → ⊥ = λ z. d (ap (λ (x : WriteEnd). x.refusal) q.2 ∙ z) in
          subst (λ (x : WriteEnd). (x.table ≡ table) × (x.handed ≡ handed)) (sym q.2)
          (unwritten _ table o.table n, (question_seven.write-refused (table_in table) image undo handed b o q.1 n).1)
      by (no n) = let same = (p.no_table n).1 in (ap (λ (x : WriteEnd). x.table) same, ap (λ (x : WriteEnd). x.handed) same)

pub complete-refused : (table : List ℕ) (b k : ℕ) (after : List ℕ) → CompleteCall table b k after → (k ≡ 0 → ⊥) → after ≡ table
complete-refused table b k after p d = by (table_or_not table)
  where
    by : Dec (IsTable table) → after ≡ table
    by (yes t) = let q = p.is_table t in q.3 ∙ unwritten _ table q.0.table (λ z. d (q.2 ∙ z))
    by (no n) = (p.no_table n).1

-- a write that is not granted, tried or not, leaves the block handed out
handed_kept : {t : Table} {image undo handed : List ℕ} {x y : ℕ} {o : Joint} → CompletesWrites t image undo handed x y o → (second_as o.second ≡ 0 → ⊥)
    → o.block ≡ handed
handed_kept (CompletesWrites.stops c p n e) d = ap (λ (u : Joint). u.block) e
handed_kept (CompletesWrites.goes_on c p z w q e) d =
    ap (λ (u : Joint). u.block) e
    ∙ ap (λ (v : Writing). v.block) (q.refusal (λ g. d (ap (λ (u : Joint). second_as u.second) e ∙ g))).2

module _ (table image undo handed : List ℕ) (x y : ℕ) (e : JointEnd) (p : JointCall table image undo handed x y e) where
  pub joint_reaches : (e.image ≡ image) × (e.undo ≡ undo)
  joint_reaches = by (table_or_not table)
    where
      by : Dec (IsTable table) → (e.image ≡ image) × (e.undo ≡ undo)
      by (yes t) =
          let q = p.is_table t in
          subst (λ (u : JointEnd). (u.image ≡ image) × (u.undo ≡ undo)) (sym q.2)
          (question_seven.joint (table_in table) image undo handed x y q.0 q.1)
      by (no n) = let same = p.no_table n in (ap (λ (u : JointEnd). u.image) same, ap (λ (u : JointEnd). u.undo) same)

  pub joint-refused : (e.first ≡ 0 → ⊥) → (e.table ≡ table) × (e.handed ≡ handed)
  joint-refused d = by (table_or_not table)
    where
      by : Dec (IsTable table) → (e.table ≡ table) × (e.handed ≡ handed)
      by (yes t) =
          let q = p.is_table t in
          let o = q.0 in
          let n : answer_number o.first ≡ 0 → ⊥ = λ z. d (ap (λ (u : JointEnd). u.first) q.2 ∙ z) in
          subst (λ (u : JointEnd). (u.table ≡ table) × (u.handed ≡ handed)) (sym q.2)
          (unwritten _ table o.table n, (question_seven.joint-refused (table_in table) image undo handed x y o q.1 n).1)
      by (no n) = let same = p.no_table n in (ap (λ (u : JointEnd). u.table) same, ap (λ (u : JointEnd). u.handed) same)

  pub joint_write_refused : (e.second ≡ 0 → ⊥) → e.handed ≡ handed
  joint_write_refused d = by (table_or_not table)
    where
      by : Dec (IsTable table) → e.handed ≡ handed
      by (yes t) =
          let q = p.is_table t in
          ap (λ (u : JointEnd). u.handed) q.2 ∙ handed_kept q.1 (λ z. d (ap (λ (u : JointEnd). u.second) q.2 ∙ z))
      by (no n) = ap (λ (u : JointEnd). u.handed) (p.no_table n)
