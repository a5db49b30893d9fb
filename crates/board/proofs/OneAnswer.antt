-- ONE ANSWER: for each exported function, any two ends that its promise admits are equal, as values. Assumes nothing.
use Prim.Native.Nat.{ℕ, zero, suc, ◌≤◌, ◌<◌}
use mathlib.Core.Path.{◌≡◌, sym, ap, ◌∙◌}
use mathlib.Core.List.{List}
use native.Mathlib.Decide.{ℕ_discrete, dec_le}
use native.Mathlib.Omega.{arith}
use lib.ListN.{length}
use Rattle.rules.specs.declared.Setting.TheVariants.{Board}
use Rattle.rules.specs.Sizes.{slots}
use Rattle.rules.specs.Create.{Change}
use Rattle.rules.specs.Ask.{ask_word}
use Rattle.rules.specs.Calls.{Opening, Completion, answer_number, ask_number, counted}
use Rattle.rules.proofs.Cases.{first_one}
use Rattle.rules.proofs.OneAnswer.{open_one, create_one, write_one, complete_one, complete_write_one, ask_one, count_one}
use Rattle.records.specs.Record.{Call}
use Rattle.records.proofs.OneAnswer.{record_one, joint_record_one}
use Rattle.layout.specs.Layout.{table_bytes, number_at, slot_start, IsTable, table_in, bytes_of}
use Rattle.board.specs.Calls.{table_after, OpenCall, CreateEnd, create_end, create_none, CreateCall, WriteEnd, write_end, write_none, WriteCall}
use Rattle.board.specs.Calls.{CompleteCall, JointEnd, joint_end, JointCall, AskCall, CountCall}
use Rattle.board.specs.Records.{RecordEnd, record_end, RecordCall, JointRecordCall}

-- bytes are a table or they are not
tags_to : (bytes : List ℕ) (n : ℕ) → Dec ((i : ℕ) → i < n → number_at bytes (slot_start i) 4 ≤ 4)
tags_to bytes zero = yes (λ i l. absurd (omega arith))
tags_to bytes (suc n) = by (tags_to bytes n) (dec_le (number_at bytes (slot_start n) 4) 4)
  where
    last : ((i : ℕ) → i < n → number_at bytes (slot_start i) 4 ≤ 4) → number_at bytes (slot_start n) 4 ≤ 4 → (i : ℕ) → i < suc n → Dec (i ≡ n)
        → number_at bytes (slot_start i) 4 ≤ 4
    last f h i l (yes e) = rw e h
    last f h i l (no d) = f i (omega arith)

    by : Dec ((i : ℕ) → i < n → number_at bytes (slot_start i) 4 ≤ 4) → Dec (number_at bytes (slot_start n) 4 ≤ 4)
        → Dec ((i : ℕ) → i < suc n → number_at bytes (slot_start i) 4 ≤ 4)
    by (no d) h = no (λ f. d (λ i l. f i (omega arith)))
    by (yes f) (no d) = no (λ g. d (g n (omega arith)))
    by (yes f) (yes h) = yes (λ i l. last f h i l (ℕ_discrete i n))

pub table_or_not : (bytes : List ℕ) → Dec (IsTable bytes)
table_or_not bytes = by (ℕ_discrete (length bytes) table_bytes) (tags_to bytes slots)
  where
    by : Dec (length bytes ≡ table_bytes) → Dec ((i : ℕ) → i < slots → number_at bytes (slot_start i) 4 ≤ 4) → Dec (IsTable bytes)
    by (no d) h = no (λ t. d t.size)
    by (yes e) (no d) = no (λ t. d t.tags)
    by (yes e) (yes f) = yes (record { size = e; tags = f })

module _ {table : List ℕ} where
  pub open_call_one : {first k k' : ℕ} {after after' : List ℕ} → OpenCall table first k after → OpenCall table first k' after' → (k ≡ k') × (after ≡ after')
  open_call_one {first} {k} {k'} {after} {after'} p q = by (ℕ_discrete (length table) table_bytes)
    where
      by : Dec (length table ≡ table_bytes) → (k ≡ k') × (after ≡ after')
      by (yes e) =
          let a = p.sized e in
          let b = q.sized e in
          let o = open_one Board first a.0 b.0 a.1 b.1 in
          (a.2 ∙ ap (λ (x : Opening). answer_number x.answer) o ∙ sym b.2, a.3 ∙ ap (λ (x : Opening). bytes_of x.table) o ∙ sym b.3)
      by (no d) = ((p.other d).0 ∙ sym (q.other d).0, (p.other d).1 ∙ sym (q.other d).1)

  pub create_call_one : {image undo : List ℕ} {c : Change} {e e' : CreateEnd} → CreateCall table image undo c e → CreateCall table image undo c e' → e ≡ e'
  create_call_one {image} {undo} {c} {e} {e'} p q = by (table_or_not table)
    where
      by : Dec (IsTable table) → e ≡ e'
      by (yes i) =
          let a = p.is_table i in
          let b = q.is_table i in
          a.2 ∙ ap (create_end table) (create_one (table_in table) image undo c a.0 b.0 a.1 b.1) ∙ sym b.2
      by (no n) =
          let a = p.no_table n in
          let b = q.no_table n in
          a.1 ∙ ap (create_none table image undo) (first_one a.0 b.0) ∙ sym b.1

  pub write_call_one : {image undo handed : List ℕ} {b : ℕ} {e e' : WriteEnd} → WriteCall table image undo handed b e
      → WriteCall table image undo handed b e' → e ≡ e'
  write_call_one {image} {undo} {handed} {b} {e} {e'} p q = by (table_or_not table)
    where
      by : Dec (IsTable table) → e ≡ e'
      by (yes i) =
          let x = p.is_table i in
          let y = q.is_table i in
          x.2 ∙ ap (write_end table) (write_one (table_in table) image undo handed b x.0 y.0 x.1 y.1) ∙ sym y.2
      by (no n) =
          let x = p.no_table n in
          let y = q.no_table n in
          x.1 ∙ ap (write_none table image undo handed) (first_one x.0 y.0) ∙ sym y.1

  pub complete_call_one : {b k k' : ℕ} {after after' : List ℕ} → CompleteCall table b k after → CompleteCall table b k' after' → (k ≡ k') × (after ≡ after')
  complete_call_one {b} {k} {k'} {after} {after'} p q = by (table_or_not table)
    where
      by : Dec (IsTable table) → (k ≡ k') × (after ≡ after')
      by (yes i) =
          let x = p.is_table i in
          let y = q.is_table i in
          let o = complete_one (table_in table) b x.0 y.0 x.1 y.1 in (
            x.2 ∙ ap (λ (z : Completion). answer_number z.answer) o ∙ sym y.2,
            x.3 ∙ ap
                (λ (z : Completion). table_after (answer_number z.answer) table z.table) o ∙ sym y.3,
          )
      by (no n) = ((p.no_table n).0 ∙ sym (q.no_table n).0, (p.no_table n).1 ∙ sym (q.no_table n).1)

  pub joint_call_one : {image undo handed : List ℕ} {x y : ℕ} {e e' : JointEnd} → JointCall table image undo handed x y e
      → JointCall table image undo handed x y e' → e ≡ e'
  joint_call_one {image} {undo} {handed} {x} {y} {e} {e'} p q = by (table_or_not table)
    where
      by : Dec (IsTable table) → e ≡ e'
      by (yes i) =
          let a = p.is_table i in
          let b = q.is_table i in
          a.2 ∙ ap (joint_end table) (complete_write_one (table_in table) image undo handed x y a.0 b.0 a.1 b.1) ∙ sym b.2
      by (no n) = p.no_table n ∙ sym (q.no_table n)

  pub ask_call_one : {n k k' s s' : ℕ} → AskCall table n k s → AskCall table n k' s' → (k ≡ k') × (s ≡ s')
  ask_call_one {n} {k} {k'} {s} {s'} p q = by (table_or_not table)
    where
      by : Dec (IsTable table) → (k ≡ k') × (s ≡ s')
      by (yes i) =
          let x = p.is_table i in
          let y = q.is_table i in
          let o = ask_one (table_in table) n x.0 y.0 x.1 y.1 in
          (x.2 ∙ ap ask_number o ∙ sym y.2, x.3 ∙ ap ask_word o ∙ sym y.3)
      by (no d) = ((p.no_table d).0 ∙ sym (q.no_table d).0, (p.no_table d).1 ∙ sym (q.no_table d).1)

  pub count_call_one : {b k k' n n' : ℕ} → CountCall table b k n → CountCall table b k' n' → (k ≡ k') × (n ≡ n')
  count_call_one {b} {k} {k'} {n} {n'} p q = by (table_or_not table)
    where
      by : Dec (IsTable table) → (k ≡ k') × (n ≡ n')
      by (yes i) =
          let x = p.is_table i in
          let y = q.is_table i in
          let o = count_one (table_in table) b x.0 y.0 x.1 y.1 in
          (x.2 ∙ ap answer_number o ∙ sym y.2, x.3 ∙ ap counted o ∙ sym y.3)
      by (no d) = ((p.no_table d).0 ∙ sym (q.no_table d).0, (p.no_table d).1 ∙ sym (q.no_table d).1)

-- the five that record a call
pub record_call_one : (buffer : List ℕ) (c : Call) (e e' : RecordEnd) → RecordCall buffer c e → RecordCall buffer c e' → e ≡ e'
record_call_one buffer c e e' p q =
    let a = p.is in
    let b = q.is in
    a.2 ∙ ap record_end (record_one buffer c a.0 b.0 a.1 b.1) ∙ sym b.2

-- and the one for the joint call
pub joint_record_call_one : (buffer : List ℕ) (x y first : ℕ) (e e' : RecordEnd) → JointRecordCall buffer x y first e
    → JointRecordCall buffer x y first e' → e ≡ e'
joint_record_call_one buffer x y first e e' p q =
    let a = p.is in
    let b = q.is in
    a.2 ∙ ap record_end (joint_record_one buffer x y first a.0 b.0 a.1 b.1) ∙ sym b.2
