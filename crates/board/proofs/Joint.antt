-- THE EXPORTED JOINT CALL IS THE TWO EXPORTED CALLS; and what "not tried" says, which is no refusal's number. Assumes nothing.
use Prim.Native.Nat.{ℕ, ◌≤◌}
use mathlib.Core.Path.{◌≡◌, refl, sym, ap, subst, ◌∙◌}
use mathlib.Core.List.{List}
use native.Mathlib.Decide.{ℕ_discrete}
use native.Mathlib.Omega.{arith}
use borrow.Author.Tests.{ne_eqb}
use Rattle.rules.specs.Table.{Table}
use Rattle.rules.specs.Calls.{answer_number, Writing, Writes, Completion, Completes}
use Rattle.rules.specs.Joint.{Joint, CompletesWrites, joint_stopped, joint_went, second_number, second_set}
use Rattle.rules.proofs.Joint.{joint-refused, joint_tried, second_most}
use Rattle.layout.specs.Layout.{IsTable, table_in, bytes_of}
use Rattle.board.specs.Calls.{table_after, WriteEnd, write_end, WriteCall, CompleteCall, not_tried, second_as, JointEnd, joint_end, JointCall}
use Rattle.board.specs.Joint.{end_stopped, end_went, TwoCalls}
use Rattle.board.proofs.Answers.{complete_none}
use Rattle.board.proofs.Kept.{Bytes, complete_kept}
use Rattle.board.proofs.OneAnswer.{table_or_not}

-- a refused call writes no table, a granted one writes it
pub unwritten : (k : ℕ) (table : List ℕ) (next : Table) → (k ≡ 0 → ⊥) → table_after k table next ≡ table
unwritten k table next n = rw (ne_eqb k 0 n)

written : (k : ℕ) (table : List ℕ) (next : Table) → k ≡ 0 → table_after k table next ≡ bytes_of next
written k table next z = rw z

-- the bytes that the write leaves, whether it is granted or not
left : {image undo handed : List ℕ} {y : ℕ} (c : Completion) (w : Writing) → Writes c.table image undo handed y w
    → bytes_of w.table ≡ table_after (answer_number w.answer) (bytes_of c.table) w.table
left c w q = elim (ℕ_discrete (answer_number w.answer) 0) [
  | yes z ↦ sym (written (answer_number w.answer) (bytes_of c.table) w.table z)
  | no d ↦ ap (λ (v : Writing). bytes_of v.table) (q.refusal d).2 ∙ sym (unwritten (answer_number w.answer) (bytes_of c.table) w.table d)
]

-- two ends with the same parts
same : {f f' s s' n n' : ℕ} {a a' image undo handed : List ℕ} → f ≡ f' → s ≡ s' → n ≡ n' → a ≡ a'
    → ◌≡◌ {A = JointEnd} (record { first = f; second = s; set = n; table = a; image = image; undo = undo; handed = handed })
    (record { first = f'; second = s'; set = n'; table = a'; image = image; undo = undo; handed = handed })
same a b c d = rw (a, b, c, d)

module _ {table image undo handed : List ℕ} {x y : ℕ} where
  stopped : (c : Completion) → IsTable table → Completes (table_in table) x c → (answer_number c.answer ≡ 0 → ⊥)
      → TwoCalls table image undo handed x y (joint_end table (joint_stopped c image undo handed))
  stopped c i p n =
      let kept = unwritten (answer_number c.answer) table c.table n in
      TwoCalls.stops (answer_number c.answer) (record { is_table = λ d. (c, p, refl, sym kept); no_table = λ d. absurd (d i) }) n
      (ap (λ (after : List ℕ). end_stopped after image undo handed (answer_number c.answer)) kept)

  went : (c : Completion) → Bytes table → IsTable table → Completes (table_in table) x c → answer_number c.answer ≡ 0
      → (w : Writing) → Writes c.table image undo handed y w
      → TwoCalls table image undo handed x y (joint_end table (joint_went c w))
  went c bytes i p z w q =
      let back = complete_kept table bytes x c p z in
      let between = bytes_of c.table in
      let now-written = written (answer_number c.answer) table c.table z in
      TwoCalls.goes_on between (record { is_table = λ d. (c, p, sym z, sym now-written); no_table = λ d. absurd (d i) }) (write_end between w)
      (record {
        is_table = λ d. (w, subst (λ (t : Table). Writes t image undo handed y w) (sym back.0) q, refl);
        no_table = λ d. absurd (d back.1);
      })
      (same z refl refl (written (answer_number c.answer) table w.table z ∙ left c w q))

  pub joint_two_calls : {e : JointEnd} → Bytes table → JointCall table image undo handed x y e → TwoCalls table image undo handed x y e
  joint_two_calls {e} bytes call = by (table_or_not table)
    where
      of : IsTable table → (o : Joint) → CompletesWrites (table_in table) image undo handed x y o → TwoCalls table image undo handed x y (joint_end table o)
      of i o (CompletesWrites.stops c p n e) = subst (λ (u : Joint). TwoCalls table image undo handed x y (joint_end table u)) (sym e) (stopped c i p n)
      of i o (CompletesWrites.goes_on c p z w q e) =
          subst (λ (u : Joint). TwoCalls table image undo handed x y (joint_end table u)) (sym e) (went c bytes i p z w q)

      by : Dec (IsTable table) → TwoCalls table image undo handed x y e
      by (yes i) = let q = call.is_table i in subst (TwoCalls table image undo handed x y) (sym q.2) (of i q.0 q.1)
      by (no n) = TwoCalls.stops 2 (complete_none table x n) (λ z. omega arith) (call.no_table n)

-- ---- "not tried"

-- it is said where completing was refused, with no patch sent, and nowhere else
pub record SaysNotTried (e : JointEnd) : Type 0 where
  pub refused : (e.first ≡ 0 → ⊥) → (e.second ≡ not_tried) × (e.set ≡ 0)
  pub tried : e.first ≡ 0 → e.second ≤ 13

pub says_not_tried : {table image undo handed : List ℕ} {x y : ℕ} {e : JointEnd} → JointCall table image undo handed x y e → SaysNotTried e
says_not_tried {table} {image} {undo} {handed} {x} {y} {e} call = by (table_or_not table)
  where
    of : (o : Joint) → CompletesWrites (table_in table) image undo handed x y o → SaysNotTried (joint_end table o)
    of o p = record {
      refused = λ n. let same = (joint-refused p n).2 in (ap (λ (u : Joint). second_as u.second) same, ap (λ (u : Joint). second_set u.second) same);
      tried = λ z.
          let r = joint_tried p z in
          let number = ap (λ (u : Joint). second_number u.second) r.2 in
          let told = ap (λ (u : Joint). second_as u.second) r.2 in
          omega (arith, told, second_most (answer_number r.0.answer) p number);
    }

    by : Dec (IsTable table) → SaysNotTried e
    by (yes i) = let q = call.is_table i in subst SaysNotTried (sym q.2) (of q.0 q.1)
    by (no n) = subst SaysNotTried (sym (call.no_table n)) (record { refused = λ d. (refl, refl); tried = λ z. absurd (omega (arith, z)) })

-- ---- and made of the two calls, it is the joint call

module _ {table between : List ℕ} {x k : ℕ} (i : IsTable table) (call : CompleteCall table x k between) where
  -- the completion that was made on the table
  abbrev its : (c : Completion) × Completes (table_in table) x c × (k ≡ answer_number c.answer)
      × (between ≡ table_after (answer_number c.answer) table c.table)
  its = call.is_table i

  pub joint_refused_here : {image undo handed : List ℕ} {y : ℕ} → (k ≡ 0 → ⊥)
      → JointCall table image undo handed x y (end_stopped between image undo handed k)
  joint_refused_here {image} {undo} {handed} {y} n =
      let c = its.0 in
      record {
        is_table = λ d. (
          joint_stopped c image undo handed,
          CompletesWrites.stops c its.1 (λ z. n (its.2 ∙ z)) refl,
          same its.2 refl refl its.3,
        );
        no_table = λ d. absurd (d i);
      }

  module _ (bytes : Bytes table) (z : k ≡ 0) where
    granted : answer_number its.0.answer ≡ 0
    granted = sym its.2 ∙ z

    is_next : between ≡ bytes_of its.0.table
    is_next = its.3 ∙ written (answer_number its.0.answer) table its.0.table granted

    -- the bytes between the two calls are a table again
    pub table_between : IsTable between
    table_between = subst IsTable (sym is_next) (complete_kept table bytes x its.0 its.1 granted).1

    pub joint_granted_here : {image undo handed : List ℕ} {y : ℕ} (w : WriteEnd) → WriteCall between image undo handed y w
        → JointCall table image undo handed x y (end_went w)
    joint_granted_here {image} {undo} {handed} {y} w wrote =
        let c = its.0 in
        let made = wrote.is_table table_between in
        let o = made.0 in
        let back : table_in between ≡ c.table = ap table_in is_next ∙ (complete_kept table bytes x c its.1 granted).0 in
        let q = subst (λ (t : Table). Writes t image undo handed y o) back made.1 in
        let stored = ap (λ (b : List ℕ). table_after (answer_number o.answer) b o.table) is_next ∙ sym (left c o q)
        ∙ sym (written (answer_number c.answer) table o.table granted) in
        record {
          is_table = λ d. (
            joint_went c o,
            CompletesWrites.goes_on c its.1 granted o q refl,
            ap end_went made.2 ∙ same (sym granted) refl refl stored,
          );
          no_table = λ d. absurd (d i);
        }
