-- THE JOINT CALL IN A RUN: it is the calls that it made, note for note. So no theorem on runs has to be shown anew for it. Assumes nothing.
use Prim.Native.Nat.{ℕ}
use mathlib.Core.Path.{◌≡◌, sym, ap, subst, ◌∙◌}
use mathlib.Core.List.{List}
use native.Mathlib.Decide.{ℕ_discrete}
use borrow.Author.Tests.{ne_eqb}
use Rattle.rules.specs.Sizes.{slots}
use Rattle.rules.specs.Table.{Table}
use Rattle.rules.specs.Write.{sent}
use Rattle.rules.specs.Calls.{answer_number, Writing}
use Rattle.demands.specs.History.{numbers_below}
use Rattle.demands.proofs.Joint.{numbers_left}
use Rattle.layout.specs.Layout.{table_in, bytes_of}
use Rattle.board.specs.Calls.{table_after, WriteEnd, WriteCall, CompleteCall, JointEnd, JointCall}
use Rattle.board.specs.Joint.{end_went, TwoCalls}
use Rattle.board.proofs.Kept.{write_kept}
use Rattle.board.proofs.Joint.{joint_two_calls}
use Rattle.firmware.specs.Run.{Run, run_write, run_complete, RunCall, HasRun, RunsOn}
use Rattle.firmware.specs.Joint.{run_joint, CallsMade, JointIsCalls}
use Rattle.firmware.proofs.Means.{run_table, run_bytes}

module _ (r : Run) (has : HasRun r) (x y : ℕ) (lent : List ℕ) where
  -- the numbers that a granted write sent are the same on the bytes that it left
  numbers_same : (between : List ℕ) → CompleteCall r.bytes x 0 between → (w : WriteEnd) → WriteCall between r.image r.undo lent y w → w.refusal ≡ 0
      → numbers_below (table_in w.table).slots w.set slots ≡ numbers_below (table_in between).slots w.set slots
  numbers_same between p w q z =
      let completed = HasRun.calls has (RunCall.completes x 0 between p) in
      let made = q.is_table (run_table completed) in
      let o = made.0 in
      let granted : answer_number o.answer ≡ 0 = sym (ap (λ (e : WriteEnd). e.refusal) made.2) ∙ z in
      let back = write_kept between (run_bytes completed) r.image r.undo lent y o made.1 granted in
      let stored : table_after (answer_number o.answer) between o.table ≡ bytes_of o.table = rw granted in
      let left : table_in w.table ≡ sent (table_in between) w.set =
      ap (λ (e : WriteEnd). table_in e.table) made.2 ∙ ap table_in stored ∙ back.0 ∙ ap (λ (v : Writing). v.table) (made.1.grant granted).whole
      ∙ ap (sent (table_in between)) (sym (ap (λ (e : WriteEnd). e.set) made.2)) in
      ap (λ (t : Table). numbers_below t.slots w.set slots) left ∙ numbers_left (table_in between) w.set

  went : (between : List ℕ) → CompleteCall r.bytes x 0 between → (w : WriteEnd) → WriteCall between r.image r.undo lent y w
      → run_joint r x y (end_went w) ≡ run_write (run_complete r x 0 between) y w
  went between p w q = elim (ℕ_discrete w.refusal 0) [
    | yes z ↦ rw (numbers_same between p w q z)
    | no d ↦ rw (ne_eqb w.refusal 0 d)
  ]

  joint_is_calls : (e : JointEnd) → JointCall r.bytes r.image r.undo lent x y e → CallsMade r x y lent (run_joint r x y e)
  joint_is_calls e call = by (joint_two_calls (run_bytes has) call)
    where
      by : TwoCalls r.bytes r.image r.undo lent x y e → CallsMade r x y lent (run_joint r x y e)
      by (TwoCalls.stops k p n same) = subst (λ (u : JointEnd). CallsMade r x y lent (run_joint r x y u)) (sym same) (CallsMade.completion k p n)
      by (TwoCalls.goes_on between p w q same) =
          subst (CallsMade r x y lent) (sym (ap (run_joint r x y) same ∙ went between p w q)) (CallsMade.both between p w q)

-- the calls made are calls of a run
made_on : {r : Run} {x y : ℕ} {lent : List ℕ} {r' : Run} → CallsMade r x y lent r' → RunsOn r r'
made_on {r} {x} {y} {lent} {r'} (CallsMade.completion k p n) = RunsOn.then RunsOn.now (RunCall.completes x k r.bytes p)
made_on {r} {x} {y} {lent} {r'} (CallsMade.both between p w q) =
    RunsOn.then (RunsOn.then RunsOn.now (RunCall.completes x 0 between p)) (RunCall.writes y lent w q)

on_has_run : {r r' : Run} → HasRun r → RunsOn r r' → HasRun r'
on_has_run w RunsOn.now = w
on_has_run w (RunsOn.then l c) = HasRun.calls (on_has_run w l) c

pub joint_in_runs : JointIsCalls
joint_in_runs = record {
  is_calls = joint_is_calls;
  runs = λ r w x y lent e p. on_has_run w (made_on (joint_is_calls r w x y lent e p));
  runs_on = λ r w x y lent e p. made_on (joint_is_calls r w x y lent e p);
}
