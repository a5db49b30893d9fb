-- QUESTION SEVEN. Only states and cites.
use Prim.Native.Nat.{ℕ}
use mathlib.Core.Path.{sym, ap, subst}
use mathlib.Core.List.{List}
use lib.ListN.{get_or}
use native.Mathlib.Omega.{arith}
use Rattle.rules.specs.Calls.{Creation, Writing, Completion}
use Rattle.rules.specs.Joint.{Joint}
use Rattle.rules.proofs.Joint.{joint-refused, joint_write_refused}
use Rattle.demands.specs.Demand3.{has_landed}
use Rattle.demands.specs.QuestionSeven.{Holds, QuestionSeven, QuestionSevenForLife}
use Rattle.demands.proofs.Histories.{happened_good}
use Rattle.demands.proofs.Demand3.{demand_3}
use Rattle.demands.proofs.Reach.{create_reaches, write_reaches, place_holds}
use Rattle.demands.proofs.Joint.{joint_reaches}
use Rattle.demands.proofs.Life.{life_place}

pub question_seven : QuestionSeven
question_seven = record {
  creates = create_reaches;
  writes = write_reaches;
  create-refused = λ t image undo c o p d.
      let same = (p.refusal d).2 in
      (ap (λ (x : Creation). x.table) same, ap (λ (x : Creation). x.image) same, ap (λ (x : Creation). x.undo) same);
  write-refused = λ t image undo block b o p d. (ap (λ (x : Writing). x.table) (p.refusal d).2, ap (λ (x : Writing). x.block) (p.refusal d).2);
  complete-refused = λ t b o p d. ap (λ (x : Completion). x.table) (p.refusal d).2;
  joint = joint_reaches;
  joint-refused = λ t image undo block x y o p d. (ap (λ (z : Joint). z.table) (joint-refused p d).2, ap (λ (z : Joint). z.block) (joint-refused p d).2);
  joint_write_refused = λ t image undo block x y o p k e d. ap (λ (z : Joint). z.block) (joint_write_refused k p e d).2;
  store = λ h w new p l.
      subst (λ (s : List ℕ). Holds (has_landed new h) h.accepted h.opening p (get_or s p 0)) (sym (demand_3 w new).holds)
      (place_holds (has_landed new h) h.accepted h.opening p (omega (arith, (happened_good w).opening_whole)));
}

pub question_seven_for_life : QuestionSevenForLife
question_seven_for_life = record { store = life_place }
