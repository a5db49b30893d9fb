-- QUESTIONS FOUR AND SEVEN, OF A FIRMWARE THAT LINKS THE LIBRARY. Only states and cites.
use Rattle.demands.specs.Life.{power_up}
use Rattle.demands.proofs.QuestionFour.{question_four, question_four_for_life}
use Rattle.demands.proofs.QuestionSeven.{question_seven, question_seven_for_life}
use Rattle.firmware.specs.Run.{meant, HasLived}
use Rattle.firmware.specs.Answers.{FirmwareQuestionFour, FirmwareQuestionFourForLife, FirmwareQuestionSeven, FirmwareQuestionSevenForLife}
use Rattle.firmware.proofs.Means.{run_is_history, called_committed, answers_three, later_is_later, life_is_life}
use Rattle.firmware.proofs.Reach as reach

pub firmware_question_four : FirmwareQuestionFour
firmware_question_four = record {
  at_any_cut = λ r w new. question_four.at_any_cut (meant r) (run_is_history w) new;
  by_true_notes = λ r w. question_four.by_true_notes (meant r) (run_is_history w);
  for_good = λ r w a m k p r' l new. question_four.for_good (meant r) (run_is_history w) a m (called_committed w p) (meant r') (later_is_later w l) new;
}

pub firmware_question_four_for_life : FirmwareQuestionFourForLife
firmware_question_four_for_life = record {
  at_any_cut = λ store life l. question_four_for_life.at_any_cut store life (life_is_life l);
  at_opening = λ store life u l. question_four_for_life.at_opening store life u (life_is_life l);
  each_safe = λ store life l. question_four_for_life.each_safe store life (life_is_life l);
  by_true_notes = λ store life l. question_four_for_life.by_true_notes store life (life_is_life l);
  for_good = λ life r r' new w on m a k n p.
      question_four_for_life.for_good life (power_up (meant r') new) m (meant r) (run_is_history w) (later_is_later w on) a k (called_committed w p);
  names_stay = λ store life l r new w e o v m a k.
      let stay = question_four_for_life.names_stay store (power_up (meant r) new) life (life_is_life (HasLived.again r new l w e)) o v m a k in
      (answers_three w stay.0, stay.1);
  at_rest = λ r w. question_four_for_life.at_rest (meant r) (run_is_history w);
}

pub firmware_question_seven : FirmwareQuestionSeven
firmware_question_seven = record {
  creates = reach.create_reaches;
  writes = reach.write_reaches;
  create-refused = reach.create-refused;
  write-refused = reach.write-refused;
  complete-refused = reach.complete-refused;
  joint = reach.joint_reaches;
  joint-refused = reach.joint-refused;
  joint_write_refused = reach.joint_write_refused;
  store = λ r w new p l. question_seven.store (meant r) (run_is_history w) new p l;
}

pub firmware_question_seven_for_life : FirmwareQuestionSevenForLife
firmware_question_seven_for_life = record { store = λ store life l. question_seven_for_life.store store life (life_is_life l) }
