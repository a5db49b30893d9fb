-- QUESTION FOUR. Only states and cites.
use Rattle.demands.specs.QuestionFour.{QuestionFour, QuestionFourForLife}
use Rattle.demands.proofs.Demand3.{demand_3, notes_true, committed_stays}
use Rattle.demands.proofs.Life.{life_holds, life_opening, each_happened, life_for_good, names_stay, rest_landed, rest_image}

pub question_four : QuestionFour
question_four = record {
  at_any_cut = λ h w new. demand_3 w new;
  by_true_notes = λ h w. notes_true w;
  for_good = λ h w a m p. committed_stays w a m p;
}

pub question_four_for_life : QuestionFourForLife
question_four_for_life = record {
  at_any_cut = life_holds;
  at_opening = life_opening;
  each_safe = λ store life l u m. demand_3 (each_happened l u m) u.new;
  by_true_notes = λ store life l u m. notes_true (each_happened l u m);
  for_good = life_for_good;
  names_stay = names_stay;
  at_rest = λ h w rest new. (rest_landed h w rest new, rest_image h w rest new);
}
