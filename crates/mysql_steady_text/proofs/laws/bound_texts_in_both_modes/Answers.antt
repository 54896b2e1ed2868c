use Rattle.mysql_named_params.specs.Reading.{grammar_reading}
use Rattle.mysql_steady_text.proofs.BothModesAgainLemmas as lemmas
use Rattle.mysql_steady_text.proofs.SteadyTextLemmas.{both_of}
use Rattle.mysql_steady_text.proofs.laws.bound_texts_in_both_modes.Goals as goal

pub returns : goal.returns
returns c = record {
  none = lemmas.no_place_is_left;
  same = lemmas.bound_again_is_the_same;
  by_position = λ mode. lemmas.by_position_is_the_same (grammar_reading mode);
  equal = lemmas.equal_texts_say_the_same;
  steady = both_of;
}
