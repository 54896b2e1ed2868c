use Rattle.mysql_named_params.specs.Reading.{reading_with}
use Rattle.mysql_named_params.specs.Places.{with_marks}
use Rattle.mysql_named_params.proofs.ReparsedLemmas.{marked_reading}
use Rattle.mysql_binding.proofs.BoundAgainLemmas.{by_position_is_the_same}
use Rattle.mysql_bind_call.proofs.AgainLemmas.{both_text_positioned, steady_text_positioned}
use Rattle.mysql_bind_call.proofs.laws.texts_by_position.Goals as goal

pub returns : goal.returns
returns c = record {
  one_mode = λ wide mode query text ts given is t.
      let reading = reading_with wide mode in
      (t.values, t.looked_up, (with_marks ts, marked_reading reading query ts is, by_position_is_the_same reading query text ts given is t));
  any_connection = λ wide mode query text ts given is t. steady_text_positioned wide mode query given text ts is t;
  either_mode = λ wide mode query text ts given is t. both_text_positioned wide mode query given text ts is t;
}
