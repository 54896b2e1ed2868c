use Rattle.mysql_named_params.specs.Reading.{grammar_reading}
use Rattle.mysql_steady_text.proofs.GuardedAgainLemmas as lemmas
use Rattle.mysql_steady_text.proofs.laws.guarded.bound_guarded_texts.Goals as goal

pub returns : goal.returns
returns c = record {
  none = lemmas.no_place_is_left;
  same = lemmas.bound_again_is_the_same;
  by_position = λ mode. lemmas.by_position_is_the_same (grammar_reading mode);
}
