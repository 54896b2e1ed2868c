use Rattle.mysql_binding.proofs.SurveyedQueryLemmas.{taken_are_first, survey_of}
use Rattle.mysql_binding.proofs.binding.survey.SurveyedQuery.new.Goals as goal

pub invariant_of-result : goal.invariant_of-result
invariant_of-result c = record {
  surveyed = survey_of _ _ _ c.place_survey-kept.ensures.survey;
  in_query = c.place_survey-kept.ensures.in_query;
  first = taken_are_first _ _ _ _ c.place_survey-kept.ensures.kept;
}
