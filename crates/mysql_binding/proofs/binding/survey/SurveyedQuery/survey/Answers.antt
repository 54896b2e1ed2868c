use Rattle.mysql_binding.proofs.SurveyedQueryLemmas.{on_survey}
use Rattle.mysql_binding.proofs.binding.survey.SurveyedQuery.survey.Goals as goal

pub returns-clause-survey : goal.returns-clause-survey
returns-clause-survey c = on_survey _ _ _ c.args.self.now.surveyed
