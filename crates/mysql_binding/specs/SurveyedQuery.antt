-- Contracts about a surveyed query.
use Rattle.std.specs.Prelude.{List}
use Rattle.mysql_named_params.specs.Tokens.{Token}
use Rattle.mysql_named_params.specs.Reading.{OnTokensIn}
use Rattle.mysql_binding.specs.declared.binding.survey.SurveyedQuery.{SurveyedQuery}

-- `Holds` is true for the tokens of the query in its reading
abbrev pub OnSurveyed : SurveyedQuery → (List Token → Type 0) → Type 0
OnSurveyed surveyed Holds = OnTokensIn surveyed.reading surveyed.query.now Holds
