use Rattle.std.proofs.Common.{◌≡◌, ℕ, List, subst, sym, ◌∙◌}
use Rattle.mysql_named_params.specs.Reading.{IsTokensIn}
use Rattle.mysql_binding.proofs.FoundQueryLemmas.{on_parsed}
use Rattle.mysql_binding.proofs.SurveyedQueryLemmas.{all_are_first, survey_of, survey_within}
use Rattle.mysql_binding.proofs.binding.found_query.FoundQuery.surveyed.Goals as goal

pub invariant_of-result : goal.invariant_of-result
invariant_of-result c =
    let reading = c.args.self.now.reading in
    let query = c.as_slice.result.now in
    let i = on_parsed _ _ _ _ c.args.self.now.parsed in
    let tokens : IsTokensIn reading query i.0 = subst (λ (q : List ℕ). IsTokensIn reading q i.0) (sym c.as_slice.ensures.value) i.1 in
    record {
      surveyed = survey_of reading query c.args.self.now.survey (i.0, tokens, i.2.0);
      in_query = survey_within reading query c.args.self.now.survey (i.0, tokens, i.2.0);
      first = all_are_first reading query c.as_slice-2.result.now (i.0, tokens, c.as_slice-2.ensures.value ∙ i.2.1);
    }

pub returns-clause-places : goal.returns-clause-places
returns-clause-places c =
    let i = on_parsed _ _ _ _ c.args.self.now.parsed in
    (i.0, i.1, c.as_slice-2.ensures.value ∙ i.2.1)

pub returns-clause-survey : goal.returns-clause-survey
returns-clause-survey c =
    let i = on_parsed _ _ _ _ c.args.self.now.parsed in
    (i.0, i.1, i.2.0)
