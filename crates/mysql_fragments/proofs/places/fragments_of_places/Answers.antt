use Rattle.std.proofs.Common.{ap, inr, refl, ◌∙◌, sym}
use Rattle.mysql_params_core.specs.Referents.{referents}
use Rattle.mysql_binding.proofs.SurveyedQueryLemmas.{on_survey}
use Rattle.mysql_params_core.specs.declared.params.errors.ParamsConfusionError.TheVariants.{NamedParamsForPositionalQuery, PositionalParamsForNamedQuery}
use Rattle.mysql_fragments.specs.GivenFragments.{confused, given_fragments}
use Rattle.mysql_fragments.proofs.PlaceLemmas.{positional_refused, named_refused, named_on, named_told}
use Rattle.mysql_fragments.proofs.places.fragments_of_places.Goals as goal

pub returns-else-name_count-eq0-clause-refused : goal.returns-else-name_count-eq0-clause-refused
returns-else-name_count-eq0-clause-refused c =
    let o = on_survey _ _ _ c.args.surveyed.now.surveyed in
    (o.0, o.1, inr (confused PositionalParamsForNamedQuery, positional_refused _ _ _ (ap given_fragments c.in-Positional.is) (λ z. c.if-name_count-eq0.false (o.2.0 ∙ z)), refl))

pub returns-then-name_count-eq0-2-clause-refused : goal.returns-then-name_count-eq0-2-clause-refused
returns-then-name_count-eq0-2-clause-refused c =
    let o = on_survey _ _ _ c.args.surveyed.now.surveyed in
    (o.0, o.1, inr (confused NamedParamsForPositionalQuery, named_refused _ _ _ (ap given_fragments c.in-Named.is) (sym o.2.0 ∙ c.if-name_count-eq0-2.true), refl))

pub returns-else-name_count-eq0-2-clause-fragments : goal.returns-else-name_count-eq0-2-clause-fragments
returns-else-name_count-eq0-2-clause-fragments c =
    let o = on_survey _ _ _ c.args.surveyed.now.surveyed in
    named_on (λ list. referents list.items) _ _ _ _ (ap given_fragments c.in-Named.is) _ c.if-name_count-eq0-2.false c.fragments_of_names.result
    (o.0, o.1, o.2.0) c.fragments_of_names.ensures.fragments

pub returns-else-name_count-eq0-2-clause-refused : goal.returns-else-name_count-eq0-2-clause-refused
returns-else-name_count-eq0-2-clause-refused c =
    let o = on_survey _ _ _ c.args.surveyed.now.surveyed in
    named_told _ _ _ _ (ap given_fragments c.in-Named.is) _ c.if-name_count-eq0-2.false (o.0, o.1, o.2.0) c.fragments_of_names.result c.fragments_of_names.ensures.refused
