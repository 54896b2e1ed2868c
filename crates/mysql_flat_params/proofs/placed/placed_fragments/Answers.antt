use Rattle.std.proofs.Common.{[], ◌<◌, arith, inr, refl, subst, sym, true, ◌∙◌}
use Rattle.mysql_params_core.specs.declared.params.errors.ParamsConfusionError.TheVariants.{NamedParamsForPositionalQuery, PositionalParamsForNamedQuery}
use Rattle.mysql_fragments.specs.FragmentErrors.{IsPlaceRefusal, refused_fragments}
use Rattle.mysql_fragments.specs.GivenFragments.{confused, positional}
use Rattle.mysql_fragments.proofs.CauseLemmas.{first_refused, mixed_none}
use Rattle.mysql_fragments.proofs.ExpandedLemmas.{unmixed_on}
use Rattle.mysql_fragments.proofs.PlaceLemmas.{named_refused, positional_refused}
use Rattle.mysql_flat_params.specs.FormInPlace.{IsGivenAs}
use Rattle.mysql_flat_params.proofs.PlacedLemmas.{cause_refusal, named_placed, named_refusal}
use Rattle.mysql_flat_params.proofs.placed.placed_fragments.Goals.{else-survey-gt0-via-then-survey-gt0+else-survey-gt0-2, else-survey-gt0-via-else-survey-gt0}
use Rattle.mysql_flat_params.proofs.placed.placed_fragments.Goals as goal

pub returns-then-survey-gt0-3-clause-refused : goal.returns-then-survey-gt0-3-clause-refused
returns-then-survey-gt0-3-clause-refused c = λ given g.
    let o = c.survey-survey.ensures.survey in
    let (said, is, all) = subst (λ k. IsGivenAs k given) c.in-Positional.is g in (
      o.0,
      o.1,
      inr (
        refused_fragments (confused PositionalParamsForNamedQuery),
        first_refused true o.0 given (confused PositionalParamsForNamedQuery)
            (mixed_none o.0 (λ both. elim c.else-survey-gt0.branch [ else-survey-gt0-via-then-survey-gt0+else-survey-gt0-2 w ↦ omega (arith, both.1, o.2.1, w.if-survey-gt0-2.false) | else-survey-gt0-via-else-survey-gt0 w ↦ omega (arith, both.0, o.2.0, w.if-survey-gt0.false) ]))
            (positional_refused given said _ is (λ none. omega (arith, none, o.2.0, c.if-survey-gt0-3.true))),
        refl,
      ),
    )

pub returns-then-survey-eq0-clause-refused : goal.returns-then-survey-eq0-clause-refused
returns-then-survey-eq0-clause-refused c = λ given g.
    let o = c.survey-survey.ensures.survey in
    let (fragments, is, all) = subst (λ k. IsGivenAs k given) c.in-Named.is g in (
      o.0,
      o.1,
      inr (
        refused_fragments (confused NamedParamsForPositionalQuery),
        first_refused true o.0 given (confused NamedParamsForPositionalQuery)
            (mixed_none o.0 (λ both. omega (arith, both.0, o.2.0, c.if-survey-eq0.true)))
            (named_refused given fragments _ is (sym o.2.0 ∙ c.if-survey-eq0.true)),
        refl,
      ),
    )

pub returns-else-survey-eq0-clause-placed : goal.returns-else-survey-eq0-clause-placed
returns-else-survey-eq0-clause-placed c = λ given g.
    let o = c.survey-survey.ensures.survey in
    let (fragments, is, all) = subst (λ k. IsGivenAs k given) c.in-Named.is g in
    named_placed _ _ given fragments is c.survey-survey.result.names c.if-survey-eq0.false
    (unmixed_on true _ _ given c.survey-survey.result o
    (λ both. elim c.else-survey-gt0.branch [ else-survey-gt0-via-then-survey-gt0+else-survey-gt0-2 w ↦ omega (arith, both.1, w.if-survey-gt0-2.false) | else-survey-gt0-via-else-survey-gt0 w ↦ omega (arith, both.0, w.if-survey-gt0.false) ]))
    (λ list. list.items) c.named_fragments.result (c.named_fragments.ensures.placed fragments all)

pub returns-else-survey-eq0-clause-refused : goal.returns-else-survey-eq0-clause-refused
returns-else-survey-eq0-clause-refused c = λ given g.
    let o = c.survey-survey.ensures.survey in
    let (fragments, is, all) = subst (λ k. IsGivenAs k given) c.in-Named.is g in
    let apart : 0 < c.survey-survey.result.names × 0 < c.survey-survey.result.marks → ⊥ =
    λ both. elim c.else-survey-gt0.branch [ else-survey-gt0-via-then-survey-gt0+else-survey-gt0-2 w ↦ omega (arith, both.1, w.if-survey-gt0-2.false) | else-survey-gt0-via-else-survey-gt0 w ↦ omega (arith, both.0, w.if-survey-gt0.false) ] in
    cause_refusal c.named_fragments.result _ _ given c.survey-survey.result o apart
    (named_refusal _ _ given fragments is c.survey-survey.result.names c.if-survey-eq0.false (unmixed_on true _ _ given c.survey-survey.result o apart)
    IsPlaceRefusal c.named_fragments.result (c.named_fragments.ensures.refused fragments all))

pub named_fragments-requires : goal.named_fragments-requires
named_fragments-requires c =
    let o = unmixed_on true _ _ (positional []) c.survey-survey.result c.survey-survey.ensures.survey
    (λ both. elim c.else-survey-gt0.branch [ else-survey-gt0-via-then-survey-gt0+else-survey-gt0-2 w ↦ omega (arith, both.1, w.if-survey-gt0-2.false) | else-survey-gt0-via-else-survey-gt0 w ↦ omega (arith, both.0, w.if-survey-gt0.false) ]) in
    record { unmixed = (o.0, o.1, o.2.1) }

pub returns-then-survey-gt0-3-clause-early : goal.returns-then-survey-gt0-3-clause-early
returns-then-survey-gt0-3-clause-early c = inr (refused_fragments (confused PositionalParamsForNamedQuery), refl, refl)

pub returns-then-survey-eq0-clause-early : goal.returns-then-survey-eq0-clause-early
returns-then-survey-eq0-clause-early c = inr (refused_fragments (confused NamedParamsForPositionalQuery), refl, refl)
