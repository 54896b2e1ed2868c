use Rattle.std.proofs.Common.{arith, refl}
use Rattle.mysql_params_core.specs.Referents.{referents}
use Rattle.mysql_binding.proofs.AppendedTextLemmas.{handed_on}
use Rattle.mysql_binding.proofs.SurveyedQueryLemmas.{on_survey, unmixed_query}
use Rattle.mysql_fragments.specs.FragmentErrors.{IsCauseOrMemory, first_cause}
use Rattle.mysql_fragments.specs.GivenFragments.{given_fragments}
use Rattle.mysql_fragments.proofs.ExpandedLemmas.{mixed_refused, refused_places, refused_later, placed_on}
use Rattle.mysql_fragments.proofs.expanded.placed_surveyed.Goals.{else-survey-gt0-via-then-survey-gt0+else-survey-gt0-2, else-survey-gt0-via-else-survey-gt0}
use Rattle.mysql_fragments.proofs.expanded.placed_surveyed.Goals as goal

pub returns-in-Some-clause-refused : goal.returns-in-Some-clause-refused
returns-in-Some-clause-refused c =
    refused_later c.args.as_literals _ _ (given_fragments c.args.fragments.now) c.args.surveyed.now.survey (on_survey _ _ _ c.args.surveyed.now.surveyed)
    (λ both. elim c.else-survey-gt0.branch [ else-survey-gt0-via-then-survey-gt0+else-survey-gt0-2 w ↦ omega (arith, both.1, w.if-survey-gt0-2.false) | else-survey-gt0-via-else-survey-gt0 w ↦ omega (arith, both.0, w.if-survey-gt0.false) ])
    (referents c.in_ok-list.list.items) c.in_ok-list.ensures.fragments c.in-Some.error (rw c.as_slice.ensures.value at c.in-Some.ensures)

pub returns-in-Some-clause-mixed : goal.returns-in-Some-clause-mixed
returns-in-Some-clause-mixed c =
    let o = on_survey _ _ _ c.args.surveyed.now.surveyed in
    (o.0, o.1, λ both. elim c.else-survey-gt0.branch [ else-survey-gt0-via-then-survey-gt0+else-survey-gt0-2 w ↦ absurd (omega (arith, both.1, o.2.1, w.if-survey-gt0-2.false)) | else-survey-gt0-via-else-survey-gt0 w ↦ absurd (omega (arith, both.0, o.2.0, w.if-survey-gt0.false)) ])

pub returns-clause-placed : goal.returns-clause-placed
returns-clause-placed c =
    placed_on c.args.as_literals _ _ (given_fragments c.args.fragments.now) c.args.surveyed.now.survey (on_survey _ _ _ c.args.surveyed.now.surveyed)
    (λ both. elim c.else-survey-gt0.branch [ else-survey-gt0-via-then-survey-gt0+else-survey-gt0-2 w ↦ omega (arith, both.1, w.if-survey-gt0-2.false) | else-survey-gt0-via-else-survey-gt0 w ↦ omega (arith, both.0, w.if-survey-gt0.false) ])
    (referents c.in_ok-list.list.items) c.in_ok-list.ensures.fragments (rw c.as_slice.ensures.value at c.in-None.ensures)

pub returns-clause-mixed : goal.returns-clause-mixed
returns-clause-mixed c =
    let o = on_survey _ _ _ c.args.surveyed.now.surveyed in
    (o.0, o.1, λ both. elim c.else-survey-gt0.branch [ else-survey-gt0-via-then-survey-gt0+else-survey-gt0-2 w ↦ absurd (omega (arith, both.1, o.2.1, w.if-survey-gt0-2.false)) | else-survey-gt0-via-else-survey-gt0 w ↦ absurd (omega (arith, both.0, o.2.0, w.if-survey-gt0.false)) ])

pub returns-in_err-list-clause-refused : goal.returns-in_err-list-clause-refused
returns-in_err-list-clause-refused c =
    let o = refused_places c.args.as_literals _ _ (given_fragments c.args.fragments.now) c.args.surveyed.now.survey (on_survey _ _ _ c.args.surveyed.now.surveyed)
    (λ both. elim c.else-survey-gt0.branch [ else-survey-gt0-via-then-survey-gt0+else-survey-gt0-2 w ↦ omega (arith, both.1, w.if-survey-gt0-2.false) | else-survey-gt0-via-else-survey-gt0 w ↦ omega (arith, both.0, w.if-survey-gt0.false) ])
    c.in_err-list.field-0.0 c.in_err-list.ensures.refused in
    (o.0, o.1, handed_on (IsCauseOrMemory (first_cause c.args.as_literals o.0 (given_fragments c.args.fragments.now))) c.from_residual.result c.in_err-list.field-0.0 c.from_residual.ensures.1 o.2)

pub returns-in_err-list-clause-mixed : goal.returns-in_err-list-clause-mixed
returns-in_err-list-clause-mixed c =
    let o = on_survey _ _ _ c.args.surveyed.now.surveyed in
    (o.0, o.1, λ both. elim c.else-survey-gt0.branch [ else-survey-gt0-via-then-survey-gt0+else-survey-gt0-2 w ↦ absurd (omega (arith, both.1, o.2.1, w.if-survey-gt0-2.false)) | else-survey-gt0-via-else-survey-gt0 w ↦ absurd (omega (arith, both.0, o.2.0, w.if-survey-gt0.false)) ])

pub fragments_of_places-requires : goal.fragments_of_places-requires
fragments_of_places-requires c = record {
  unmixed =
      unmixed_query _ _ c.args.surveyed.now.survey c.args.surveyed.now.surveyed
      (λ both. elim c.else-survey-gt0.branch [ else-survey-gt0-via-then-survey-gt0+else-survey-gt0-2 w ↦ omega (arith, both.1, w.if-survey-gt0-2.false) | else-survey-gt0-via-else-survey-gt0 w ↦ omega (arith, both.0, w.if-survey-gt0.false) ]);
}

pub returns-then-survey-gt0-2-clause-placed : goal.returns-then-survey-gt0-2-clause-placed
returns-then-survey-gt0-2-clause-placed c =
    let o = on_survey _ _ _ c.args.surveyed.now.surveyed in
    (o.0, o.1, tt)

pub returns-then-survey-gt0-2-clause-refused : goal.returns-then-survey-gt0-2-clause-refused
returns-then-survey-gt0-2-clause-refused c =
    mixed_refused c.args.as_literals _ _ (given_fragments c.args.fragments.now) c.args.surveyed.now.survey (on_survey _ _ _ c.args.surveyed.now.surveyed) c.if-survey-gt0.true c.if-survey-gt0-2.true

pub returns-then-survey-gt0-2-clause-mixed : goal.returns-then-survey-gt0-2-clause-mixed
returns-then-survey-gt0-2-clause-mixed c =
    let o = on_survey _ _ _ c.args.surveyed.now.surveyed in
    (o.0, o.1, λ both. refl)
