use Rattle.std.proofs.Common.{arith, refl}
use Rattle.mysql_params_core.specs.GivenBorrowed.{given_by_borrowed}
use Rattle.mysql_binding.specs.PlaceValues.{placed_values}
use Rattle.mysql_binding.proofs.BoundTextLemmas.{refused_mixed}
use Rattle.mysql_binding.proofs.MeasuredTextLemmas.{measured_found, measured_refused}
use Rattle.mysql_binding.proofs.SurveyedQueryLemmas.{found_on, on_survey, unmixed_query}
use Rattle.mysql_binding.proofs.binding.measured_text.Goals as goal
use Rattle.mysql_binding.proofs.binding.measured_text.Goals.{else-survey-gt0-via-then-survey-gt0+else-survey-gt0-2, else-survey-gt0-via-else-survey-gt0}

pub values_of_places-requires : goal.values_of_places-requires
values_of_places-requires g c =
    let surveyed = c.args.surveyed.now in
    record {
      unmixed =
          unmixed_query _ _ surveyed.survey surveyed.surveyed
          (λ both. elim c.else-survey-gt0.branch [ else-survey-gt0-via-then-survey-gt0+else-survey-gt0-2 w ↦ omega (arith, both.1, w.if-survey-gt0-2.false) | else-survey-gt0-via-else-survey-gt0 w ↦ omega (arith, both.0, w.if-survey-gt0.false) ]);
    }

pub returns-clause-measured : goal.returns-clause-measured
returns-clause-measured g c =
    let surveyed = c.args.surveyed.now in
    measured_found _ _ (g.F.LiteralForm.literal c.args.form.now) (given_by_borrowed c.args.params) surveyed.survey (placed_values c.in_ok-values.values) c.measured_values.result
    c.measured_values.ensures.measured (on_survey _ _ surveyed.survey surveyed.surveyed)
    (found_on _ _ (given_by_borrowed c.args.params) (placed_values c.in_ok-values.values)
    (unmixed_query _ _ surveyed.survey surveyed.surveyed
    (λ both. elim c.else-survey-gt0.branch [ else-survey-gt0-via-then-survey-gt0+else-survey-gt0-2 w ↦ omega (arith, both.1, w.if-survey-gt0-2.false) | else-survey-gt0-via-else-survey-gt0 w ↦ omega (arith, both.0, w.if-survey-gt0.false) ]))
    c.in_ok-values.ensures.values)

pub returns-clause-refused : goal.returns-clause-refused
returns-clause-refused g c =
    let surveyed = c.args.surveyed.now in
    measured_refused _ _ (given_by_borrowed c.args.params) surveyed.survey (placed_values c.in_ok-values.values) c.measured_values.result
    c.measured_values.ensures.refused (on_survey _ _ surveyed.survey surveyed.surveyed)
    (found_on _ _ (given_by_borrowed c.args.params) (placed_values c.in_ok-values.values)
    (unmixed_query _ _ surveyed.survey surveyed.surveyed
    (λ both. elim c.else-survey-gt0.branch [ else-survey-gt0-via-then-survey-gt0+else-survey-gt0-2 w ↦ omega (arith, both.1, w.if-survey-gt0-2.false) | else-survey-gt0-via-else-survey-gt0 w ↦ omega (arith, both.0, w.if-survey-gt0.false) ]))
    c.in_ok-values.ensures.values)

pub returns-clause-mixed : goal.returns-clause-mixed
returns-clause-mixed g c =
    let o = on_survey _ _ c.args.surveyed.now.survey c.args.surveyed.now.surveyed in
    (o.0, o.1, λ both. elim c.else-survey-gt0.branch [ else-survey-gt0-via-then-survey-gt0+else-survey-gt0-2 w ↦ absurd (omega (arith, both.1, o.2.1, w.if-survey-gt0-2.false)) | else-survey-gt0-via-else-survey-gt0 w ↦ absurd (omega (arith, both.0, o.2.0, w.if-survey-gt0.false)) ])

pub returns-then-survey-gt0-2-clause-measured : goal.returns-then-survey-gt0-2-clause-measured
returns-then-survey-gt0-2-clause-measured g c =
    let o = on_survey _ _ c.args.surveyed.now.survey c.args.surveyed.now.surveyed in
    (o.0, o.1, tt)

pub returns-then-survey-gt0-2-clause-refused : goal.returns-then-survey-gt0-2-clause-refused
returns-then-survey-gt0-2-clause-refused g c =
    refused_mixed _ _ (given_by_borrowed c.args.params) c.args.surveyed.now.survey (on_survey _ _ c.args.surveyed.now.survey c.args.surveyed.now.surveyed) c.if-survey-gt0.true c.if-survey-gt0-2.true

pub returns-then-survey-gt0-2-clause-mixed : goal.returns-then-survey-gt0-2-clause-mixed
returns-then-survey-gt0-2-clause-mixed g c =
    let o = on_survey _ _ c.args.surveyed.now.survey c.args.surveyed.now.surveyed in
    (o.0, o.1, λ both. refl)
