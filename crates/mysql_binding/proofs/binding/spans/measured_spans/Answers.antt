use Rattle.std.proofs.Common.{arith}
use Rattle.mysql_params_core.specs.GivenBorrowed.{given_by_borrowed}
use Rattle.mysql_binding.specs.PlaceValues.{placed_values}
use Rattle.mysql_binding.specs.BindErrors.{IsCauseOrMemory}
use Rattle.mysql_binding.specs.FirstCause.{first_cause}
use Rattle.mysql_binding.specs.SpannedQuery.{RefusesNames}
use Rattle.mysql_binding.proofs.AppendedTextLemmas.{handed_on}
use Rattle.mysql_binding.proofs.MeasuredTextLemmas.{measured_found, measured_refused}
use Rattle.mysql_binding.proofs.SpanBindLemmas.{own_found, own_lookup_refused, own_surveyed, ready_spans, refused_names}
use Rattle.mysql_binding.proofs.binding.spans.measured_spans.Goals.{else-survey-gt0-via-then-survey-gt0+else-survey-gt0-2, else-survey-gt0-via-else-survey-gt0}
use Rattle.mysql_binding.proofs.binding.spans.measured_spans.Goals as goal

pub returns-in_err-values-clause-refused : goal.returns-in_err-values-clause-refused
returns-in_err-values-clause-refused g c = λ reading own.
    let given = given_by_borrowed c.args.params in
    let o = own_lookup_refused c.args.spanned.now.survey c.args.spanned.now.spans.now reading c.args.spanned.now.query.now own
    (λ both. elim c.else-survey-gt0.branch as (λ _. ⊥) [ else-survey-gt0-via-then-survey-gt0+else-survey-gt0-2 w ↦ omega (arith, both.1, w.if-survey-gt0-2.false) | else-survey-gt0-via-else-survey-gt0 w ↦ omega (arith, both.0, w.if-survey-gt0.false) ])
    given c.in_err-values.field-0.0 c.in_err-values.ensures.refused in
    (o.0, o.1, handed_on (IsCauseOrMemory (first_cause o.0 given)) c.from_residual.result c.in_err-values.field-0.0 c.from_residual.ensures.1 o.2)

pub returns-in_err-values-clause-lookup : goal.returns-in_err-values-clause-lookup
returns-in_err-values-clause-lookup g c =
    handed_on (RefusesNames c.args.spanned.now (given_by_borrowed c.args.params)) c.from_residual.result c.in_err-values.field-0.0 c.from_residual.ensures.1
    (λ refusal is. refused_names _ _ c.in_err-values.field-0.0 refusal c.in_err-values.ensures.refused is)

pub returns-clause-measured : goal.returns-clause-measured
returns-clause-measured g c = λ reading own.
    measured_found reading c.args.spanned.now.query.now (g.F.LiteralForm.literal c.args.form.now) (given_by_borrowed c.args.params) c.args.spanned.now.survey (placed_values c.in_ok-values.values) c.measured_values.result
    c.measured_values.ensures.measured (own_surveyed c.args.spanned.now.survey c.args.spanned.now.spans.now reading c.args.spanned.now.query.now own)
    (own_found c.args.spanned.now.survey c.args.spanned.now.spans.now reading c.args.spanned.now.query.now own
    (λ both. elim c.else-survey-gt0.branch as (λ _. ⊥) [ else-survey-gt0-via-then-survey-gt0+else-survey-gt0-2 w ↦ omega (arith, both.1, w.if-survey-gt0-2.false) | else-survey-gt0-via-else-survey-gt0 w ↦ omega (arith, both.0, w.if-survey-gt0.false) ])
    (given_by_borrowed c.args.params) (placed_values c.in_ok-values.values) c.in_ok-values.ensures.values)

pub returns-clause-refused : goal.returns-clause-refused
returns-clause-refused g c = λ reading own.
    measured_refused reading c.args.spanned.now.query.now (given_by_borrowed c.args.params) c.args.spanned.now.survey (placed_values c.in_ok-values.values) c.measured_values.result
    c.measured_values.ensures.refused (own_surveyed c.args.spanned.now.survey c.args.spanned.now.spans.now reading c.args.spanned.now.query.now own)
    (own_found c.args.spanned.now.survey c.args.spanned.now.spans.now reading c.args.spanned.now.query.now own
    (λ both. elim c.else-survey-gt0.branch as (λ _. ⊥) [ else-survey-gt0-via-then-survey-gt0+else-survey-gt0-2 w ↦ omega (arith, both.1, w.if-survey-gt0-2.false) | else-survey-gt0-via-else-survey-gt0 w ↦ omega (arith, both.0, w.if-survey-gt0.false) ])
    (given_by_borrowed c.args.params) (placed_values c.in_ok-values.values) c.in_ok-values.ensures.values)

pub returns-clause-ready : goal.returns-clause-ready
returns-clause-ready g c =
    ready_spans (g.F.LiteralForm.literal c.args.form.now) c.args.spanned.now (given_by_borrowed c.args.params) (placed_values c.in_ok-values.values)
    (λ both. elim c.else-survey-gt0.branch as (λ _. ⊥) [ else-survey-gt0-via-then-survey-gt0+else-survey-gt0-2 w ↦ omega (arith, both.1, w.if-survey-gt0-2.false) | else-survey-gt0-via-else-survey-gt0 w ↦ omega (arith, both.0, w.if-survey-gt0.false) ])
    c.in_ok-values.ensures.values c.measured_values.result c.measured_values.ensures.in_survey
