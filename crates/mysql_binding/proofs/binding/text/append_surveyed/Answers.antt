use Rattle.mysql_params_core.specs.Given.{Given}
use Rattle.mysql_binding.specs.PlaceValues.{placed_values}
use Rattle.mysql_binding.specs.AppendedText.{AreFound}
use Rattle.mysql_binding.specs.SurveyedQuery.{OnSurveyed}
use Rattle.mysql_binding.specs.WrittenText.{IsGivenText}
use Rattle.mysql_binding.proofs.SurveyedQueryLemmas.{on_survey}
use Rattle.mysql_binding.proofs.binding.text.append_surveyed.Goals as goal

pub returns-clause-appended : goal.returns-clause-appended
returns-clause-appended g c =
    let a = c.in_ok-append_measured.ensures.appended in
    let surveyed = c.args.surveyed.now in
    let told : (given : Given) → OnSurveyed surveyed (AreFound given (placed_values c.args.values)) →
    OnSurveyed surveyed (λ ts. IsGivenText (g.F.LiteralForm.literal c.args.form.now) (g.F.LiteralForm.IsKnown c.args.form.now) ts given a.0) =
    λ given found. a.2 given (c.in_ok-measured.ensures.measured _ _ given (on_survey _ _ _ surveyed.surveyed) found) in
    record { text = a.0; bytes = a.1; of_given = told }
