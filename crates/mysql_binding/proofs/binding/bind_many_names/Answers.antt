use Rattle.std.proofs.Common.{inl, refl, arith}
use Rattle.std.specs.Prelude.{alloc_error}
use Rattle.mysql_params_core.specs.GivenBorrowed.{given_by_borrowed}
use Rattle.mysql_binding.specs.BindErrors.{IsCauseOrMemory}
use Rattle.mysql_binding.specs.FirstCause.{first_cause}
use Rattle.mysql_binding.specs.declared.bind_error.BindError.TheVariants.{Memory}
use Rattle.mysql_binding.proofs.AppendedTextLemmas.{handed_on}
use Rattle.mysql_binding.proofs.SurveyedQueryLemmas.{all_are_first, no_text, on_survey}
use Rattle.mysql_binding.proofs.binding.bind_many_names.Goals as goal

pub with_places-surveyed-requires : goal.with_places-surveyed-requires
with_places-surveyed-requires g c = rw c.as_slice.ensures.value (all_are_first _ _ _ c.in_ok-places.ensures.places)

pub returns-in_err-places-clause-text : goal.returns-in_err-places-clause-text
returns-in_err-places-clause-text g c = no_text _ _ _ c.from_residual.result _ c.from_residual.ensures.1

pub returns-in_err-places-clause-refused : goal.returns-in_err-places-clause-refused
returns-in_err-places-clause-refused g c =
    let o = on_survey _ _ c.args.surveyed.now.survey c.args.surveyed.now.surveyed in
    (o.0, o.1, handed_on (IsCauseOrMemory (first_cause o.0 (given_by_borrowed c.args.params))) c.from_residual.result (Memory alloc_error) c.from_residual.ensures.1 (inl refl))

pub returns-in_err-places-clause-mixed : goal.returns-in_err-places-clause-mixed
returns-in_err-places-clause-mixed g c =
    let o = on_survey _ _ c.args.surveyed.now.survey c.args.surveyed.now.surveyed in
    (o.0, o.1, λ both. absurd (omega (arith, both.1, o.2.1, c.requires.no_marks)))

pub returns-clause-refused : goal.returns-clause-refused
returns-clause-refused g c = rw (c.with_places-surveyed.ensures.query, c.with_places-surveyed.ensures.reading) at c.bind_surveyed_as.ensures.refused
