use Rattle.std.proofs.Common.{true, refl, ◌∙◌}
use Rattle.mysql_flat_params.specs.AnywhereTable.{any_template}
use Rattle.mysql_flat_params.specs.FormParams.{given_in_place}
use Rattle.mysql_flat_params.specs.Steadiness.{refusal_as}
use Rattle.mysql_flat_params.specs.TableLiterals.{IsBoundWith}
use Rattle.mysql_flat_params.specs.declared.outcome.Outcome.TheVariants.{Done}
use Rattle.mysql_flat_params.specs.declared.steady_room.Steadiness.TheVariants.{Anywhere}
use Rattle.mysql_flat_params.proofs.TableLiteralLemmas.{cause_by, form_told, literals_in_room}
use Rattle.mysql_flat_params.proofs.IntoRoomLemmas.{first_stands}
use Rattle.mysql_flat_params.proofs.PlaceTableLemmas.{IsOfTemplate, can_have, misses_other, never_true, never_unfit, of_query, one_refusal, own_spans, own_table}
use Rattle.mysql_flat_params.proofs.SteadyRoomLemmas.{steady_told, steady_written}
use Rattle.mysql_named_params.specs.Reading.{wide_reading}
use Rattle.mysql_binding.specs.declared.binding.room.TextInRoom.TheVariants.{Written}
use Rattle.mysql_binding.proofs.CauseLemmas.{never_refused}
use Rattle.mysql_flat_params.proofs.table_literals.bind_by_table_with.Goals as goal

-- ---- a table that the query can't have

pub returns-in_default-clause-outcome : goal.returns-in_default-clause-outcome
returns-in_default-clause-outcome c = λ own. never_true (c.in_default.ensures.own (wide_reading true) (own_table (any_template c.args.template.now) c.survey_of-survey.result c.survey_of-survey.ensures own.1))

pub returns-in_default-clause-mixed : goal.returns-in_default-clause-mixed
returns-in_default-clause-mixed c = λ own none. never_true (c.in_default.ensures.own (wide_reading true) (own_table (any_template c.args.template.now) c.survey_of-survey.result c.survey_of-survey.ensures own.1))

pub returns-in_default-clause-other : goal.returns-in_default-clause-other
returns-in_default-clause-other c = λ is can. never_true (c.in_default.ensures.fit.1 (can_have (any_template c.args.template.now) c.survey_of-survey.result c.survey_of-survey.ensures can))

-- ---- a table that it can have

pub returns-in-Err-clause-unfit : goal.returns-in-Err-clause-unfit
returns-in-Err-clause-unfit c = λ unfit. never_unfit (any_template c.args.template.now) c.in-Some.spanned (record { query = c.in-Some.ensures.query; survey = c.in-Some.ensures.survey ∙ c.survey_of-survey.ensures; spans = c.in-Some.ensures.spans }) unfit

pub returns-in-Ok-bind_places_with-clause-unfit : goal.returns-in-Ok-bind_places_with-clause-unfit
returns-in-Ok-bind_places_with-clause-unfit c = λ unfit. never_unfit (any_template c.args.template.now) c.in-Some.spanned (record { query = c.in-Some.ensures.query; survey = c.in-Some.ensures.survey ∙ c.survey_of-survey.ensures; spans = c.in-Some.ensures.spans }) unfit

pub returns-in-Err-bind_places_with-clause-unfit : goal.returns-in-Err-bind_places_with-clause-unfit
returns-in-Err-bind_places_with-clause-unfit c = λ unfit. never_unfit (any_template c.args.template.now) c.in-Some.spanned (record { query = c.in-Some.ensures.query; survey = c.in-Some.ensures.survey ∙ c.survey_of-survey.ensures; spans = c.in-Some.ensures.spans }) unfit

pub returns-in-Err-bind_places_with-clause-other : goal.returns-in-Err-bind_places_with-clause-other
returns-in-Err-bind_places_with-clause-other c = λ is can.
    misses_other (any_template c.args.template.now) c.in-Some.spanned (record { query = c.in-Some.ensures.query; survey = c.in-Some.ensures.survey ∙ c.survey_of-survey.ensures; spans = c.in-Some.ensures.spans }) c.args.form.now (given_in_place c.in-Ok.params) c.in-Err-bind_places_with.error
    c.in-Ok.ensures.params c.in-Err-bind_places_with.ensures.lookup (c.table_outcome.ensures.other is)

-- ---- a form that is refused

pub returns-in-Err-clause-outcome : goal.returns-in-Err-clause-outcome
returns-in-Err-clause-outcome c = λ own.
    form_told c.args.literals c.args.template.now.query.now c.args.form.now c.form_outcome.result c.form_outcome.ensures.no_answer (c.form_outcome.ensures.steady true Anywhere c.args.template.now.query.now c.args.form.now c.in-Err.ensures.refused)

-- ---- a text, or a cause

pub returns-in-Err-bind_places_with-clause-outcome : goal.returns-in-Err-bind_places_with-clause-outcome
returns-in-Err-bind_places_with-clause-outcome c = λ own.
    let of_template : IsOfTemplate (any_template c.args.template.now) c.in-Some.spanned = record { query = c.in-Some.ensures.query; survey = c.in-Some.ensures.survey ∙ c.survey_of-survey.ensures; spans = c.in-Some.ensures.spans } in
    cause_by c.args.literals c.args.template.now.query.now c.args.form.now own.0 c.table_outcome.result c.table_outcome.ensures.no_answer
    (c.table_outcome.ensures.outcome c.args.form.now (given_in_place c.in-Ok.params) c.in-Ok.ensures.params
    (of_query (any_template c.args.template.now) c.in-Some.spanned of_template (wide_reading true) _ (c.in-Err-bind_places_with.ensures.refused (own_spans (any_template c.args.template.now) c.in-Some.spanned of_template own.1))))

pub returns-in-Ok-bind_places_with-clause-outcome : goal.returns-in-Ok-bind_places_with-clause-outcome
returns-in-Ok-bind_places_with-clause-outcome c = λ own.
    let of_template : IsOfTemplate (any_template c.args.template.now) c.in-Some.spanned = record { query = c.in-Some.ensures.query; survey = c.in-Some.ensures.survey ∙ c.survey_of-survey.ensures; spans = c.in-Some.ensures.spans } in
    let query = c.args.template.now.query.now in
    let given = given_in_place c.in-Ok.params in
    steady_told true (IsBoundWith c.args.literals query) (refusal_as true Anywhere query) query c.args.form.now given c.in-Ok.ensures.params c.bind_few_with.new.room c.bind_places_with.new.room
    c.in-Ok-bind_places_with.text c.text_outcome.result c.text_outcome.ensures
    (literals_in_room c.args.literals query given c.bind_few_with.new.room c.bind_places_with.new.room c.in-Ok-bind_places_with.text (own.0 true)
    (of_query (any_template c.args.template.now) c.in-Some.spanned of_template (wide_reading true) _ (c.in-Ok-bind_places_with.ensures.text (own_spans (any_template c.args.template.now) c.in-Some.spanned of_template own.1))))
    c.bind_places_with.auto.room

pub returns-in-Ok-bind_places_with-clause-written : goal.returns-in-Ok-bind_places_with-clause-written
returns-in-Ok-bind_places_with-clause-written c = λ own.
    let of_template : IsOfTemplate (any_template c.args.template.now) c.in-Some.spanned = record { query = c.in-Some.ensures.query; survey = c.in-Some.ensures.survey ∙ c.survey_of-survey.ensures; spans = c.in-Some.ensures.spans } in
    let query = c.args.template.now.query.now in
    let given = given_in_place c.in-Ok.params in
    steady_written true (IsBoundWith c.args.literals query) (refusal_as true Anywhere query) query c.args.form.now given c.in-Ok.ensures.params c.bind_few_with.new.room c.bind_places_with.new.room
    c.in-Ok-bind_places_with.text c.text_outcome.result c.text_outcome.ensures
    (literals_in_room c.args.literals query given c.bind_few_with.new.room c.bind_places_with.new.room c.in-Ok-bind_places_with.text (own.0 true)
    (of_query (any_template c.args.template.now) c.in-Some.spanned of_template (wide_reading true) _ (c.in-Ok-bind_places_with.ensures.text (own_spans (any_template c.args.template.now) c.in-Some.spanned of_template own.1))))

pub returns-in-Ok-bind_places_with-clause-mixed : goal.returns-in-Ok-bind_places_with-clause-mixed
returns-in-Ok-bind_places_with-clause-mixed c = λ own none.
    let of_template : IsOfTemplate (any_template c.args.template.now) c.in-Some.spanned = record { query = c.in-Some.ensures.query; survey = c.in-Some.ensures.survey ∙ c.survey_of-survey.ensures; spans = c.in-Some.ensures.spans } in
    let o = of_query (any_template c.args.template.now) c.in-Some.spanned of_template (wide_reading true) _ (c.in-Ok-bind_places_with.ensures.mixed (own_spans (any_template c.args.template.now) c.in-Some.spanned of_template own.1)) in
    (o.0, o.1, λ both. never_refused _ _ (o.2 both))

pub returns-in-Err-bind_places_with-clause-mixed : goal.returns-in-Err-bind_places_with-clause-mixed
returns-in-Err-bind_places_with-clause-mixed c = λ own none.
    let of_template : IsOfTemplate (any_template c.args.template.now) c.in-Some.spanned = record { query = c.in-Some.ensures.query; survey = c.in-Some.ensures.survey ∙ c.survey_of-survey.ensures; spans = c.in-Some.ensures.spans } in
    let o = of_query (any_template c.args.template.now) c.in-Some.spanned of_template (wide_reading true) _ (c.in-Err-bind_places_with.ensures.mixed (own_spans (any_template c.args.template.now) c.in-Some.spanned of_template own.1)) in
    (o.0, o.1, λ both. c.table_outcome.ensures.mixed (one_refusal _ _ (o.2 both)))

pub returns-in-Err-bind_places_with-clause-memory : goal.returns-in-Err-bind_places_with-clause-memory
returns-in-Err-bind_places_with-clause-memory c = λ is. first_stands _ _ c.in-Ok.ensures.params

-- ---- a few values by position

pub returns-in-Some-bind_few_with-clause-outcome : goal.returns-in-Some-bind_few_with-clause-outcome
returns-in-Some-bind_few_with-clause-outcome c = λ own.
    let of_template : IsOfTemplate (any_template c.args.template.now) c.in-Some.spanned = record { query = c.in-Some.ensures.query; survey = c.in-Some.ensures.survey ∙ c.survey_of-survey.ensures; spans = c.in-Some.ensures.spans } in
    let query = c.args.template.now.query.now in
    let (given, reads, text) = c.in-Some-bind_few_with.ensures.text (wide_reading true) (own_spans (any_template c.args.template.now) c.in-Some.spanned of_template own.1) in
    steady_told true (IsBoundWith c.args.literals query) (refusal_as true Anywhere query) query c.args.form.now given reads c.args.room.now c.bind_few_with.new.room
    (Written c.in-Some-bind_few_with.len) (Done c.in-Some-bind_few_with.len) refl
    (literals_in_room c.args.literals query given c.args.room.now c.bind_few_with.new.room (Written c.in-Some-bind_few_with.len) (own.0 true)
    (of_query (any_template c.args.template.now) c.in-Some.spanned of_template (wide_reading true) _ text))
    c.bind_few_with.auto.room

pub returns-in-Some-bind_few_with-clause-written : goal.returns-in-Some-bind_few_with-clause-written
returns-in-Some-bind_few_with-clause-written c = λ own.
    let of_template : IsOfTemplate (any_template c.args.template.now) c.in-Some.spanned = record { query = c.in-Some.ensures.query; survey = c.in-Some.ensures.survey ∙ c.survey_of-survey.ensures; spans = c.in-Some.ensures.spans } in
    let query = c.args.template.now.query.now in
    let (given, reads, text) = c.in-Some-bind_few_with.ensures.text (wide_reading true) (own_spans (any_template c.args.template.now) c.in-Some.spanned of_template own.1) in
    steady_written true (IsBoundWith c.args.literals query) (refusal_as true Anywhere query) query c.args.form.now given reads c.args.room.now c.bind_few_with.new.room
    (Written c.in-Some-bind_few_with.len) (Done c.in-Some-bind_few_with.len) refl
    (literals_in_room c.args.literals query given c.args.room.now c.bind_few_with.new.room (Written c.in-Some-bind_few_with.len) (own.0 true)
    (of_query (any_template c.args.template.now) c.in-Some.spanned of_template (wide_reading true) _ text))
