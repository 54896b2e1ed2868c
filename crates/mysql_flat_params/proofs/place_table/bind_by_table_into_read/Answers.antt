use Rattle.std.specs.Prelude.{Ok}
use Rattle.std.proofs.Common.{ℕ, subst, sym, take, ◌∙◌}
use Rattle.mysql_flat_params.specs.FormParams.{given_in_place}
use Rattle.mysql_flat_params.specs.IntoRoom.{IsBindOutcomeIn, IsBoundFormIn}
use Rattle.mysql_flat_params.specs.Outcomes.{IfDone}
use Rattle.mysql_flat_params.specs.declared.outcome.Outcome.{Outcome}
use Rattle.mysql_flat_params.proofs.IntoRoomLemmas.{first_stands}
use Rattle.mysql_flat_params.proofs.PlaceTableLemmas.{IsOfTemplate, can_have, misses_other, never_true, never_unfit, of_query, one_refusal, own_spans, own_table, text_told, text_at_front}
use Rattle.mysql_binding.specs.declared.binding.room.TextInRoom.TheVariants.{Written}
use Rattle.mysql_binding.proofs.CauseLemmas.{never_refused}
use Rattle.mysql_binding.proofs.TextInRoomLemmas.{bound_in_room}
use Rattle.mysql_flat_params.proofs.place_table.bind_by_table_into_read.Goals as goal

pub returns-in_default-clause-outcome : goal.returns-in_default-clause-outcome
returns-in_default-clause-outcome c = λ own. never_true (c.in_default.ensures.own _ (own_table c.args.template.now c.survey_of-survey.result c.survey_of-survey.ensures own))

pub returns-in_default-clause-mixed : goal.returns-in_default-clause-mixed
returns-in_default-clause-mixed c = λ own none. never_true (c.in_default.ensures.own _ (own_table c.args.template.now c.survey_of-survey.result c.survey_of-survey.ensures own))

pub returns-in_default-clause-other : goal.returns-in_default-clause-other
returns-in_default-clause-other c = λ is can. never_true (c.in_default.ensures.fit.1 (can_have c.args.template.now c.survey_of-survey.result c.survey_of-survey.ensures can))

pub returns-in-Err-clause-unfit : goal.returns-in-Err-clause-unfit
returns-in-Err-clause-unfit c = λ unfit. never_unfit c.args.template.now c.in-Some.spanned (record { query = c.in-Some.ensures.query; survey = c.in-Some.ensures.survey ∙ c.survey_of-survey.ensures; spans = c.in-Some.ensures.spans }) unfit

pub returns-in-Ok-bind_places-clause-unfit : goal.returns-in-Ok-bind_places-clause-unfit
returns-in-Ok-bind_places-clause-unfit c = λ unfit. never_unfit c.args.template.now c.in-Some.spanned (record { query = c.in-Some.ensures.query; survey = c.in-Some.ensures.survey ∙ c.survey_of-survey.ensures; spans = c.in-Some.ensures.spans }) unfit

pub returns-in-Err-bind_places-clause-unfit : goal.returns-in-Err-bind_places-clause-unfit
returns-in-Err-bind_places-clause-unfit c = λ unfit. never_unfit c.args.template.now c.in-Some.spanned (record { query = c.in-Some.ensures.query; survey = c.in-Some.ensures.survey ∙ c.survey_of-survey.ensures; spans = c.in-Some.ensures.spans }) unfit

pub returns-in-Err-bind_places-clause-other : goal.returns-in-Err-bind_places-clause-other
returns-in-Err-bind_places-clause-other c = λ is can.
    misses_other c.args.template.now c.in-Some.spanned (record { query = c.in-Some.ensures.query; survey = c.in-Some.ensures.survey ∙ c.survey_of-survey.ensures; spans = c.in-Some.ensures.spans }) c.args.form.now (given_in_place c.in-Ok.params) c.in-Err-bind_places.error
    c.in-Ok.ensures.params c.in-Err-bind_places.ensures.lookup (c.table_outcome.ensures.other is)

pub returns-in-Err-bind_places-clause-outcome : goal.returns-in-Err-bind_places-clause-outcome
returns-in-Err-bind_places-clause-outcome c = λ own.
    c.table_outcome.ensures.outcome c.args.form.now (given_in_place c.in-Ok.params) c.in-Ok.ensures.params
    (of_query c.args.template.now c.in-Some.spanned (record { query = c.in-Some.ensures.query; survey = c.in-Some.ensures.survey ∙ c.survey_of-survey.ensures; spans = c.in-Some.ensures.spans }) c.args.template.now.reading _ (c.in-Err-bind_places.ensures.refused (own_spans c.args.template.now c.in-Some.spanned (record { query = c.in-Some.ensures.query; survey = c.in-Some.ensures.survey ∙ c.survey_of-survey.ensures; spans = c.in-Some.ensures.spans }) own)))

pub returns-in-Err-clause-outcome : goal.returns-in-Err-clause-outcome
returns-in-Err-clause-outcome c = λ own.
    c.form_outcome.ensures.outcome c.args.template.now.reading c.args.template.now.query.now c.args.form.now c.in-Err.ensures.refused

pub returns-in-Ok-bind_places-clause-outcome : goal.returns-in-Ok-bind_places-clause-outcome
returns-in-Ok-bind_places-clause-outcome c = λ own.
    subst (IsBindOutcomeIn c.args.template.now.reading c.args.template.now.query.now c.args.form.now) (sym c.text_outcome.ensures)
    (text_told c.args.template.now.reading c.args.template.now.query.now c.args.form.now (given_in_place c.in-Ok.params) c.bind_few.new.room c.bind_places.new.room c.in-Ok.ensures.params c.bind_places.auto.room c.in-Ok-bind_places.text
    (of_query c.args.template.now c.in-Some.spanned (record { query = c.in-Some.ensures.query; survey = c.in-Some.ensures.survey ∙ c.survey_of-survey.ensures; spans = c.in-Some.ensures.spans }) c.args.template.now.reading _ (c.in-Ok-bind_places.ensures.bound (own_spans c.args.template.now c.in-Some.spanned (record { query = c.in-Some.ensures.query; survey = c.in-Some.ensures.survey ∙ c.survey_of-survey.ensures; spans = c.in-Some.ensures.spans }) own))))

pub returns-in-Ok-bind_places-clause-written : goal.returns-in-Ok-bind_places-clause-written
returns-in-Ok-bind_places-clause-written c = λ own.
    subst (λ (o : Outcome). IfDone o (λ len. IsBoundFormIn c.args.template.now.reading c.args.template.now.query.now c.args.form.now (take len c.bind_places.new.room))) (sym c.text_outcome.ensures)
    (text_at_front c.args.template.now.reading c.args.template.now.query.now c.args.form.now (given_in_place c.in-Ok.params) c.bind_few.new.room c.bind_places.new.room c.in-Ok.ensures.params c.bind_places.auto.room c.in-Ok-bind_places.text
    (of_query c.args.template.now c.in-Some.spanned (record { query = c.in-Some.ensures.query; survey = c.in-Some.ensures.survey ∙ c.survey_of-survey.ensures; spans = c.in-Some.ensures.spans }) c.args.template.now.reading _ (c.in-Ok-bind_places.ensures.bound (own_spans c.args.template.now c.in-Some.spanned (record { query = c.in-Some.ensures.query; survey = c.in-Some.ensures.survey ∙ c.survey_of-survey.ensures; spans = c.in-Some.ensures.spans }) own))))

pub returns-in-Ok-bind_places-clause-mixed : goal.returns-in-Ok-bind_places-clause-mixed
returns-in-Ok-bind_places-clause-mixed c = λ own none.
    let o = of_query c.args.template.now c.in-Some.spanned (record { query = c.in-Some.ensures.query; survey = c.in-Some.ensures.survey ∙ c.survey_of-survey.ensures; spans = c.in-Some.ensures.spans }) c.args.template.now.reading _ (c.in-Ok-bind_places.ensures.mixed (own_spans c.args.template.now c.in-Some.spanned (record { query = c.in-Some.ensures.query; survey = c.in-Some.ensures.survey ∙ c.survey_of-survey.ensures; spans = c.in-Some.ensures.spans }) own)) in
    (o.0, o.1, λ both. never_refused _ _ (o.2 both))

pub returns-in-Err-bind_places-clause-mixed : goal.returns-in-Err-bind_places-clause-mixed
returns-in-Err-bind_places-clause-mixed c = λ own none.
    let o = of_query c.args.template.now c.in-Some.spanned (record { query = c.in-Some.ensures.query; survey = c.in-Some.ensures.survey ∙ c.survey_of-survey.ensures; spans = c.in-Some.ensures.spans }) c.args.template.now.reading _ (c.in-Err-bind_places.ensures.mixed (own_spans c.args.template.now c.in-Some.spanned (record { query = c.in-Some.ensures.query; survey = c.in-Some.ensures.survey ∙ c.survey_of-survey.ensures; spans = c.in-Some.ensures.spans }) own)) in
    (o.0, o.1, λ both. c.table_outcome.ensures.mixed (one_refusal _ _ (o.2 both)))

pub returns-in-Err-bind_places-clause-memory : goal.returns-in-Err-bind_places-clause-memory
returns-in-Err-bind_places-clause-memory c = λ is. first_stands _ _ c.in-Ok.ensures.params

-- ---- a few values by position

pub returns-in-Some-bind_few-clause-outcome : goal.returns-in-Some-bind_few-clause-outcome
returns-in-Some-bind_few-clause-outcome c = λ own.
    let of_template : IsOfTemplate c.args.template.now c.in-Some.spanned = record { query = c.in-Some.ensures.query; survey = c.in-Some.ensures.survey ∙ c.survey_of-survey.ensures; spans = c.in-Some.ensures.spans } in
    let reading = c.args.template.now.reading in
    let (given, reads, text) = c.in-Some-bind_few.ensures.text reading (own_spans c.args.template.now c.in-Some.spanned of_template own) in
    text_told reading c.args.template.now.query.now c.args.form.now given c.args.room.now c.bind_few.new.room reads c.bind_few.auto.room (Written c.in-Some-bind_few.len)
    (of_query c.args.template.now c.in-Some.spanned of_template reading _
    (bound_in_room {E = ℕ} reading c.in-Some.spanned.query.now given c.args.room.now c.bind_few.new.room (Ok (Written c.in-Some-bind_few.len)) text))

pub returns-in-Some-bind_few-clause-written : goal.returns-in-Some-bind_few-clause-written
returns-in-Some-bind_few-clause-written c = λ own.
    let of_template : IsOfTemplate c.args.template.now c.in-Some.spanned = record { query = c.in-Some.ensures.query; survey = c.in-Some.ensures.survey ∙ c.survey_of-survey.ensures; spans = c.in-Some.ensures.spans } in
    let reading = c.args.template.now.reading in
    let (given, reads, text) = c.in-Some-bind_few.ensures.text reading (own_spans c.args.template.now c.in-Some.spanned of_template own) in
    text_at_front reading c.args.template.now.query.now c.args.form.now given c.args.room.now c.bind_few.new.room reads c.bind_few.auto.room (Written c.in-Some-bind_few.len)
    (of_query c.args.template.now c.in-Some.spanned of_template reading _
    (bound_in_room {E = ℕ} reading c.in-Some.spanned.query.now given c.args.room.now c.bind_few.new.room (Ok (Written c.in-Some-bind_few.len)) text))
