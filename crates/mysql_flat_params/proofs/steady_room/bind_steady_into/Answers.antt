use Rattle.std.specs.Prelude.{Err, true}
use Rattle.std.proofs.Common.{◌∙◌, ap, inr, sym}
use Rattle.mysql_named_params.specs.Reading.{reading_with}
use Rattle.mysql_named_params.proofs.ReadingLemmas.{reading_exists}
use Rattle.mysql_steady_text.proofs.WideBothModesLemmas.{in_each_reading}
use Rattle.mysql_flat_params.specs.FormParams.{given_in_place}
use Rattle.mysql_flat_params.specs.Steadiness.{IsBoundAs, refusal_as}
use Rattle.mysql_flat_params.proofs.IntoRoomLemmas.{empty_not_refused, first_stands}
use Rattle.mysql_flat_params.proofs.SteadyOutcomeLemmas.{byte_first, cause_told, is_query_refusal, none_of, refusal_told}
use Rattle.mysql_flat_params.proofs.SteadyRoomLemmas.{steady_in_room, steady_told, steady_written}
use Rattle.mysql_flat_params.proofs.steady_room.bind_steady_into.Goals as goal

-- ---- a form that is refused

pub returns-in-Err-clause-outcome : goal.returns-in-Err-clause-outcome
returns-in-Err-clause-outcome c =
    c.form_outcome.ensures.steady c.args.call.wide_names c.args.call.steadiness c.args.query.now c.args.form.now c.in-Err.ensures.refused

pub returns-in-Err-clause-refused : goal.returns-in-Err-clause-refused
returns-in-Err-clause-refused c mode =
    let t = reading_exists (reading_with c.args.call.wide_names mode) c.args.query.now in
    (t.0, t.1, λ none. absurd (empty_not_refused c.args.form.now _ none c.in-Err.ensures.refused c.in-Err.ensures.memory))

pub returns-in-Err-clause-byte : goal.returns-in-Err-clause-byte
returns-in-Err-clause-byte c mode =
    let t = reading_exists (reading_with c.args.call.wide_names mode) c.args.query.now in
    (t.0, t.1, λ none. absurd (empty_not_refused c.args.form.now _ none c.in-Err.ensures.refused c.in-Err.ensures.memory))

pub returns-in-Err-clause-mixed : goal.returns-in-Err-clause-mixed
returns-in-Err-clause-mixed c mode =
    let t = reading_exists (reading_with c.args.call.wide_names mode) c.args.query.now in
    (t.0, t.1, λ none. absurd (empty_not_refused c.args.form.now _ none c.in-Err.ensures.refused c.in-Err.ensures.memory))

pub returns-in-Err-clause-memory : goal.returns-in-Err-clause-memory
returns-in-Err-clause-memory c = λ is. inr (c.in-Err.ensures.memory (ap (λ e. Err e) (c.form_outcome.ensures.memory is)))

-- ---- a query that is refused with any parameters

pub returns-in-Some-clause-outcome : goal.returns-in-Some-clause-outcome
returns-in-Some-clause-outcome c =
    let t = c.query_outcome.ensures.told true in
    refusal_told c.args.call.wide_names (IsBoundAs c.args.call.wide_names c.args.call.steadiness c.args.query.now) (refusal_as c.args.call.wide_names c.args.call.steadiness c.args.query.now) c.args.query.now c.args.form.now (given_in_place c.in-Ok.params) c.in-Ok.ensures.params c.in-Some.outcome
    (is_query_refusal c.args.call.wide_names c.args.call.steadiness c.args.query.now t.0 c.in-Some.outcome (sym t.2 ∙ c.in-Some.is))
    (λ mode. let o = c.query_outcome.ensures.told mode in (o.0, o.1, sym o.2 ∙ c.in-Some.is))

pub returns-in-Some-clause-byte : goal.returns-in-Some-clause-byte
returns-in-Some-clause-byte c mode =
    let o = c.query_outcome.ensures.told mode in
    (o.0, o.1, λ none told is. let same = sym (byte_first c.args.call.wide_names c.args.call.steadiness c.args.query.now o.0 told is) ∙ (sym o.2 ∙ c.in-Some.is) in cc)

pub returns-in-Some-clause-refused : goal.returns-in-Some-clause-refused
returns-in-Some-clause-refused c mode =
    let o = c.query_outcome.ensures.told mode in
    (o.0, o.1, λ none told is. let same = sym is ∙ (sym o.2 ∙ c.in-Some.is) in cc)

pub returns-in-Some-clause-mixed : goal.returns-in-Some-clause-mixed
returns-in-Some-clause-mixed c mode =
    let o = c.query_outcome.ensures.told mode in
    (o.0, o.1, λ none is both. let never = sym is ∙ (sym o.2 ∙ c.in-Some.is) in cc)

pub returns-in-Some-clause-memory : goal.returns-in-Some-clause-memory
returns-in-Some-clause-memory c = λ is. first_stands _ _ c.in-Ok.ensures.params

-- ---- a text, or another cause

pub bind_outcome-requires : goal.bind_outcome-requires
bind_outcome-requires c = ((given_in_place c.in-Ok.params), c.in-Err-bind_params_steady.ensures.refused)

pub returns-in-Ok-bind_params_steady-clause-outcome : goal.returns-in-Ok-bind_params_steady-clause-outcome
returns-in-Ok-bind_params_steady-clause-outcome c =
    steady_told c.args.call.wide_names (IsBoundAs c.args.call.wide_names c.args.call.steadiness c.args.query.now) (refusal_as c.args.call.wide_names c.args.call.steadiness c.args.query.now) c.args.query.now c.args.form.now (given_in_place c.in-Ok.params) c.in-Ok.ensures.params c.args.room.now c.bind_params_steady.new.room
    c.in-Ok-bind_params_steady.text c.text_outcome.result c.text_outcome.ensures
    (steady_in_room c.args.call.wide_names c.args.call.steadiness c.args.query.now (given_in_place c.in-Ok.params) c.args.room.now c.bind_params_steady.new.room c.in-Ok-bind_params_steady.text (none_of c.args.call.wide_names c.args.call.steadiness c.args.query.now _ c.query_outcome.ensures.told c.in_default.is true) c.in-Ok-bind_params_steady.ensures.text)
    c.bind_params_steady.auto.room

pub returns-in-Ok-bind_params_steady-clause-written : goal.returns-in-Ok-bind_params_steady-clause-written
returns-in-Ok-bind_params_steady-clause-written c =
    steady_written c.args.call.wide_names (IsBoundAs c.args.call.wide_names c.args.call.steadiness c.args.query.now) (refusal_as c.args.call.wide_names c.args.call.steadiness c.args.query.now) c.args.query.now c.args.form.now (given_in_place c.in-Ok.params) c.in-Ok.ensures.params c.args.room.now c.bind_params_steady.new.room
    c.in-Ok-bind_params_steady.text c.text_outcome.result c.text_outcome.ensures
    (steady_in_room c.args.call.wide_names c.args.call.steadiness c.args.query.now (given_in_place c.in-Ok.params) c.args.room.now c.bind_params_steady.new.room c.in-Ok-bind_params_steady.text (none_of c.args.call.wide_names c.args.call.steadiness c.args.query.now _ c.query_outcome.ensures.told c.in_default.is true) c.in-Ok-bind_params_steady.ensures.text)

pub returns-in-Ok-bind_params_steady-clause-byte : goal.returns-in-Ok-bind_params_steady-clause-byte
returns-in-Ok-bind_params_steady-clause-byte c mode =
    let o = none_of c.args.call.wide_names c.args.call.steadiness c.args.query.now _ c.query_outcome.ensures.told c.in_default.is mode in
    (o.0, o.1, λ none told is. let never = sym (byte_first c.args.call.wide_names c.args.call.steadiness c.args.query.now o.0 told is) ∙ o.2 in cc)

pub returns-in-Ok-bind_params_steady-clause-refused : goal.returns-in-Ok-bind_params_steady-clause-refused
returns-in-Ok-bind_params_steady-clause-refused c mode =
    let o = none_of c.args.call.wide_names c.args.call.steadiness c.args.query.now _ c.query_outcome.ensures.told c.in_default.is mode in
    (o.0, o.1, λ none told is. let never = sym is ∙ o.2 in cc)

pub returns-in-Ok-bind_params_steady-clause-mixed : goal.returns-in-Ok-bind_params_steady-clause-mixed
returns-in-Ok-bind_params_steady-clause-mixed c mode =
    let o = in_each_reading c.args.call.wide_names c.args.query.now _ (c.query_outcome.ensures.agree c.in_default.is) c.in-Ok-bind_params_steady.ensures.mixed mode in
    (o.0, o.1, λ none is both. let e = o.2 both in cc)

pub returns-in-Err-bind_params_steady-clause-outcome : goal.returns-in-Err-bind_params_steady-clause-outcome
returns-in-Err-bind_params_steady-clause-outcome c =
    cause_told c.args.call.wide_names (IsBoundAs c.args.call.wide_names c.args.call.steadiness c.args.query.now) (refusal_as c.args.call.wide_names c.args.call.steadiness c.args.query.now) c.args.query.now c.args.form.now (c.query_outcome.ensures.agree c.in_default.is) (none_of c.args.call.wide_names c.args.call.steadiness c.args.query.now _ c.query_outcome.ensures.told c.in_default.is) c.bind_outcome.result c.bind_outcome.ensures.no_answer
    (c.bind_outcome.ensures.outcome c.args.form.now (given_in_place c.in-Ok.params) c.in-Ok.ensures.params c.in-Err-bind_params_steady.ensures.refused)

pub returns-in-Err-bind_params_steady-clause-byte : goal.returns-in-Err-bind_params_steady-clause-byte
returns-in-Err-bind_params_steady-clause-byte c mode =
    let o = none_of c.args.call.wide_names c.args.call.steadiness c.args.query.now _ c.query_outcome.ensures.told c.in_default.is mode in
    (o.0, o.1, λ none told is. let never = sym (byte_first c.args.call.wide_names c.args.call.steadiness c.args.query.now o.0 told is) ∙ o.2 in cc)

pub returns-in-Err-bind_params_steady-clause-refused : goal.returns-in-Err-bind_params_steady-clause-refused
returns-in-Err-bind_params_steady-clause-refused c mode =
    let o = none_of c.args.call.wide_names c.args.call.steadiness c.args.query.now _ c.query_outcome.ensures.told c.in_default.is mode in
    (o.0, o.1, λ none told is. let never = sym is ∙ o.2 in cc)

pub returns-in-Err-bind_params_steady-clause-mixed : goal.returns-in-Err-bind_params_steady-clause-mixed
returns-in-Err-bind_params_steady-clause-mixed c mode =
    let o = in_each_reading c.args.call.wide_names c.args.query.now _ (c.query_outcome.ensures.agree c.in_default.is) c.in-Err-bind_params_steady.ensures.mixed mode in
    (o.0, o.1, λ none is both. let e = o.2 both in c.bind_outcome.ensures.mixed cc)

pub returns-in-Err-bind_params_steady-clause-memory : goal.returns-in-Err-bind_params_steady-clause-memory
returns-in-Err-bind_params_steady-clause-memory c = λ is. first_stands _ _ c.in-Ok.ensures.params
