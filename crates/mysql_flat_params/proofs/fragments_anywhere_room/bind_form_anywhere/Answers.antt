use Rattle.std.specs.Prelude.{true}
use Rattle.std.proofs.Common.{◌∙◌, subst, sym, take}
use Rattle.mysql_flat_params.specs.Outcomes as values
use Rattle.mysql_flat_params.specs.FragmentsAnywhereIntoRoom.{IsAnywhereAsValuesIn, IsAnywhereFormIn, is_wide}
use Rattle.mysql_flat_params.proofs.FragmentsAnywhereLemmas.{anywhere_in_room, refused_told, taken_is_steady, told_in_room, written_in_room}
use Rattle.mysql_flat_params.proofs.SteadyOutcomeLemmas.{none_of}
use Rattle.mysql_flat_params.specs.declared.steady_room.Steadiness.TheVariants.{Anywhere}
use Rattle.mysql_flat_params.proofs.fragments_anywhere_room.bind_form_anywhere.Goals as goal

pub returns-in-Err-clause-outcome : goal.returns-in-Err-clause-outcome
returns-in-Err-clause-outcome c =
    c.form_outcome.ensures.fragments_anywhere c.args.call c.args.query.now c.args.form.now c.in-Err.ensures.refused

pub returns-in-Some-clause-outcome : goal.returns-in-Some-clause-outcome
returns-in-Some-clause-outcome c =
    let (given, kinds, read, reads) = c.in-Ok.ensures.read in
    let told = rw c.wide_names.ensures at c.query_outcome.ensures.told in
    let t = told true in
    refused_told c.args.call c.args.query.now c.args.form.now given reads.0 c.in-Some.outcome t.0 (sym t.2 ∙ c.in-Some.is)
    (λ mode. let o = told mode in (o.0, o.1, sym o.2 ∙ c.in-Some.is))

pub bind_read_steady-requires-clause-steady : goal.bind_read_steady-requires-clause-steady
bind_read_steady-requires-clause-steady c = taken_is_steady (is_wide c.args.call) c.args.query.now (none_of (is_wide c.args.call) Anywhere c.args.query.now _ (rw c.wide_names.ensures at c.query_outcome.ensures.told) c.in_default.is)

pub returns-in-Ok-bind_read_steady-clause-outcome : goal.returns-in-Ok-bind_read_steady-clause-outcome
returns-in-Ok-bind_read_steady-clause-outcome c =
    let (given, kinds, read, reads) = c.in-Ok.ensures.read in
    subst (IsAnywhereAsValuesIn c.args.call c.args.query.now c.args.form.now) (sym c.text_outcome.ensures)
    (told_in_room c.args.call c.args.query.now c.args.form.now given kinds reads (c.in-Ok-bind_read_steady.ensures.may_stand given kinds read) c.args.room.now c.bind_read_steady.new.room c.bind_read_steady.auto.room c.in-Ok-bind_read_steady.text
    (anywhere_in_room c.args.call c.args.query.now given (none_of (is_wide c.args.call) Anywhere c.args.query.now _ (rw c.wide_names.ensures at c.query_outcome.ensures.told) c.in_default.is) c.args.room.now c.bind_read_steady.new.room c.in-Ok-bind_read_steady.text
    (c.in-Ok-bind_read_steady.ensures.bound given kinds read)))

pub returns-in-Ok-bind_read_steady-clause-written : goal.returns-in-Ok-bind_read_steady-clause-written
returns-in-Ok-bind_read_steady-clause-written c =
    let (given, kinds, read, reads) = c.in-Ok.ensures.read in
    subst (λ o. values.IfDone o (λ len. IsAnywhereFormIn c.args.call c.args.query.now c.args.form.now (take len c.bind_read_steady.new.room))) (sym c.text_outcome.ensures)
    (written_in_room c.args.call c.args.query.now c.args.form.now given kinds reads (c.in-Ok-bind_read_steady.ensures.may_stand given kinds read) c.args.room.now c.bind_read_steady.new.room c.in-Ok-bind_read_steady.text
    (anywhere_in_room c.args.call c.args.query.now given (none_of (is_wide c.args.call) Anywhere c.args.query.now _ (rw c.wide_names.ensures at c.query_outcome.ensures.told) c.in_default.is) c.args.room.now c.bind_read_steady.new.room c.in-Ok-bind_read_steady.text
    (c.in-Ok-bind_read_steady.ensures.bound given kinds read)))

pub steady_outcome-requires-clause-taken : goal.steady_outcome-requires-clause-taken
steady_outcome-requires-clause-taken c = none_of (is_wide c.args.call) Anywhere c.args.query.now _ (rw c.wide_names.ensures at c.query_outcome.ensures.told) c.in_default.is

pub steady_outcome-requires-clause-error : goal.steady_outcome-requires-clause-error
steady_outcome-requires-clause-error c =
    let (given, kinds, read, reads) = c.in-Ok.ensures.read in
    (given, kinds, c.in-Err-bind_read_steady.ensures.refused given kinds read)
