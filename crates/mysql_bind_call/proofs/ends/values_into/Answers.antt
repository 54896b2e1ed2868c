use Rattle.mysql_params_core.specs.GivenBorrowed.{given_by_borrowed}
use Rattle.mysql_bind_call.proofs.EndLemmas.{any_text, either_text, in_all, one_mode_text, plain_length, steady_length, text_in_room}
use Rattle.mysql_bind_call.proofs.ResultLemmas.{err_to, ok_to}
use Rattle.mysql_bind_call.proofs.ends.values_into.Goals as goal

pub returns-in-OneMode-clause-bound : goal.returns-in-OneMode-clause-bound
returns-in-OneMode-clause-bound c =
    ok_to _ _ c.written_into.result (λ told o. text_in_room c.args.purpose c.args.query.now _ _ (one_mode_text c.args.purpose c.args.query.now (given_by_borrowed c.args.params) c.in-OneMode.no_backslash_escape c.in-OneMode.is) _ (plain_length c.in-OneMode.no_backslash_escape (given_by_borrowed c.args.params)) c.args.room.now c.written_into.new.room told (rw (c.surveyed_for-surveyed.ensures.query, c.surveyed_for-surveyed.ensures.reading) at o)) c.written_into.ensures.text

pub returns-in-OneMode-clause-refused : goal.returns-in-OneMode-clause-refused
returns-in-OneMode-clause-refused c =
    err_to _ _ c.written_into.result (λ refusal o. in_all c.args.purpose c.args.query.now _ c.requires.accepted (rw (c.surveyed_for-surveyed.ensures.query, c.surveyed_for-surveyed.ensures.reading) at o)) c.written_into.ensures.refused

pub returns-in-OneMode-clause-mixed : goal.returns-in-OneMode-clause-mixed
returns-in-OneMode-clause-mixed c =
    in_all c.args.purpose c.args.query.now _ c.requires.accepted (rw (c.surveyed_for-surveyed.ensures.query, c.surveyed_for-surveyed.ensures.reading) at c.written_into.ensures.mixed)

pub returns-in-EitherMode-clause-bound : goal.returns-in-EitherMode-clause-bound
returns-in-EitherMode-clause-bound c =
    ok_to _ _ c.written_into-in-EitherMode.result (λ told o. text_in_room c.args.purpose c.args.query.now _ _ (λ x o. either_text c.args.purpose c.args.query.now (given_by_borrowed c.args.params) c.requires.accepted x o c.in-EitherMode.is) _ (steady_length (given_by_borrowed c.args.params)) c.args.room.now c.written_into-in-EitherMode.new.room told (rw (c.surveyed_for-surveyed.ensures.query, c.surveyed_for-surveyed.ensures.reading) at o)) c.written_into-in-EitherMode.ensures.text

pub returns-in-EitherMode-clause-refused : goal.returns-in-EitherMode-clause-refused
returns-in-EitherMode-clause-refused c =
    err_to _ _ c.written_into-in-EitherMode.result (λ refusal o. in_all c.args.purpose c.args.query.now _ c.requires.accepted (rw (c.surveyed_for-surveyed.ensures.query, c.surveyed_for-surveyed.ensures.reading) at o)) c.written_into-in-EitherMode.ensures.refused

pub returns-in-EitherMode-clause-mixed : goal.returns-in-EitherMode-clause-mixed
returns-in-EitherMode-clause-mixed c =
    in_all c.args.purpose c.args.query.now _ c.requires.accepted (rw (c.surveyed_for-surveyed.ensures.query, c.surveyed_for-surveyed.ensures.reading) at c.written_into-in-EitherMode.ensures.mixed)

pub returns-in-AnyConnection-clause-bound : goal.returns-in-AnyConnection-clause-bound
returns-in-AnyConnection-clause-bound c =
    ok_to _ _ c.written_into-in-AnyConnection.result (λ told o. text_in_room c.args.purpose c.args.query.now _ _ (λ x o. any_text c.args.purpose c.args.query.now (given_by_borrowed c.args.params) c.requires.accepted x o c.in-AnyConnection.is) _ (steady_length (given_by_borrowed c.args.params)) c.args.room.now c.written_into-in-AnyConnection.new.room told (rw (c.surveyed_for-surveyed.ensures.query, c.surveyed_for-surveyed.ensures.reading) at o)) c.written_into-in-AnyConnection.ensures.text

pub returns-in-AnyConnection-clause-refused : goal.returns-in-AnyConnection-clause-refused
returns-in-AnyConnection-clause-refused c =
    err_to _ _ c.written_into-in-AnyConnection.result (λ refusal o. in_all c.args.purpose c.args.query.now _ c.requires.accepted (rw (c.surveyed_for-surveyed.ensures.query, c.surveyed_for-surveyed.ensures.reading) at o)) c.written_into-in-AnyConnection.ensures.refused

pub returns-in-AnyConnection-clause-mixed : goal.returns-in-AnyConnection-clause-mixed
returns-in-AnyConnection-clause-mixed c =
    in_all c.args.purpose c.args.query.now _ c.requires.accepted (rw (c.surveyed_for-surveyed.ensures.query, c.surveyed_for-surveyed.ensures.reading) at c.written_into-in-AnyConnection.ensures.mixed)
