use Rattle.mysql_params_core.specs.GivenBorrowed.{given_by_borrowed}
use Rattle.mysql_bind_call.proofs.ResultLemmas.{err_to}
use Rattle.mysql_bind_call.proofs.ScopeLemmas.{in_any, in_either, in_own}
use Rattle.mysql_bind_call.proofs.ValueLemmas.{any_bound, either_bound, one_mode_bound}
use Rattle.mysql_bind_call.proofs.borrowed_values.bind_borrowed.Goals as goal

pub returns-in-OneMode-clause-bound : goal.returns-in-OneMode-clause-bound
returns-in-OneMode-clause-bound c =
    one_mode_bound (λ text. text.items) c.written.result c.args.purpose c.args.query.now (given_by_borrowed c.args.params) c.in-OneMode.no_backslash_escape c.in-OneMode.is c.written.ensures.text

pub returns-in-OneMode-clause-refused : goal.returns-in-OneMode-clause-refused
returns-in-OneMode-clause-refused c =
    err_to _ _ c.written.result (λ refusal o. in_own c.args.purpose c.args.query.now _ c.in-OneMode.no_backslash_escape c.in-OneMode.is o) c.written.ensures.refused

pub returns-in-OneMode-clause-mixed : goal.returns-in-OneMode-clause-mixed
returns-in-OneMode-clause-mixed c =
    in_own c.args.purpose c.args.query.now _ c.in-OneMode.no_backslash_escape c.in-OneMode.is c.written.ensures.mixed

pub returns-in-EitherMode-clause-bound : goal.returns-in-EitherMode-clause-bound
returns-in-EitherMode-clause-bound c =
    either_bound (λ text. text.items) c.steady.result c.args.purpose c.args.query.now (given_by_borrowed c.args.params) c.in-EitherMode.is c.requires.accepted c.steady.ensures.text

pub returns-in-EitherMode-clause-refused : goal.returns-in-EitherMode-clause-refused
returns-in-EitherMode-clause-refused c =
    err_to _ _ c.steady.result (λ refusal o. in_either c.args.purpose c.args.query.now _ c.in-EitherMode.is c.requires.accepted o) c.steady.ensures.refused

pub returns-in-EitherMode-clause-mixed : goal.returns-in-EitherMode-clause-mixed
returns-in-EitherMode-clause-mixed c =
    in_either c.args.purpose c.args.query.now _ c.in-EitherMode.is c.requires.accepted c.steady.ensures.mixed

pub returns-in-AnyConnection-clause-bound : goal.returns-in-AnyConnection-clause-bound
returns-in-AnyConnection-clause-bound c =
    any_bound (λ text. text.items) c.steady-in-AnyConnection.result c.args.purpose c.args.query.now (given_by_borrowed c.args.params) c.in-AnyConnection.is c.requires.accepted c.steady-in-AnyConnection.ensures.text

pub returns-in-AnyConnection-clause-refused : goal.returns-in-AnyConnection-clause-refused
returns-in-AnyConnection-clause-refused c =
    err_to _ _ c.steady-in-AnyConnection.result (λ refusal o. in_any c.args.purpose c.args.query.now _ c.in-AnyConnection.is c.requires.accepted o) c.steady-in-AnyConnection.ensures.refused

pub returns-in-AnyConnection-clause-mixed : goal.returns-in-AnyConnection-clause-mixed
returns-in-AnyConnection-clause-mixed c =
    in_any c.args.purpose c.args.query.now _ c.in-AnyConnection.is c.requires.accepted c.steady-in-AnyConnection.ensures.mixed
