use Rattle.mysql_fragments.specs.GivenFragments.{given_fragments}
use Rattle.mysql_bind_call.proofs.FragmentLemmas.{any_list, any_refused, either_list, either_refused, own_list, own_refused}
use Rattle.mysql_bind_call.proofs.ScopeLemmas.{accepted_free, accepted_steady, in_any, in_either, in_own}
use Rattle.mysql_bind_call.proofs.fragments.bind_list.Goals as goal

pub for_any_connection-requires : goal.for_any_connection-requires
for_any_connection-requires c = accepted_steady c.args.purpose c.args.query.now c.requires.accepted c.in-AnyConnection.is

pub in_either_mode-requires : goal.in_either_mode-requires
in_either_mode-requires c = accepted_free c.args.purpose c.args.query.now c.requires.accepted c.in-EitherMode.is

pub returns-in-OneMode-clause-bound : goal.returns-in-OneMode-clause-bound
returns-in-OneMode-clause-bound c =
    own_list (λ text. text.items) c.in_one_mode.result c.args.purpose c.args.query.now (given_fragments c.args.list.now) c.in-OneMode.no_backslash_escape c.in-OneMode.is c.in_one_mode.ensures.bound

pub returns-in-OneMode-clause-refused : goal.returns-in-OneMode-clause-refused
returns-in-OneMode-clause-refused c =
    own_refused c.in_one_mode.result c.args.purpose c.args.query.now (given_fragments c.args.list.now) c.in-OneMode.no_backslash_escape c.in-OneMode.is c.in_one_mode.ensures.refused

pub returns-in-OneMode-clause-mixed : goal.returns-in-OneMode-clause-mixed
returns-in-OneMode-clause-mixed c =
    in_own c.args.purpose c.args.query.now _ c.in-OneMode.no_backslash_escape c.in-OneMode.is c.in_one_mode.ensures.mixed

pub returns-in-EitherMode-clause-bound : goal.returns-in-EitherMode-clause-bound
returns-in-EitherMode-clause-bound c =
    either_list (λ text. text.items) c.in_either_mode.result c.args.purpose c.args.query.now (given_fragments c.args.list.now) c.in-EitherMode.is c.requires.accepted c.in_either_mode.ensures.bound

pub returns-in-EitherMode-clause-refused : goal.returns-in-EitherMode-clause-refused
returns-in-EitherMode-clause-refused c =
    either_refused c.in_either_mode.result c.args.purpose c.args.query.now (given_fragments c.args.list.now) c.in-EitherMode.is c.requires.accepted c.in_either_mode.ensures.refused

pub returns-in-EitherMode-clause-mixed : goal.returns-in-EitherMode-clause-mixed
returns-in-EitherMode-clause-mixed c =
    in_either c.args.purpose c.args.query.now _ c.in-EitherMode.is c.requires.accepted c.in_either_mode.ensures.mixed

pub returns-in-AnyConnection-clause-bound : goal.returns-in-AnyConnection-clause-bound
returns-in-AnyConnection-clause-bound c =
    any_list (λ text. text.items) c.for_any_connection.result c.args.purpose c.args.query.now (given_fragments c.args.list.now) c.in-AnyConnection.is c.requires.accepted c.for_any_connection.ensures.bound

pub returns-in-AnyConnection-clause-refused : goal.returns-in-AnyConnection-clause-refused
returns-in-AnyConnection-clause-refused c =
    any_refused c.for_any_connection.result c.args.purpose c.args.query.now (given_fragments c.args.list.now) c.in-AnyConnection.is c.requires.accepted c.for_any_connection.ensures.refused

pub returns-in-AnyConnection-clause-mixed : goal.returns-in-AnyConnection-clause-mixed
returns-in-AnyConnection-clause-mixed c =
    in_any c.args.purpose c.args.query.now _ c.in-AnyConnection.is c.requires.accepted c.for_any_connection.ensures.mixed
