use Rattle.std.proofs.lemmas.Result.{err_from_is_err_and}
use Rattle.mysql_fragments.specs.GivenFragments.{given_fragments}
use Rattle.mysql_fragments.proofs.FilledLemmas.{bound_on}
use Rattle.mysql_fragments.proofs.expanded.bound_fragments.Goals as goal

pub filled_query-requires : goal.filled_query-requires
filled_query-requires c = (given_fragments c.args.fragments.now, rw c.as_slice.ensures.value c.in_ok-list.ensures.placed)

pub returns-clause-bound : goal.returns-clause-bound
returns-clause-bound c =
    bound_on _ _ (given_fragments c.args.fragments.now) _
    (c.in_ok-text.ensures (given_fragments c.args.fragments.now) (rw c.as_slice.ensures.value c.in_ok-list.ensures.placed))

pub returns-in_err-list-clause-bound : goal.returns-in_err-list-clause-bound
returns-in_err-list-clause-bound c =
    let handed_on = err_from_is_err_and c.from_residual.result c.from_residual.ensures.1 in
    rw handed_on.1 c.in_err-list.ensures.placed

pub returns-in_err-list-clause-refused : goal.returns-in_err-list-clause-refused
returns-in_err-list-clause-refused c =
    let handed_on = err_from_is_err_and c.from_residual.result c.from_residual.ensures.1 in
    rw (handed_on.1, handed_on.2) c.in_err-list.ensures.refused

pub returns-in_err-list-clause-mixed : goal.returns-in_err-list-clause-mixed
returns-in_err-list-clause-mixed c =
    let handed_on = err_from_is_err_and c.from_residual.result c.from_residual.ensures.1 in
    let o = c.in_err-list.ensures.mixed in
    rw (handed_on.1, handed_on.2) (o.0, o.1, λ both. let e = o.2 both in cc)
