use Rattle.std.proofs.lemmas.Result.{err_from_is_err_and}
use Rattle.mysql_params_core.specs.Referents.{referents}
use Rattle.mysql_fragments.specs.GivenFragments.{given_fragments}
use Rattle.mysql_fragments.proofs.ExpandedLemmas.{each_on, expanded_on}
use Rattle.mysql_fragments.proofs.expanded.expanded.Goals as goal

pub written-requires : goal.written-requires
written-requires c =
    rw c.as_slice.ensures.value (each_on c.args.as_literals _ _ (given_fragments c.args.fragments.now) (referents c.in_ok-list.list.items) c.in_ok-list.ensures.placed)

pub returns-clause-expanded : goal.returns-clause-expanded
returns-clause-expanded c =
    expanded_on c.args.as_literals _ _ (given_fragments c.args.fragments.now) (referents c.in_ok-list.list.items) c.in_ok-list.ensures.placed
    _ _ (rw c.as_slice.ensures.value at c.in_ok-expanded.ensures.text) (rw c.as_slice.ensures.value at c.in_ok-expanded.ensures.values)

pub returns-in_err-list-clause-expanded : goal.returns-in_err-list-clause-expanded
returns-in_err-list-clause-expanded c =
    let handed_on = err_from_is_err_and c.from_residual.result c.from_residual.ensures.1 in
    rw handed_on.1 c.in_err-list.ensures.placed

pub returns-in_err-list-clause-refused : goal.returns-in_err-list-clause-refused
returns-in_err-list-clause-refused c =
    let handed_on = err_from_is_err_and c.from_residual.result c.from_residual.ensures.1 in
    rw (handed_on.1, handed_on.2) c.in_err-list.ensures.refused

pub returns-in_err-list-clause-mixed : goal.returns-in_err-list-clause-mixed
returns-in_err-list-clause-mixed c =
    let handed_on = err_from_is_err_and c.from_residual.result c.from_residual.ensures.1 in
    let o = c.in_err-list.ensures.mixed in
    rw (handed_on.1, handed_on.2) (o.0, o.1, λ both. let e = o.2 both in cc)
