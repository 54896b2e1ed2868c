use Rattle.std.specs.Prelude.{true}
use Rattle.std.proofs.Common.{ap, ◌∙◌, rules}
use Rattle.std.proofs.lemmas.Result.{err_from_is_err_and}
use Rattle.mysql_params_core.specs.Referents.{referents}
use Rattle.mysql_fragments.specs.GivenFragments.{given_fragments}
use Rattle.mysql_fragments.specs.SteadyFragments.{first_unsteady_from}
use Rattle.mysql_bind_call.proofs.FragmentLemmas.{both_modes_list, place_told}
use Rattle.mysql_fragments.proofs.SteadyFragmentLemmas.{nothing_read}
use Rattle.mysql_bind_call.proofs.fragments.filled_in_both.Goals as goal

pub returns-in_err-placed-clause-refused : goal.returns-in_err-placed-clause-refused
returns-in_err-placed-clause-refused c =
    let handed_on = err_from_is_err_and c.from_residual.result c.from_residual.ensures.1 in
    rw (handed_on.1, handed_on.2) c.in_err-placed.ensures.refused

pub returns-in_err-placed-clause-mixed : goal.returns-in_err-placed-clause-mixed
returns-in_err-placed-clause-mixed c =
    let o = c.in_err-placed.ensures.mixed in
    let handed_on = err_from_is_err_and c.from_residual.result c.from_residual.ensures.1 in
    rw (handed_on.1, handed_on.2) (o.0, o.1, λ both. let e = o.2 both in cc)

pub returns-in-Some-clause-refused : goal.returns-in-Some-clause-refused
returns-in-Some-clause-refused c =
    place_told c.args.wide_names c.args.query.now (given_fragments c.args.list.now) (referents c.in_ok-placed.placed.items) c.in_ok-placed.ensures.placed c.in-Some.place
    (c.in-Some.ensures ∙ ap (λ items. first_unsteady_from 0 (referents items)) c.as_slice.ensures.value)

pub returns-in-Some-clause-mixed : goal.returns-in-Some-clause-mixed
returns-in-Some-clause-mixed c =
    let o = c.in_ok-placed.ensures.mixed in
    (o.0, o.1, λ both. let e = o.2 both in cc)

pub filled_query-requires : goal.filled_query-requires
filled_query-requires c = (given_fragments c.args.list.now, rw c.as_slice-2.ensures.value c.in_ok-placed.ensures.placed)

pub returns-clause-bound : goal.returns-clause-bound
returns-clause-bound c =
    both_modes_list c.args.wide_names c.args.query.now (given_fragments c.args.list.now) (referents c.in_ok-placed.placed.items) c.in_ok-placed.ensures.placed c.in_ok-text.text.items c.requires
    (c.in_default.ensures ∙ ap (λ items. first_unsteady_from 0 (referents items)) c.as_slice.ensures.value)
    (c.in_ok-text.ensures (given_fragments c.args.list.now) (rw c.as_slice-2.ensures.value c.in_ok-placed.ensures.placed))

pub returns-clause-refused : goal.returns-clause-refused
returns-clause-refused c = nothing_read c.args.wide_names true c.args.query.now

pub returns-clause-mixed : goal.returns-clause-mixed
returns-clause-mixed c =
    let o = c.in_ok-placed.ensures.mixed in
    (o.0, o.1, λ both. let e = o.2 both in cc)

pub returns-in_err-text-clause-refused : goal.returns-in_err-text-clause-refused
returns-in_err-text-clause-refused c =
    let t = nothing_read c.args.wide_names true c.args.query.now in
    let handed_on = err_from_is_err_and c.from_residual-in_err-text.result c.from_residual-in_err-text.ensures.1 in
    rw (handed_on.1, handed_on.2) (t.0, t.1, search rules)

pub returns-in_err-text-clause-mixed : goal.returns-in_err-text-clause-mixed
returns-in_err-text-clause-mixed c =
    let o = c.in_ok-placed.ensures.mixed in
    (o.0, o.1, λ both. let e = o.2 both in cc)
