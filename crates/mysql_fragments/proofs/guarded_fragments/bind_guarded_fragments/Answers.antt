use Rattle.std.proofs.Common.{true, false, ap, ◌∙◌, rules}
use Rattle.std.proofs.lemmas.Result.{err_from_is_err_and}
use Rattle.mysql_params_core.specs.Referents.{referents}
use Rattle.mysql_steady_text.proofs.WideSteadyLemmas.{steady_reading}
use Rattle.mysql_fragments.specs.FragmentErrors.{first_cause, IsCauseOrMemory}
use Rattle.mysql_fragments.specs.GivenFragments.{given_fragments}
use Rattle.mysql_fragments.specs.SteadyFragments.{first_unsteady_from}
use Rattle.mysql_fragments.specs.SteadyFragmentsErrors.{IsFragmentsRefusal}
use Rattle.mysql_fragments.specs.declared.steady_fragments_error.SteadyFragmentsError.TheVariants.{UnsteadyFragment}
use Rattle.mysql_fragments.proofs.SteadyFragmentLemmas.{in_either, nothing_read, place_told}
use Rattle.mysql_fragments.proofs.GuardedFragmentLemmas.{guarded_fragments_on}
use Rattle.mysql_fragments.proofs.guarded_fragments.bind_guarded_fragments.Goals as goal

pub returns-in_err-list-clause-bound : goal.returns-in_err-list-clause-bound
returns-in_err-list-clause-bound c mode =
    let handed_on = err_from_is_err_and c.from_residual.result c.from_residual.ensures.1 in
    rw handed_on.1 (nothing_read true mode c.args.query.now)

pub returns-in_err-list-clause-refused : goal.returns-in_err-list-clause-refused
returns-in_err-list-clause-refused c mode =
    let handed_on = err_from_is_err_and c.from_residual.result c.from_residual.ensures.1 in
    rw (handed_on.1, handed_on.2)
    (in_either true c.args.query.now (λ ts. IsCauseOrMemory (first_cause true ts (given_fragments c.args.fragments.now)) c.in_err-list.field-0.0) false mode c.requires c.in_err-list.ensures.refused)

pub returns-in_err-list-clause-mixed : goal.returns-in_err-list-clause-mixed
returns-in_err-list-clause-mixed c mode =
    let o = c.in_err-list.ensures.mixed in
    let handed_on = err_from_is_err_and c.from_residual.result c.from_residual.ensures.1 in
    rw (handed_on.1, handed_on.2)
    (o.0, steady_reading true false mode c.args.query.now o.0 c.requires o.1, λ both. let e = o.2 both in cc)

pub returns-in-Some-clause-bound : goal.returns-in-Some-clause-bound
returns-in-Some-clause-bound c mode = nothing_read true mode c.args.query.now

pub returns-in-Some-clause-refused : goal.returns-in-Some-clause-refused
returns-in-Some-clause-refused c mode =
    in_either true c.args.query.now (λ ts. IsFragmentsRefusal ts (given_fragments c.args.fragments.now) (UnsteadyFragment c.in-Some.place)) false mode c.requires
    (place_told true c.args.query.now (given_fragments c.args.fragments.now) (referents c.in_ok-list.list.items) c.requires c.in_ok-list.ensures.placed c.in-Some.place
    (c.in-Some.ensures ∙ ap (λ items. first_unsteady_from 0 (referents items)) c.as_slice.ensures.value))

pub returns-in-Some-clause-mixed : goal.returns-in-Some-clause-mixed
returns-in-Some-clause-mixed c mode =
    let o = c.in_ok-list.ensures.mixed in
    (o.0, steady_reading true false mode c.args.query.now o.0 c.requires o.1, λ both. let e = o.2 both in cc)

pub filled_query-requires : goal.filled_query-requires
filled_query-requires c = (given_fragments c.args.fragments.now, rw c.as_slice-2.ensures.value c.in_ok-list.ensures.placed)

pub returns-clause-bound : goal.returns-clause-bound
returns-clause-bound c =
    guarded_fragments_on c.args.no_backslash_escape c.args.query.now (given_fragments c.args.fragments.now) (referents c.in_ok-list.list.items) c.requires c.in_ok-list.ensures.placed c.in_ok-text.text.items
    (c.in_default.ensures ∙ ap (λ items. first_unsteady_from 0 (referents items)) c.as_slice.ensures.value)
    (c.in_ok-text.ensures (given_fragments c.args.fragments.now) (rw c.as_slice-2.ensures.value c.in_ok-list.ensures.placed))

pub returns-clause-refused : goal.returns-clause-refused
returns-clause-refused c mode = nothing_read true mode c.args.query.now

pub returns-clause-mixed : goal.returns-clause-mixed
returns-clause-mixed c mode =
    let o = c.in_ok-list.ensures.mixed in
    (o.0, steady_reading true false mode c.args.query.now o.0 c.requires o.1, λ both. let e = o.2 both in cc)

pub returns-in_err-text-clause-bound : goal.returns-in_err-text-clause-bound
returns-in_err-text-clause-bound c mode =
    let handed_on = err_from_is_err_and c.from_residual-in_err-text.result c.from_residual-in_err-text.ensures.1 in
    rw handed_on.1 (nothing_read true mode c.args.query.now)

pub returns-in_err-text-clause-refused : goal.returns-in_err-text-clause-refused
returns-in_err-text-clause-refused c mode =
    let t = nothing_read true mode c.args.query.now in
    let handed_on = err_from_is_err_and c.from_residual-in_err-text.result c.from_residual-in_err-text.ensures.1 in
    rw (handed_on.1, handed_on.2) (t.0, t.1, search rules)

pub returns-in_err-text-clause-mixed : goal.returns-in_err-text-clause-mixed
returns-in_err-text-clause-mixed c mode =
    let o = c.in_ok-list.ensures.mixed in
    (o.0, steady_reading true false mode c.args.query.now o.0 c.requires o.1, λ both. let e = o.2 both in cc)
