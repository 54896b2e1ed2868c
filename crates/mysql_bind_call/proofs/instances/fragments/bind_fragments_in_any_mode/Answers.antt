use Rattle.std.specs.Prelude.{false, true, None, Some, Err, IfErr, IfOk}
use Rattle.std.proofs.Common.{ap, refl, sym, inl, inr, ◌∙◌}
use Rattle.mysql_bind_call.specs.AnyGiven.{fragments}
use Rattle.mysql_bind_call.specs.Errors.{with_error}
use Rattle.mysql_fragments.specs.GivenFragments.{given_fragments}
use Rattle.mysql_portable.specs.FirstUnportable.{first_unportable}
use Rattle.mysql_steady_text.specs.Purposes.{first_construct}
use Rattle.mysql_steady_text.specs.declared.purpose.Portability.TheVariants.{Any, Servers}
use Rattle.mysql_steady_text.specs.declared.purpose.QueryRefusal.TheVariants.{Unportable, Unsteady}
use Rattle.mysql_fragments.specs.SteadyFragmentsErrors.{IsSteadyRefusal}
use Rattle.mysql_fragments.specs.declared.fragments_error.FragmentsError.TheVariants as fault
use Rattle.mysql_bind_call.specs.InstanceErrors.{steady_fragments_error}
use Rattle.mysql_bind_call.specs.declared.refusal.BindRefusal.TheVariants.{Fragments, Query}
use Rattle.mysql_bind_call.proofs.FragmentInstanceLemmas.{anywhere_list, steady_error}
use Rattle.mysql_bind_call.proofs.InstanceLemmas.{any_connection, construct_early, low_construct, mixed_early, plain_bound, plain_refused, unsteady_early}
use Rattle.mysql_bind_call.proofs.instances.fragments.bind_fragments_in_any_mode.Goals as goal

pub returns-clause-unsteady : goal.returns-clause-unsteady
returns-clause-unsteady c at first =
    let o = c.bind.ensures.early tt (fragments (given_fragments c.args.fragments.now)) refl true in
    rw c.fragments_for_any.ensures (
    ap (with_error steady_fragments_error) (o.2 (Query (Unsteady at)) (unsteady_early Any false c.args.query.now o.0 (fragments (given_fragments c.args.fragments.now)) at first)))

pub returns-clause-bound : goal.returns-clause-bound
returns-clause-bound c =
    rw c.fragments_for_any.ensures (
    plain_bound (λ text. text.items) (any_connection Any false) c.args.query.now (fragments (given_fragments c.args.fragments.now)) steady_fragments_error c.bind.result c.bind.ensures.bound)

pub returns-clause-refused : goal.returns-clause-refused
returns-clause-refused c =
    rw c.fragments_for_any.ensures (
    plain_refused (λ text. text.items) (any_connection Any false) c.args.query.now (fragments (given_fragments c.args.fragments.now)) steady_fragments_error
    (λ ts e. IsSteadyRefusal c.args.query.now None ts (given_fragments c.args.fragments.now) e) c.bind.result
    (λ ts e h. steady_error c.args.query.now ts (given_fragments c.args.fragments.now) Any e h) c.bind.ensures.refused)

pub returns-clause-mixed : goal.returns-clause-mixed
returns-clause-mixed c mode =
    let o = c.bind.ensures.early tt (fragments (given_fragments c.args.fragments.now)) refl mode in
    rw c.fragments_for_any.ensures (
      o.0,
      o.1,
      λ steady names.
          ap (with_error steady_fragments_error) (o.2 (Fragments fault.Mixed) (mixed_early Any false c.args.query.now o.0 (fragments (given_fragments c.args.fragments.now)) steady refl names)),
    )
