use Rattle.std.specs.Prelude.{false, true, None, Some, Err, IfErr, IfOk}
use Rattle.std.proofs.Common.{ap, refl, sym, inl, inr, ◌∙◌}
use Rattle.mysql_params_core.specs.Given.{given}
use Rattle.mysql_portable.specs.FirstUnportable.{first_unportable}
use Rattle.mysql_binding.specs.FirstCause.{first_cause}
use Rattle.mysql_binding.specs.declared.bind_error.BindError.TheVariants as bind
use Rattle.mysql_steady_text.specs.Purposes.{first_construct}
use Rattle.mysql_steady_text.specs.SteadyText.{IsSteadyText}
use Rattle.mysql_steady_text.specs.SteadyTextErrors.{IsSteadyRefusal}
use Rattle.mysql_steady_text.specs.declared.purpose.Portability.TheVariants.{Any, Servers}
use Rattle.mysql_steady_text.specs.declared.purpose.QueryRefusal.TheVariants.{Unportable, Unsteady}
use Rattle.mysql_bind_call.specs.AnyGiven.{values}
use Rattle.mysql_bind_call.specs.Errors.{with_error}
use Rattle.mysql_bind_call.specs.InstanceErrors.{steady_text_error}
use Rattle.mysql_bind_call.specs.declared.refusal.BindRefusal.TheVariants.{Query, Values}
use Rattle.mysql_bind_call.proofs.AgainLemmas.{steady_again, steady_positioned}
use Rattle.mysql_bind_call.proofs.InstanceLemmas.{any_connection, anywhere_bound, construct_early, low_construct, mixed_early, plain_bound, plain_refused, steady_error, unsteady_early}
use Rattle.mysql_bind_call.proofs.instances.texts.bind_text_in_any_mode.Goals as goal

pub returns-clause-bound : goal.returns-clause-bound
returns-clause-bound c = rw c.for_any.ensures (plain_bound (λ text. text.items) (any_connection Any false) c.args.query.now (values (given c.args.params)) steady_text_error c.bind.result c.bind.ensures.bound)

pub returns-clause-bound_again : goal.returns-clause-bound_again
returns-clause-bound_again c =
    rw c.for_any.ensures (
    steady_again false true c.args.query.now (given c.args.params) (λ text. text.items) (λ ts text. IsSteadyText ts (given c.args.params) text.items) (λ ts text t. t) (with_error steady_text_error c.bind.result)
    (plain_bound (λ text. text.items) (any_connection Any false) c.args.query.now (values (given c.args.params)) steady_text_error c.bind.result c.bind.ensures.bound true))

pub returns-clause-by_position : goal.returns-clause-by_position
returns-clause-by_position c mode =
    rw c.for_any.ensures (
    steady_positioned false mode c.args.query.now (given c.args.params) (λ text. text.items) (λ ts text. IsSteadyText ts (given c.args.params) text.items) (λ ts text t. t) (with_error steady_text_error c.bind.result)
    (plain_bound (λ text. text.items) (any_connection Any false) c.args.query.now (values (given c.args.params)) steady_text_error c.bind.result c.bind.ensures.bound mode))

pub returns-clause-unsteady : goal.returns-clause-unsteady
returns-clause-unsteady c at first =
    let o = c.bind.ensures.early tt (values (given c.args.params)) refl true in
    rw c.for_any.ensures (
    ap (with_error steady_text_error) (o.2 (Query (Unsteady at)) (unsteady_early Any false c.args.query.now o.0 (values (given c.args.params)) at first)))

pub returns-clause-refused : goal.returns-clause-refused
returns-clause-refused c =
    rw c.for_any.ensures (
    plain_refused (λ text. text.items) (any_connection Any false) c.args.query.now (values (given c.args.params)) steady_text_error
    (λ ts e. IsSteadyRefusal c.args.query.now None (first_cause ts (given c.args.params)) e) c.bind.result
    (λ ts e h. steady_error c.args.query.now ts (given c.args.params) Any false e h) c.bind.ensures.refused)

pub returns-clause-mixed : goal.returns-clause-mixed
returns-clause-mixed c mode =
    let o = c.bind.ensures.early tt (values (given c.args.params)) refl mode in
    rw c.for_any.ensures (
      o.0,
      o.1,
      λ steady names.
          ap (with_error steady_text_error) (o.2 (Values bind.Mixed) (mixed_early Any false c.args.query.now o.0 (values (given c.args.params)) steady refl names)),
    )
