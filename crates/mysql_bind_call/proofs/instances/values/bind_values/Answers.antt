use Rattle.std.specs.Prelude.{false, true, None, Some, Err, IfErr, IfOk}
use Rattle.std.proofs.Common.{ap, refl, sym, inl, inr, ◌∙◌}
use Rattle.mysql_params_core.specs.Given.{positional}
use Rattle.mysql_values.specs.BorrowedValue.{owned_values}
use Rattle.mysql_binding.specs.BindErrors as bound
use Rattle.mysql_binding.specs.FirstCause.{first_cause}
use Rattle.mysql_binding.specs.declared.bind_error.BindError.TheVariants.{Mixed}
use Rattle.mysql_bind_call.specs.AnyGiven.{values}
use Rattle.mysql_bind_call.specs.Errors.{with_error}
use Rattle.mysql_bind_call.specs.InstanceErrors.{bind_error}
use Rattle.mysql_bind_call.specs.declared.refusal.BindRefusal.TheVariants.{Values}
use Rattle.mysql_bind_call.proofs.AgainLemmas.{mode_all_again, mode_all_positioned}
use Rattle.mysql_bind_call.proofs.InstanceLemmas.{mixed_in_mode, mode_error, one_mode, plain_bound, plain_refused}
use Rattle.mysql_bind_call.proofs.instances.values.bind_values.Goals as goal

pub returns-clause-bound : goal.returns-clause-bound
returns-clause-bound c =
    rw c.for_mode.ensures (
    plain_bound (λ text. text.items) (one_mode c.args.no_backslash_escape) c.args.query.now (values (positional (owned_values c.args.values.now))) bind_error c.bind.result c.bind.ensures.bound true)

pub returns-clause-refused : goal.returns-clause-refused
returns-clause-refused c =
    rw c.for_mode.ensures (
    plain_refused (λ text. text.items) (one_mode c.args.no_backslash_escape) c.args.query.now (values (positional (owned_values c.args.values.now))) bind_error
    (λ ts e. bound.IsCauseOrMemory (first_cause ts (positional (owned_values c.args.values.now))) e) c.bind.result
    (λ ts e h. mode_error c.args.query.now ts (positional (owned_values c.args.values.now)) c.args.no_backslash_escape e h) c.bind.ensures.refused true)

pub returns-clause-bound_again : goal.returns-clause-bound_again
returns-clause-bound_again c =
    rw c.for_mode.ensures (
    mode_all_again false c.args.no_backslash_escape c.args.query.now (positional (owned_values c.args.values.now)) (λ text. text.items) (with_error bind_error c.bind.result)
    (plain_bound (λ text. text.items) (one_mode c.args.no_backslash_escape) c.args.query.now (values (positional (owned_values c.args.values.now))) bind_error c.bind.result c.bind.ensures.bound true))

pub returns-clause-by_position : goal.returns-clause-by_position
returns-clause-by_position c =
    rw c.for_mode.ensures (
    mode_all_positioned false c.args.no_backslash_escape c.args.query.now (positional (owned_values c.args.values.now)) (λ text. text.items) (with_error bind_error c.bind.result)
    (plain_bound (λ text. text.items) (one_mode c.args.no_backslash_escape) c.args.query.now (values (positional (owned_values c.args.values.now))) bind_error c.bind.result c.bind.ensures.bound true))

pub returns-clause-mixed : goal.returns-clause-mixed
returns-clause-mixed c =
    let o = c.bind.ensures.early tt (values (positional (owned_values c.args.values.now))) refl true in
    rw c.for_mode.ensures (
      o.0,
      o.1,
      λ names. ap (with_error bind_error) (o.2 (Values Mixed) (mixed_in_mode c.args.no_backslash_escape c.args.query.now o.0 (values (positional (owned_values c.args.values.now))) names)),
    )
