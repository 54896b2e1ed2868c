use Rattle.std.specs.Prelude.{false, true, None, Some, Err, IfErr, IfOk}
use Rattle.std.proofs.Common.{ap, refl, sym, inl, inr, ◌∙◌}
use Rattle.mysql_params_core.specs.Given.{positional}
use Rattle.mysql_values.specs.BorrowedValue.{owned_values}
use Rattle.mysql_named_params.specs.LoweredNames.{lower_names}
use Rattle.mysql_portable.specs.FirstUnportable.{first_unportable}
use Rattle.mysql_binding.specs.FirstCause.{first_cause}
use Rattle.mysql_binding.specs.declared.bind_error.BindError.TheVariants as bind
use Rattle.mysql_steady_text.specs.BothModesErrors.{IsBothModesRefusal}
use Rattle.mysql_steady_text.specs.BothModesText.{IsPortableInBothModes}
use Rattle.mysql_steady_text.specs.FirstBackslash.{first_backslash}
use Rattle.mysql_steady_text.specs.declared.purpose.QueryRefusal.TheVariants.{Backslash, Unportable}
use Rattle.mysql_steady_text.proofs.QueryRefusalLemmas.{as_judged}
use Rattle.mysql_bind_call.specs.AnyGiven.{values}
use Rattle.mysql_bind_call.specs.Errors.{with_error}
use Rattle.mysql_bind_call.specs.InstanceErrors.{both_modes_error}
use Rattle.mysql_bind_call.specs.declared.refusal.BindRefusal.TheVariants.{Query, Values}
use Rattle.mysql_bind_call.proofs.AgainLemmas.{both_again, both_positioned}
use Rattle.mysql_bind_call.proofs.InstanceLemmas.{backslash_early, both_error, both_modes_bound, either_construct, either_mixed, either_mode, low_construct, plain_refused}
use Rattle.mysql_bind_call.proofs.instances.values.bind_values_in_both_modes.Goals as goal

pub returns-clause-bound : goal.returns-clause-bound
returns-clause-bound c =
    rw c.for_both_modes.ensures (both_modes_bound (λ text. text.items) c.args.query.now (positional (owned_values c.args.values.now)) both_modes_error c.bind.result c.bind.ensures.bound c.bind.ensures.accepted)

pub returns-clause-bound_again : goal.returns-clause-bound_again
returns-clause-bound_again c =
    rw c.for_both_modes.ensures (
    both_again false true c.args.query.now (positional (owned_values c.args.values.now)) (λ text. text.items) (λ ts text. IsPortableInBothModes ts (positional (owned_values c.args.values.now)) text.items) (λ ts text t. t.text_in_both_modes) (with_error both_modes_error c.bind.result)
    (both_modes_bound (λ text. text.items) c.args.query.now (positional (owned_values c.args.values.now)) both_modes_error c.bind.result c.bind.ensures.bound c.bind.ensures.accepted true))

pub returns-clause-by_position : goal.returns-clause-by_position
returns-clause-by_position c mode =
    rw c.for_both_modes.ensures (
    both_positioned false mode c.args.query.now (positional (owned_values c.args.values.now)) (λ text. text.items) (λ ts text. IsPortableInBothModes ts (positional (owned_values c.args.values.now)) text.items) (λ ts text t. t.text_in_both_modes) (with_error both_modes_error c.bind.result)
    (both_modes_bound (λ text. text.items) c.args.query.now (positional (owned_values c.args.values.now)) both_modes_error c.bind.result c.bind.ensures.bound c.bind.ensures.accepted mode))

pub returns-clause-refused : goal.returns-clause-refused
returns-clause-refused c mode =
    rw c.for_both_modes.ensures (
    as_judged mode c.args.query.now (λ ts us. IfErr (with_error both_modes_error c.bind.result) (IsBothModesRefusal (first_backslash ts) (first_unportable us) (first_cause ts (positional (owned_values c.args.values.now))))) (
    plain_refused (λ text. text.items) either_mode c.args.query.now (values (positional (owned_values c.args.values.now))) both_modes_error
    (λ ts e. IsBothModesRefusal (first_backslash ts) (first_unportable (lower_names ts)) (first_cause ts (positional (owned_values c.args.values.now))) e) c.bind.result
    (λ ts e h. both_error c.args.query.now ts (positional (owned_values c.args.values.now)) e h) c.bind.ensures.refused mode))

pub returns-clause-backslash : goal.returns-clause-backslash
returns-clause-backslash c mode =
    let o = c.bind.ensures.early tt (values (positional (owned_values c.args.values.now))) refl mode in
    rw c.for_both_modes.ensures (
      o.0,
      o.1,
      λ at first. ap (with_error both_modes_error) (o.2 (Query (Backslash at)) (backslash_early c.args.query.now o.0 (values (positional (owned_values c.args.values.now))) at first)),
    )

pub returns-clause-unportable : goal.returns-clause-unportable
returns-clause-unportable c mode =
    let o = c.bind.ensures.early tt (values (positional (owned_values c.args.values.now))) refl mode in
    rw c.for_both_modes.ensures (
      o.0,
      o.1,
      λ free found first.
          ap (with_error both_modes_error) (o.2 (Query (Unportable found)) (either_construct c.args.query.now o.0 (values (positional (owned_values c.args.values.now))) free found (low_construct mode c.args.query.now o.0 o.1 (Some found) first))),
    )

pub returns-clause-mixed : goal.returns-clause-mixed
returns-clause-mixed c mode =
    let o = c.bind.ensures.early tt (values (positional (owned_values c.args.values.now))) refl mode in
    rw c.for_both_modes.ensures (
      o.0,
      o.1,
      λ free none names.
          ap (with_error both_modes_error) (o.2 (Values bind.Mixed) (either_mixed c.args.query.now o.0 (values (positional (owned_values c.args.values.now))) free (low_construct mode c.args.query.now o.0 o.1 None none) names)),
    )
