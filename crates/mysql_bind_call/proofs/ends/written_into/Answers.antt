use Rattle.mysql_params_core.specs.GivenBorrowed.{given_by_borrowed}
use Rattle.mysql_binding.specs.BindErrors as bound
use Rattle.mysql_binding.specs.FirstCause.{first_cause}
use Rattle.mysql_binding.specs.declared.bind_error.BindError.TheVariants.{Mixed}
use Rattle.mysql_bind_call.specs.AnyGiven.{values}
use Rattle.mysql_bind_call.specs.Errors.{of_bind_error}
use Rattle.mysql_bind_call.specs.Refusals.{IsCauseOrMemory}
use Rattle.mysql_steady_text.specs.declared.purpose.Scope.TheVariants.{EitherMode}
use Rattle.std.proofs.Common.{refl}
use Rattle.mysql_bind_call.proofs.ResultLemmas.{err_in, mixed_on, values_cause}
use Rattle.mysql_bind_call.proofs.ends.written_into.Goals as goal

pub returns-clause-refused : goal.returns-clause-refused
returns-clause-refused g c =
    let given = given_by_borrowed c.args.params in
    rw c.of_values.ensures (
    err_in of_bind_error c.args.surveyed.now.reading c.args.surveyed.now.query.now
    (λ ts e. bound.IsCauseOrMemory (first_cause ts given) e) (λ ts e. IsCauseOrMemory EitherMode ts (values given) e)
    (λ ts e. values_cause EitherMode ts given e) c.bind_surveyed_into.result c.bind_surveyed_into.ensures.refused)

pub returns-clause-mixed : goal.returns-clause-mixed
returns-clause-mixed g c =
    let o = c.bind_surveyed_into.ensures.mixed in
    rw c.of_values.ensures (
      o.0,
      o.1,
      mixed_on of_bind_error Mixed (values (given_by_borrowed c.args.params)) c.bind_surveyed_into.result o.0 refl o.2,
    )
