use Rattle.std.specs.Prelude.{true}
use Rattle.std.proofs.Common.{refl}
use Rattle.mysql_named_params.specs.Reading.{reading_with}
use Rattle.mysql_fragments.specs.GivenFragments.{given_fragments}
use Rattle.mysql_fragments.specs.SteadyFragmentsErrors.{IsFragmentsRefusal}
use Rattle.mysql_fragments.specs.declared.fragments_error.FragmentsError.TheVariants as fault
use Rattle.mysql_fragments.specs.declared.steady_fragments_error.SteadyFragmentsError.TheVariants as steady
use Rattle.mysql_bind_call.specs.AnyGiven.{fragments}
use Rattle.mysql_bind_call.specs.Errors.{of_steady_error}
use Rattle.mysql_bind_call.specs.Refusals.{IsCauseOrMemory}
use Rattle.mysql_steady_text.specs.declared.purpose.Scope.TheVariants.{AnyConnection}
use Rattle.mysql_bind_call.proofs.FragmentLemmas.{steady_cause}
use Rattle.mysql_bind_call.proofs.ResultLemmas.{err_in, mixed_on, ok_in, with_ok}
use Rattle.mysql_bind_call.proofs.fragments.in_either_mode.Goals as goal

pub returns-clause-bound : goal.returns-clause-bound
returns-clause-bound c = rw c.of_steady.ensures (with_ok of_steady_error _ c.filled_in_both.result c.filled_in_both.ensures.bound)

pub returns-clause-refused : goal.returns-clause-refused
returns-clause-refused c =
    let given = given_fragments c.args.list.now in
    rw c.of_steady.ensures (
    err_in of_steady_error (reading_with c.args.wide_names true) c.args.query.now
    (λ ts e. IsFragmentsRefusal ts given e) (λ ts e. IsCauseOrMemory AnyConnection ts (fragments given) e)
    (λ ts e. steady_cause ts given e) c.filled_in_both.result c.filled_in_both.ensures.refused)

pub returns-clause-mixed : goal.returns-clause-mixed
returns-clause-mixed c =
    let o = c.filled_in_both.ensures.mixed in
    rw c.of_steady.ensures (
      o.0,
      o.1,
      mixed_on of_steady_error (steady.Fragments fault.Mixed) (fragments (given_fragments c.args.list.now)) c.filled_in_both.result o.0 refl o.2,
    )
