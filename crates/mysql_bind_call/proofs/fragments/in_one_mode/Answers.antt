use Rattle.std.specs.Prelude.{true}
use Rattle.std.proofs.Common.{refl}
use Rattle.mysql_named_params.specs.Reading.{reading_with}
use Rattle.mysql_fragments.specs.FragmentErrors as fragment
use Rattle.mysql_fragments.specs.GivenFragments.{given_fragments}
use Rattle.mysql_fragments.specs.declared.fragments_error.FragmentsError.TheVariants.{Mixed}
use Rattle.mysql_bind_call.specs.AnyGiven.{fragments}
use Rattle.mysql_bind_call.specs.Errors.{of_fragments_error}
use Rattle.mysql_bind_call.specs.Refusals.{IsCauseOrMemory}
use Rattle.mysql_steady_text.specs.declared.purpose.Scope.TheVariants.{OneMode}
use Rattle.mysql_bind_call.proofs.FragmentLemmas.{fragments_cause}
use Rattle.mysql_bind_call.proofs.ResultLemmas.{err_in, mixed_on}
use Rattle.mysql_bind_call.proofs.fragments.in_one_mode.Goals as goal

pub returns-clause-refused : goal.returns-clause-refused
returns-clause-refused c =
    let given = given_fragments c.args.list.now in
    let scope = OneMode c.args.no_backslash_escape in
    rw c.of_fragments.ensures (
    err_in of_fragments_error (reading_with c.args.wide_names c.args.no_backslash_escape) c.args.query.now
    (λ ts e. fragment.IsCauseOrMemory (fragment.first_cause true ts given) e) (λ ts e. IsCauseOrMemory scope ts (fragments given) e)
    (λ ts e. fragments_cause scope ts given e) c.bound_fragments.result c.bound_fragments.ensures.refused)

pub returns-clause-mixed : goal.returns-clause-mixed
returns-clause-mixed c =
    let o = c.bound_fragments.ensures.mixed in
    rw c.of_fragments.ensures (
      o.0,
      o.1,
      mixed_on of_fragments_error Mixed (fragments (given_fragments c.args.list.now)) c.bound_fragments.result o.0 refl o.2,
    )
