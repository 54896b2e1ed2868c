use Rattle.std.specs.Prelude.{false}
use Rattle.mysql_named_params.specs.Reading.{OnWideTokens}
use Rattle.mysql_binding.proofs.AppendedTextLemmas.{handed_on}
use Rattle.mysql_fragments.specs.GivenFragments.{given_fragments}
use Rattle.mysql_bind_core.specs.Refusals.{IsFragmentsRefusal}
use Rattle.mysql_bind_core.specs.declared.failure.Failure.TheVariants.{SteadyFragments}
use Rattle.mysql_bind_core.specs.declared.request.Literals.TheVariants.{Steady}
use Rattle.mysql_bind_core.proofs.FragmentTextLemmas.{text_for}
use Rattle.mysql_bind_core.proofs.fragments_text.steady_text.Goals as goal

pub returns-in_err-bind_steady_fragments-clause-refused : goal.returns-in_err-bind_steady_fragments-clause-refused
returns-in_err-bind_steady_fragments-clause-refused c =
    let query = c.args.query.now in
    let given = given_fragments c.args.fragments.now in
    let error = c.in_err-bind_steady_fragments.field-0.0 in
    let r = c.in_err-bind_steady_fragments.ensures.refused false in
    handed_on (λ why. OnWideTokens false query (λ ts. IsFragmentsRefusal Steady ts given why))
    c.from_residual.result (SteadyFragments error) c.from_residual.ensures.1 r

pub returns-clause-bound : goal.returns-clause-bound
returns-clause-bound c =
    let o = c.in_ok-bind_steady_fragments.ensures.bound false in
    (o.0, o.1, text_for Steady c.args.query.now _ o.0 (given_fragments c.args.fragments.now) o.1 o.2)
