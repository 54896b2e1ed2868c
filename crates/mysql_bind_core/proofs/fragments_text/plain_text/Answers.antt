use Rattle.mysql_named_params.specs.Reading.{OnWideTokens}
use Rattle.mysql_binding.proofs.AppendedTextLemmas.{handed_on}
use Rattle.mysql_fragments.specs.GivenFragments.{given_fragments}
use Rattle.mysql_bind_core.specs.Refusals.{IsFragmentsRefusal}
use Rattle.mysql_bind_core.specs.declared.failure.Failure.TheVariants.{Fragments}
use Rattle.mysql_bind_core.specs.declared.request.Literals.TheVariants.{Plain}
use Rattle.mysql_bind_core.proofs.FragmentTextLemmas.{text_for}
use Rattle.mysql_bind_core.proofs.fragments_text.plain_text.Goals as goal

pub returns-in_err-bound_fragments-clause-refused : goal.returns-in_err-bound_fragments-clause-refused
returns-in_err-bound_fragments-clause-refused c =
    let query = c.args.query.now in
    let mode = c.args.no_backslash_escape in
    handed_on (λ why. OnWideTokens mode query (λ ts. IsFragmentsRefusal (Plain mode) ts (given_fragments c.args.fragments.now) why))
    c.from_residual.result (Fragments c.in_err-bound_fragments.field-0.0) c.from_residual.ensures.1 c.in_err-bound_fragments.ensures.refused

pub returns-clause-bound : goal.returns-clause-bound
returns-clause-bound c =
    let o = c.in_ok-bound_fragments.ensures.bound in
    (o.0, o.1, text_for (Plain c.args.no_backslash_escape) c.args.query.now _ o.0 (given_fragments c.args.fragments.now) o.1 o.2)
