use Rattle.std.specs.Prelude.{Err, false, true}
use Rattle.std.proofs.Common.{ap, ◌∙◌, sym}
use Rattle.mysql_named_params.specs.LoweredNames.{lower_names}
use Rattle.mysql_portable.specs.FirstUnportable.{first_unportable}
use Rattle.mysql_portable.specs.Steady.{first_unsteady}
use Rattle.mysql_portable.proofs.SteadyLemmas.{none_unsteady}
use Rattle.mysql_portable.proofs.UnportableLemmas.{none_is_portable}
use Rattle.mysql_steady_text.specs.declared.purpose.QueryRefusal.TheVariants as refusal
use Rattle.mysql_steady_text.proofs.QueryRefusalLemmas.{none_told}
use Rattle.mysql_steady_text.proofs.WideSteadyLemmas.{wide_nothing}
use Rattle.mysql_fragments.specs.GivenFragments.{given_fragments}
use Rattle.mysql_fragments.proofs.SteadyFragmentLemmas.{refused_fragments_answer}
use Rattle.mysql_fragments.proofs.GuardedFragmentLemmas.{guarded_on_servers}
use Rattle.mysql_fragments.proofs.RefusedQueryLemmas.{never_refused, refused_query, unportable_query, unsteady_query}
use Rattle.mysql_fragments.proofs.guarded_fragments.bind_wide_fragments_guarded.Goals as goal

pub returns-in-Some-clause-bound : goal.returns-in-Some-clause-bound
returns-in-Some-clause-bound c mode = wide_nothing mode c.args.query.now

pub returns-in-Some-clause-refused : goal.returns-in-Some-clause-refused
returns-in-Some-clause-refused c mode =
    let o = c.query_refusal.ensures mode in
    (o.0, o.1, refused_query c.args.query.now (first_unportable (lower_names o.0)) c.in-Some.refusal c.steady_fragments_error.result c.steady_fragments_error.ensures (sym c.in-Some.is ∙ o.2) o.0 (given_fragments c.args.fragments.now))

pub returns-in-Some-clause-unsteady : goal.returns-in-Some-clause-unsteady
returns-in-Some-clause-unsteady c at e =
    let o = c.query_refusal.ensures true in
    ap (λ x. Err x) (unsteady_query c.args.query.now (first_unportable (lower_names o.0)) c.in-Some.refusal c.steady_fragments_error.result c.steady_fragments_error.ensures (sym c.in-Some.is ∙ o.2) at e)

pub returns-in-Some-clause-unportable : goal.returns-in-Some-clause-unportable
returns-in-Some-clause-unportable c mode =
    let o = c.query_refusal.ensures mode in
    (o.0, o.1, λ steady found e. ap (λ x. Err x) (unportable_query c.args.query.now (first_unportable (lower_names o.0)) c.in-Some.refusal c.steady_fragments_error.result c.steady_fragments_error.ensures (sym c.in-Some.is ∙ o.2) ((none_unsteady c.args.query.now).1 steady) found e))

pub returns-in-Some-clause-mixed : goal.returns-in-Some-clause-mixed
returns-in-Some-clause-mixed c mode =
    let o = c.query_refusal.ensures mode in
    (o.0, o.1, λ steady e both. never_refused c.args.query.now (first_unportable (lower_names o.0)) c.in-Some.refusal c.steady_fragments_error.result c.steady_fragments_error.ensures (sym c.in-Some.is ∙ o.2) ((none_unsteady c.args.query.now).1 steady) e)

pub bind_guarded_fragments-requires : goal.bind_guarded_fragments-requires
bind_guarded_fragments-requires c =
    let o = c.query_refusal.ensures true in
    let p = none_told refusal.Unsteady (first_unsteady c.args.query.now) (first_unportable (lower_names o.0)) (sym c.in-None.is ∙ o.2) in
    (none_unsteady c.args.query.now).0 p.0

pub returns-in-None-clause-bound : goal.returns-in-None-clause-bound
returns-in-None-clause-bound c =
    let o = c.query_refusal.ensures false in
    let p = none_told refusal.Unsteady (first_unsteady c.args.query.now) (first_unportable (lower_names o.0)) (sym c.in-None.is ∙ o.2) in
    guarded_on_servers (λ text. text.items) c.bind_guarded_fragments.result c.args.no_backslash_escape c.args.query.now (given_fragments c.args.fragments.now) ((none_unsteady c.args.query.now).0 p.0)
    (o.0, o.1, none_is_portable (lower_names o.0) p.1) c.bind_guarded_fragments.ensures.bound

pub returns-in-None-clause-refused : goal.returns-in-None-clause-refused
returns-in-None-clause-refused c mode =
    let o = c.query_refusal.ensures mode in
    let p = none_told refusal.Unsteady (first_unsteady c.args.query.now) (first_unportable (lower_names o.0)) (sym c.in-None.is ∙ o.2) in
    refused_fragments_answer true c.bind_guarded_fragments.result mode c.args.query.now (given_fragments c.args.fragments.now) (λ ts. first_unportable (lower_names ts)) p.0 (o.0, o.1, p.1) (c.bind_guarded_fragments.ensures.refused mode)

pub returns-in-None-clause-unsteady : goal.returns-in-None-clause-unsteady
returns-in-None-clause-unsteady c at e =
    let o = c.query_refusal.ensures true in
    let p = none_told refusal.Unsteady (first_unsteady c.args.query.now) (first_unportable (lower_names o.0)) (sym c.in-None.is ∙ o.2) in
    let no = sym p.0 ∙ e in cc

pub returns-in-None-clause-unportable : goal.returns-in-None-clause-unportable
returns-in-None-clause-unportable c mode =
    let o = c.query_refusal.ensures mode in
    let p = none_told refusal.Unsteady (first_unsteady c.args.query.now) (first_unportable (lower_names o.0)) (sym c.in-None.is ∙ o.2) in
    (o.0, o.1, λ steady found e. let no = sym p.1 ∙ e in cc)

pub returns-in-None-clause-mixed : goal.returns-in-None-clause-mixed
returns-in-None-clause-mixed c mode =
    let o = c.bind_guarded_fragments.ensures.mixed mode in
    (o.0, o.1, λ steady e. o.2)
