use Rattle.std.specs.Prelude.{false, true, None, Some, Err, IfErr, IfOk}
use Rattle.std.proofs.Common.{ap, refl, sym, inl, inr, ◌∙◌}
use Rattle.mysql_bind_call.specs.AnyGiven.{fragments}
use Rattle.mysql_bind_call.specs.Errors.{with_error}
use Rattle.mysql_fragments.specs.GivenFragments.{given_fragments}
use Rattle.mysql_fragments.specs.FragmentErrors as fragment
use Rattle.mysql_fragments.specs.declared.fragments_error.FragmentsError.TheVariants.{Mixed}
use Rattle.mysql_bind_call.specs.InstanceErrors.{fragments_error}
use Rattle.mysql_bind_call.specs.declared.refusal.BindRefusal.TheVariants.{Fragments}
use Rattle.mysql_bind_call.proofs.FragmentInstanceLemmas.{mode_error}
use Rattle.mysql_bind_call.proofs.InstanceLemmas.{mixed_in_mode, one_mode, plain_bound, plain_refused}
use Rattle.mysql_bind_call.proofs.instances.fragments.bind_fragments_in.Goals as goal

pub returns-clause-bound : goal.returns-clause-bound
returns-clause-bound c =
    rw c.fragments_for_mode.ensures (
    plain_bound (λ text. text.items) (one_mode c.args.no_backslash_escape) c.args.query.now (fragments (given_fragments c.args.fragments.now)) fragments_error c.bind.result c.bind.ensures.bound true)

pub returns-clause-refused : goal.returns-clause-refused
returns-clause-refused c =
    rw c.fragments_for_mode.ensures (
    plain_refused (λ text. text.items) (one_mode c.args.no_backslash_escape) c.args.query.now (fragments (given_fragments c.args.fragments.now)) fragments_error
    (λ ts e. fragment.IsCauseOrMemory (fragment.first_cause true ts (given_fragments c.args.fragments.now)) e) c.bind.result
    (λ ts e h. mode_error c.args.query.now ts (given_fragments c.args.fragments.now) c.args.no_backslash_escape e h) c.bind.ensures.refused true)

pub returns-clause-mixed : goal.returns-clause-mixed
returns-clause-mixed c =
    let o = c.bind.ensures.early tt (fragments (given_fragments c.args.fragments.now)) refl true in
    rw c.fragments_for_mode.ensures (
      o.0,
      o.1,
      λ names. ap (with_error fragments_error) (o.2 (Fragments Mixed) (mixed_in_mode c.args.no_backslash_escape c.args.query.now o.0 (fragments (given_fragments c.args.fragments.now)) names)),
    )
