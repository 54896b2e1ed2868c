use Rattle.std.specs.Prelude.{false, true, None, Some, Err, IfErr, IfOk}
use Rattle.std.proofs.Common.{ap, refl, sym, inl, inr, ◌∙◌}
use Rattle.mysql_bind_call.specs.AnyGiven.{values}
use Rattle.mysql_bind_call.specs.Errors.{with_error}
use Rattle.mysql_bind_call.proofs.ResultLemmas.{ok_to}
use Rattle.mysql_binding.specs.declared.bind_error.BindError.TheVariants.{Mixed}
use Rattle.mysql_bind_call.specs.InstanceErrors.{bind_pairs_error}
use Rattle.mysql_bind_call.specs.declared.refusal.BindRefusal.TheVariants.{Values}
use Rattle.mysql_bind_call.proofs.AgainLemmas.{mode_again, mode_positioned}
use Rattle.mysql_bind_call.proofs.InstanceLemmas.{mixed_in_mode, one_mode}
use Rattle.mysql_bind_call.proofs.PairInstanceLemmas.{mode_refused, pairs_bound}
use Rattle.mysql_bind_call.proofs.instances.pairs.bind_pairs.Goals as goal

pub returns-clause-bound : goal.returns-clause-bound
returns-clause-bound c =
    rw c.pairs_for_mode.ensures (
    ok_to _ _ (with_error bind_pairs_error c.bind.result) (λ text o. (o.0, o.1, o.2 true))
    (pairs_bound (λ text. text.items) (one_mode c.args.no_backslash_escape) c.args.query.now c.args.pairs.now bind_pairs_error c.bind.result c.bind.ensures.bound))

pub returns-clause-refused : goal.returns-clause-refused
returns-clause-refused c =
    rw c.pairs_for_mode.ensures (mode_refused (λ text. text.items) c.args.query.now c.args.pairs.now c.args.no_backslash_escape c.bind.result c.bind.ensures.refused)

pub returns-clause-bound_again : goal.returns-clause-bound_again
returns-clause-bound_again c =
    rw c.pairs_for_mode.ensures (
    ok_to _ _ (with_error bind_pairs_error c.bind.result) (λ text o. mode_again false c.args.no_backslash_escape c.args.query.now o.0 text.items (o.2 true))
    (pairs_bound (λ text. text.items) (one_mode c.args.no_backslash_escape) c.args.query.now c.args.pairs.now bind_pairs_error c.bind.result c.bind.ensures.bound))

pub returns-clause-by_position : goal.returns-clause-by_position
returns-clause-by_position c =
    rw c.pairs_for_mode.ensures (
    ok_to _ _ (with_error bind_pairs_error c.bind.result) (λ text o. (o.0, o.1, mode_positioned false c.args.no_backslash_escape c.args.query.now o.0 text.items (o.2 true)))
    (pairs_bound (λ text. text.items) (one_mode c.args.no_backslash_escape) c.args.query.now c.args.pairs.now bind_pairs_error c.bind.result c.bind.ensures.bound))

pub returns-clause-mixed : goal.returns-clause-mixed
returns-clause-mixed c few given is =
    let o = c.bind.ensures.early few (values given) is true in
    rw c.pairs_for_mode.ensures (
      o.0,
      o.1,
      λ names. ap (with_error bind_pairs_error) (o.2 (Values Mixed) (mixed_in_mode c.args.no_backslash_escape c.args.query.now o.0 (values given) names)),
    )
