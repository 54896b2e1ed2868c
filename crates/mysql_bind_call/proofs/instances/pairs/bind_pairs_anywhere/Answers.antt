use Rattle.std.specs.Prelude.{false, true, None, Some, Err, IfErr, IfOk}
use Rattle.std.proofs.Common.{ap, refl, sym, inl, inr, ◌∙◌}
use Rattle.mysql_steady_text.proofs.SteadyAgainLemmas.{again_of}
use Rattle.mysql_bind_call.specs.AnyGiven.{values}
use Rattle.mysql_bind_call.specs.Errors.{with_error}
use Rattle.mysql_bind_call.proofs.ResultLemmas.{ok_to}
use Rattle.mysql_binding.specs.declared.bind_error.BindError.TheVariants as bind
use Rattle.mysql_steady_text.specs.declared.purpose.Portability.TheVariants.{Servers}
use Rattle.mysql_steady_text.specs.declared.purpose.QueryRefusal.TheVariants.{Unportable, Unsteady}
use Rattle.mysql_bind_call.specs.InstanceErrors.{steady_pairs_error}
use Rattle.mysql_bind_call.specs.declared.refusal.BindRefusal.TheVariants.{Query, Values}
use Rattle.mysql_bind_call.proofs.AgainLemmas.{steady_text_positioned}
use Rattle.mysql_bind_call.proofs.InstanceLemmas.{construct_early, low_construct, mixed_early, unsteady_early}
use Rattle.mysql_bind_call.proofs.PairInstanceLemmas.{anywhere_refused, pairs_anywhere_bound}
use Rattle.mysql_bind_call.proofs.instances.pairs.bind_pairs_anywhere.Goals as goal

pub returns-clause-bound : goal.returns-clause-bound
returns-clause-bound c = rw c.pairs_for_any.ensures (pairs_anywhere_bound (λ text. text.items) c.args.query.now c.args.pairs.now steady_pairs_error c.bind.result c.bind.ensures.bound c.bind.ensures.accepted)

pub returns-clause-refused : goal.returns-clause-refused
returns-clause-refused c =
    rw c.pairs_for_any.ensures (anywhere_refused (λ text. text.items) c.args.query.now c.args.pairs.now c.bind.result c.bind.ensures.refused)

pub returns-clause-bound_again : goal.returns-clause-bound_again
returns-clause-bound_again c =
    rw c.pairs_for_any.ensures (
    ok_to _ _ (with_error steady_pairs_error c.bind.result) (λ text o. let t = o.2 true in again_of t.0 o.0 text.items t.2.steady_text)
    (pairs_anywhere_bound (λ text. text.items) c.args.query.now c.args.pairs.now steady_pairs_error c.bind.result c.bind.ensures.bound c.bind.ensures.accepted))

pub returns-clause-by_position : goal.returns-clause-by_position
returns-clause-by_position c =
    rw c.pairs_for_any.ensures (
    ok_to _ _ (with_error steady_pairs_error c.bind.result) (λ text o. (o.0, o.1, λ mode. let t = o.2 mode in (t.0, t.1, steady_text_positioned false mode c.args.query.now o.0 text.items t.0 t.1 t.2.steady_text)))
    (pairs_anywhere_bound (λ text. text.items) c.args.query.now c.args.pairs.now steady_pairs_error c.bind.result c.bind.ensures.bound c.bind.ensures.accepted))

pub returns-clause-unsteady : goal.returns-clause-unsteady
returns-clause-unsteady c few given is at first =
    let o = c.bind.ensures.early few (values given) is true in
    rw c.pairs_for_any.ensures (
    ap (with_error steady_pairs_error) (o.2 (Query (Unsteady at)) (unsteady_early Servers false c.args.query.now o.0 (values given) at first)))

pub returns-clause-unportable : goal.returns-clause-unportable
returns-clause-unportable c few given is mode =
    let o = c.bind.ensures.early few (values given) is mode in
    rw c.pairs_for_any.ensures (
      o.0,
      o.1,
      λ steady found first.
          ap (with_error steady_pairs_error) (o.2 (Query (Unportable found)) (construct_early Servers false c.args.query.now o.0 (values given) steady found (low_construct mode c.args.query.now o.0 o.1 (Some found) first))),
    )

pub returns-clause-mixed : goal.returns-clause-mixed
returns-clause-mixed c few given is mode =
    let o = c.bind.ensures.early few (values given) is mode in
    rw c.pairs_for_any.ensures (
      o.0,
      o.1,
      λ steady none names.
          ap (with_error steady_pairs_error) (o.2 (Values bind.Mixed) (mixed_early Servers false c.args.query.now o.0 (values given) steady (low_construct mode c.args.query.now o.0 o.1 None none) names)),
    )
