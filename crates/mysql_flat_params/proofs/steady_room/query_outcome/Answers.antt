use Rattle.std.specs.Prelude.{None, Some}
use Rattle.std.proofs.Common.{◌∙◌, ap}
use Rattle.mysql_flat_params.proofs.SteadyRoomLemmas.{agree_told, outcome_told}
use Rattle.mysql_flat_params.proofs.steady_room.query_outcome.Goals as goal

pub returns-in-Some-clause-told : goal.returns-in-Some-clause-told
returns-in-Some-clause-told c mode =
    let o = outcome_told c.args.call.wide_names c.args.call.steadiness c.args.query.now c.query_refusal.result c.purpose_of.result c.purpose_of.ensures c.query_refusal.ensures (Some c.in-Some.refusal) c.in-Some.is mode in
    (o.0, o.1, ap Some c.refusal_outcome.ensures.value ∙ o.2)

pub returns-in-None-clause-told : goal.returns-in-None-clause-told
returns-in-None-clause-told c =
    outcome_told c.args.call.wide_names c.args.call.steadiness c.args.query.now c.query_refusal.result c.purpose_of.result c.purpose_of.ensures c.query_refusal.ensures None c.in-None.is

pub returns-in-None-clause-agree : goal.returns-in-None-clause-agree
returns-in-None-clause-agree c = λ none. agree_told c.args.call.wide_names c.args.call.steadiness c.args.query.now c.query_refusal.result c.purpose_of.result c.purpose_of.ensures c.query_refusal.ensures c.in-None.is
