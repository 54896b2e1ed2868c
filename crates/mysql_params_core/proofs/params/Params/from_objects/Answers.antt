use Rattle.std.proofs.Common.{◌<◌, ◌∙◌, length, arith, refl}
use Rattle.std.specs.Prelude.{Ok}
use Rattle.std.specs.FinMap.{empty}
use Rattle.mysql_params_core.specs.Given.{value_map}
use Rattle.mysql_params_core.specs.Made.{with_pair, by_name}
use Rattle.mysql_params_core.proofs.MakingLemmas.{fold-take-next, refusal_is_handed_on}
use Rattle.mysql_params_core.proofs.params.Params.from_objects.Goals as goal

pub returns-in_err-insert_object_pair-clause-made : goal.returns-in_err-insert_object_pair-clause-made
returns-in_err-insert_object_pair-clause-made g c =
    let below : c.loop-pair.pair-index < length c.args.pairs.now = omega arith in
    refusal_is_handed_on with_pair (λ _ _. refl) (Ok empty) (λ p. (p.0.now, (goal.ToValue-dyn g p.1.now).value_of p.1.now.1))
    c.args.pairs.now c.loop-pair.pair-index c.pair-item.result below c.pair-item.is by_name (λ _. refl)
    (Ok (value_map c.loop-pair.entries.entries)) c.in_err-insert_object_pair.field-0.0 c.loop-pair.invariant
    c.in_err-insert_object_pair.ensures.made c.from_residual.result c.from_residual.ensures.1

pub loop-pair-preserved : goal.loop-pair-preserved
loop-pair-preserved g c =
    let below : c.loop-pair.pair-index < length c.args.pairs.now = omega arith in
    fold-take-next with_pair (λ _ _. refl) (Ok empty) (λ p. (p.0.now, (goal.ToValue-dyn g p.1.now).value_of p.1.now.1))
    c.args.pairs.now c.loop-pair.pair-index c.pair-item.result below c.pair-item.is
    (Ok (value_map c.loop-pair.entries.entries)) c.loop-pair.invariant
    ∙ c.in_ok-insert_object_pair.ensures.made
