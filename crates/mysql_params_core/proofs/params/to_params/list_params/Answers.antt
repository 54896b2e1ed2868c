use Rattle.std.proofs.Common.{◌<◌, ◌∙◌, [], length, arith, refl, map}
use Rattle.std.specs.Prelude.{Ok}
use Rattle.std.proofs.lemmas.List.{length-map}
use Rattle.mysql_params_core.specs.Made.{with_value, by_position}
use Rattle.mysql_params_core.proofs.MakingLemmas.{fold-take-next, refusal_is_handed_on, list_made-nonempty}
use Rattle.mysql_params_core.proofs.params.to_params.list_params.Goals as goal

pub returns-in_err-append_value-clause-made : goal.returns-in_err-append_value-clause-made
returns-in_err-append_value-clause-made g c =
    let below : c.loop-argument.argument-index < length c.args.arguments.now = omega arith in
    let f = g.T.ToValue.value_of in
    let nonempty : 0 < length (map f c.args.arguments.now) = omega (arith, length-map c.args.arguments.now f) in
    rw (list_made-nonempty (map f c.args.arguments.now) nonempty)
    (refusal_is_handed_on with_value (λ _ _. refl) (Ok []) f c.args.arguments.now c.loop-argument.argument-index
    c.argument-item.result below c.argument-item.is by_position (λ _. refl)
    (Ok c.loop-argument.values.items) c.in_err-append_value.field-0.0 c.loop-argument.invariant
    c.in_err-append_value.ensures.made c.from_residual.result c.from_residual.ensures.1)

pub loop-argument-preserved : goal.loop-argument-preserved
loop-argument-preserved g c =
    let below : c.loop-argument.argument-index < length c.args.arguments.now = omega arith in
    fold-take-next with_value (λ _ _. refl) (Ok []) (g.T.ToValue.value_of) c.args.arguments.now
    c.loop-argument.argument-index c.argument-item.result below c.argument-item.is
    (Ok c.loop-argument.values.items) c.loop-argument.invariant
    ∙ c.in_ok-append_value.ensures.made
