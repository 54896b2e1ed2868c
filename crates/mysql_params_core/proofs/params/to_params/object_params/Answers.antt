use Rattle.std.proofs.Common.{◌<◌, ◌∙◌, [], length, arith, refl, map}
use Rattle.std.specs.Prelude.{Ok}
use Rattle.std.proofs.lemmas.List.{length-map}
use Rattle.mysql_params_core.specs.Made.{with_value, by_position}
use Rattle.mysql_params_core.proofs.MakingLemmas.{fold-take-next, refusal_is_handed_on, list_made-nonempty}
use Rattle.mysql_params_core.proofs.params.to_params.object_params.Goals as goal

pub returns-in_err-append_object_value-clause-made : goal.returns-in_err-append_object_value-clause-made
returns-in_err-append_object_value-clause-made g c =
    let below : c.loop-object.object-index < length c.args.objects.now = omega arith in
    let f = λ (o : _). (goal.ToValue-dyn g o.now).value_of o.now.1 in
    let nonempty : 0 < length (map f c.args.objects.now) = omega (arith, length-map c.args.objects.now f) in
    rw (list_made-nonempty (map f c.args.objects.now) nonempty)
    (refusal_is_handed_on with_value (λ _ _. refl) (Ok []) f c.args.objects.now c.loop-object.object-index
    c.object-item.result below c.object-item.is by_position (λ _. refl)
    (Ok c.loop-object.values.items) c.in_err-append_object_value.field-0.0 c.loop-object.invariant
    c.in_err-append_object_value.ensures.made c.from_residual.result c.from_residual.ensures.1)

pub loop-object-preserved : goal.loop-object-preserved
loop-object-preserved g c =
    let below : c.loop-object.object-index < length c.args.objects.now = omega arith in
    fold-take-next with_value (λ _ _. refl) (Ok []) (λ o. (goal.ToValue-dyn g o.now).value_of o.now.1) c.args.objects.now
    c.loop-object.object-index c.object-item.result below c.object-item.is
    (Ok c.loop-object.values.items) c.loop-object.invariant
    ∙ c.in_ok-append_object_value.ensures.made
