use Rattle.std.proofs.Common.{refl}
use Rattle.mysql_values.specs.ValueOf.{too_long_duration}
use Rattle.mysql_to_fragments.specs.Arguments.{with_one}
use Rattle.mysql_to_fragments.proofs.WalkLemmas.{error_is_handed_on, refusal_stays}
use Rattle.mysql_to_fragments.proofs.tuples.Tuple2RefPushItems.push.Goals as goal

pub returns-in_err-push_item : goal.returns-in_err-push_item
returns-in_err-push_item g c =
    error_is_handed_on _ too_long_duration _ c.from_residual.result c.in_err-push_item.field-0.0 c.from_residual.ensures.1
    (refusal_stays with_one (λ _ _. refl) _ (too_long_duration c.in_err-push_item.field-0.0) (g.R.PushItems.pushed c.args.self.now.1)
    c.in_err-push_item.ensures)
