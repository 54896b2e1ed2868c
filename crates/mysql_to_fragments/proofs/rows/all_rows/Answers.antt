use Rattle.std.proofs.Common.{◌<◌, ◌∙◌, [], length, map, arith, refl}
use Rattle.std.specs.Prelude.{Ok}
use Rattle.mysql_values.specs.ValueOf.{too_long_duration}
use Rattle.mysql_to_fragments.specs.FragmentContent.{items_content}
use Rattle.mysql_to_fragments.specs.Arguments.{with_one}
use Rattle.mysql_to_fragments.proofs.WalkLemmas.{error_is_handed_on, fold-take-next, refusal_of_walk}
use Rattle.mysql_to_fragments.proofs.rows.all_rows.Goals as goal

pub returns-in_err-push_row : goal.returns-in_err-push_row
returns-in_err-push_row g c =
    let below : c.loop-argument.argument-index < length c.args.arguments.now = omega arith in
    error_is_handed_on (λ rows. map (λ row. items_content row.items) rows.items) too_long_duration _ c.from_residual.result
    c.in_err-push_row.field-0.0 c.from_residual.ensures.1
    (refusal_of_walk with_one (λ _ _. refl) (Ok []) g.R.ToRow.said_row c.args.arguments.now c.loop-argument.argument-index
    c.argument-item.result below c.argument-item.is (Ok (map (λ row. items_content row.items) c.loop-argument.rows.items))
    (too_long_duration c.in_err-push_row.field-0.0) c.loop-argument.invariant c.in_err-push_row.ensures)

pub loop-argument-preserved : goal.loop-argument-preserved
loop-argument-preserved g c =
    let below : c.loop-argument.argument-index < length c.args.arguments.now = omega arith in
    fold-take-next with_one (λ _ _. refl) (Ok []) g.R.ToRow.said_row c.args.arguments.now
    c.loop-argument.argument-index c.argument-item.result below c.argument-item.is
    (Ok (map (λ row. items_content row.items) c.loop-argument.rows.items)) c.loop-argument.invariant
    ∙ c.in_ok-push_row.ensures
