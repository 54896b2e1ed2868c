use Rattle.mysql_flat_params.specs.FlatFragments.{read_items}
use Rattle.mysql_flat_params.specs.FragmentContent.{items_content}
use Rattle.mysql_flat_params.proofs.FormLemmas.{answer_handed_on}
use Rattle.mysql_flat_params.proofs.ReadEachLemmas.{one_more, next_refused}
use Rattle.mysql_flat_params.proofs.items.eat_rows.Goals as goal

pub returns-in_err-eat_items : goal.returns-in_err-eat_items
returns-in_err-eat_items c =
    answer_handed_on _ _ _ c.from_residual-in_err-eat_items.result c.in_err-eat_items.field-0.0 c.from_residual-in_err-eat_items.ensures.1
    (next_refused (read_items c.args.spot.place c.args.spot.position) (λ row. items_content row.items) _ _ _ _ _ c.loop-count-test.true c.loop-count.invariant
    c.in_err-eat_items.ensures)

pub loop-count-preserved : goal.loop-count-preserved
loop-count-preserved c =
    one_more (read_items c.args.spot.place c.args.spot.position) (λ row. items_content row.items) _ _ _ _ _ _ _ c.loop-count-test.true c.loop-count.invariant
    c.in_ok-eat_items.ensures c.in_ok-push.ensures.items
