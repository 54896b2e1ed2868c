use Rattle.mysql_flat_params.specs.FlatFragments.{read_item}
use Rattle.mysql_flat_params.specs.FragmentContent.{item_content}
use Rattle.mysql_flat_params.proofs.FormLemmas.{answer_handed_on}
use Rattle.mysql_flat_params.proofs.ReadEachLemmas.{one_more, next_refused}
use Rattle.mysql_flat_params.proofs.items.eat_items.Goals as goal

pub returns-in_err-eat_item : goal.returns-in_err-eat_item
returns-in_err-eat_item c =
    answer_handed_on _ _ _ c.from_residual-in_err-eat_item.result c.in_err-eat_item.field-0.0 c.from_residual-in_err-eat_item.ensures.1
    (next_refused (read_item c.args.spot.place c.args.spot.position) item_content _ _ _ _ _ c.loop-count-test.true c.loop-count.invariant c.in_err-eat_item.ensures)

pub loop-count-preserved : goal.loop-count-preserved
loop-count-preserved c =
    one_more (read_item c.args.spot.place c.args.spot.position) item_content _ _ _ _ _ _ _ c.loop-count-test.true c.loop-count.invariant c.in_ok-eat_item.ensures
    c.in_ok-push.ensures.items
