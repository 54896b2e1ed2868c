use Rattle.mysql_fragments.specs.FragmentText.{item_values}
use Rattle.mysql_fragments.proofs.TextLemmas.{flat_step}
use Rattle.mysql_fragments.proofs.written.push_item_values.Goals as goal

pub loop-item-preserved : goal.loop-item-preserved
loop-item-preserved c =
    flat_step item_values c.args.items.now c.loop-item.item-index c.item-item.result c.args.values.now.items c.loop-item.values.items _
    c.loop-item-test.true c.item-item.is c.loop-item.invariant c.in_ok-push_item_value.ensures
