use Rattle.std.proofs.Common.{◌++◌, ap, ◌∙◌}
use Rattle.std.specs.List.{flat_map}
use Rattle.mysql_fragments.specs.FragmentText.{item_values}
use Rattle.mysql_fragments.proofs.TextLemmas.{flat_step}
use Rattle.mysql_fragments.proofs.written.push_row_values.Goals as goal

pub loop-row-preserved : goal.loop-row-preserved
loop-row-preserved c =
    flat_step (λ row. flat_map item_values row.items) c.args.rows.now c.loop-row.row-index c.row-item.result c.args.values.now.items c.loop-row.values.items _
    c.loop-row-test.true c.row-item.is c.loop-row.invariant (c.in_ok-push_item_values.ensures ∙ ap (λ v. c.loop-row.values.items ++ flat_map item_values v) c.as_slice.ensures.value)
