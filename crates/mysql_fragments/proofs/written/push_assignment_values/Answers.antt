use Rattle.mysql_fragments.specs.FragmentText.{assignment_values}
use Rattle.mysql_fragments.proofs.TextLemmas.{flat_step}
use Rattle.mysql_fragments.proofs.written.push_assignment_values.Goals as goal

pub loop-assignment-preserved : goal.loop-assignment-preserved
loop-assignment-preserved c =
    flat_step assignment_values c.args.assignments.now c.loop-assignment.assignment-index c.assignment-item.result c.args.values.now.items c.loop-assignment.values.items _
    c.loop-assignment-test.true c.assignment-item.is c.loop-assignment.invariant c.in_ok-push_item_value.ensures
