use Rattle.mysql_flat_params.specs.FlatFragments.{read_assignment}
use Rattle.mysql_flat_params.specs.FragmentContent.{assignment_content}
use Rattle.mysql_flat_params.proofs.FormLemmas.{answer_handed_on}
use Rattle.mysql_flat_params.proofs.ReadEachLemmas.{one_more, next_refused}
use Rattle.mysql_flat_params.proofs.items.eat_assignments.Goals as goal

pub returns-in_err-eat_assignment : goal.returns-in_err-eat_assignment
returns-in_err-eat_assignment c =
    answer_handed_on _ _ _ c.from_residual-in_err-eat_assignment.result c.in_err-eat_assignment.field-0.0 c.from_residual-in_err-eat_assignment.ensures.1
    (next_refused (read_assignment c.args.spot.place c.args.spot.position) assignment_content _ _ _ _ _ c.loop-count-test.true c.loop-count.invariant c.in_err-eat_assignment.ensures)

pub loop-count-preserved : goal.loop-count-preserved
loop-count-preserved c =
    one_more (read_assignment c.args.spot.place c.args.spot.position) assignment_content _ _ _ _ _ _ _ c.loop-count-test.true c.loop-count.invariant c.in_ok-eat_assignment.ensures
    c.in_ok-push.ensures.items
