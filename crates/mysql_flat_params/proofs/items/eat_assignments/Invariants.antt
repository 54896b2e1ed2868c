use Rattle.std.proofs.Common.{◌≡◌}
use Rattle.mysql_flat_params.specs.FlatFragments.{read_all, read_assignment, read_each}
use Rattle.mysql_flat_params.specs.FragmentContent.{assignments_content}
use Rattle.mysql_flat_params.proofs.items.eat_assignments.Given as goal

abbrev pub invariant-loop-count : goal.invariant-loop-count
invariant-loop-count l =
    read_all l.spot.place l.spot.position (read_assignment l.spot.place l.spot.position) l.fn.rest.0.now
    ≡ read_each (read_assignment l.spot.place l.spot.position) l.count (assignments_content l.assignments.items) l.rest.0.now

abbrev pub decreases-loop-count : goal.decreases-loop-count
decreases-loop-count l = l.count
