use Rattle.std.proofs.Common.{◌≡◌, ◌+◌, ◌++◌, List, [], length, map}
use Rattle.mysql_value_core.specs.declared.value.ValueRef.{ValueRef}
use Rattle.mysql_flat_params.specs.FlatFragments.{read_each, read_item}
use Rattle.mysql_flat_params.specs.FormInPlace.{cell_content}
use Rattle.mysql_flat_params.proofs.fragment_in_place.eat_values.Given as goal

abbrev pub invariant-loop-missing : goal.invariant-loop-missing
invariant-loop-missing l =
    (more : List ValueRef) × (l.cells.items ≡ l.fn.cells.items ++ more) × (length more + l.missing ≡ l.count)
    × (read_each (read_item l.spot.place l.spot.position) l.count [] l.fn.rest.0.now
    ≡ read_each (read_item l.spot.place l.spot.position) l.missing (map cell_content more) l.rest.0.now)

abbrev pub decreases-loop-missing : goal.decreases-loop-missing
decreases-loop-missing l = l.missing
