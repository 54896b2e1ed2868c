use Rattle.std.proofs.Common.{◌≡◌}
use Rattle.mysql_flat_params.specs.FlatFragments.{read_all, read_each, read_names}
use Rattle.mysql_flat_params.specs.FragmentContent.{columns_content}
use Rattle.mysql_flat_params.proofs.fragment_parts.eat_columns.Given as goal

abbrev pub invariant-loop-count : goal.invariant-loop-count
invariant-loop-count l =
    read_all l.spot.place l.spot.position (read_names l.spot.place l.spot.position) l.fn.rest.0.now
    ≡ read_each (read_names l.spot.place l.spot.position) l.count (columns_content l.columns.items) l.rest.0.now

abbrev pub decreases-loop-count : goal.decreases-loop-count
decreases-loop-count l = l.count
