use Rattle.std.proofs.Common.{◌≡◌, map}
use Rattle.mysql_flat_params.specs.FlatFragments.{read_all, read_each, read_items}
use Rattle.mysql_flat_params.specs.FragmentContent.{items_content}
use Rattle.mysql_flat_params.proofs.items.eat_rows.Given as goal

abbrev pub invariant-loop-count : goal.invariant-loop-count
invariant-loop-count l =
    read_all l.spot.place l.spot.position (read_items l.spot.place l.spot.position) l.fn.rest.0.now
    ≡ read_each (read_items l.spot.place l.spot.position) l.count (map (λ row. items_content row.items) l.rows.items) l.rest.0.now

abbrev pub decreases-loop-count : goal.decreases-loop-count
decreases-loop-count l = l.count
