use Rattle.std.proofs.Common.{◌≡◌}
use Rattle.mysql_flat_params.specs.FlatFragments.{read_each, read_item, read_items}
use Rattle.mysql_flat_params.specs.FragmentContent.{items_content}
use Rattle.mysql_flat_params.proofs.items.eat_items.Given as goal

abbrev pub invariant-loop-count : goal.invariant-loop-count
invariant-loop-count l =
    read_items l.spot.place l.spot.position l.fn.rest.0.now
    ≡ read_each (read_item l.spot.place l.spot.position) l.count (items_content l.items.items) l.rest.0.now

abbrev pub decreases-loop-count : goal.decreases-loop-count
decreases-loop-count l = l.count
