use Rattle.std.proofs.Common.{◌≡◌}
use Rattle.mysql_params_core.specs.Names.{names_of}
use Rattle.mysql_flat_params.specs.FlatForm.{read_name}
use Rattle.mysql_flat_params.specs.FlatFragments.{read_all, read_each}
use Rattle.mysql_flat_params.proofs.fragment_parts.eat_names.Given as goal

abbrev pub invariant-loop-count : goal.invariant-loop-count
invariant-loop-count l =
    read_all l.spot.place l.spot.position (read_name l.spot.place l.spot.position) l.fn.rest.0.now
    ≡ read_each (read_name l.spot.place l.spot.position) l.count (names_of l.names.items) l.rest.0.now

abbrev pub decreases-loop-count : goal.decreases-loop-count
decreases-loop-count l = l.count
