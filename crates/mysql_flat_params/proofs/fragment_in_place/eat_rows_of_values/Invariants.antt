use Rattle.std.proofs.Common.{◌≡◌, ◌+◌, ◌*◌, ℕ, length, map}
use Rattle.std.specs.Simd.{first_chunks}
use Rattle.mysql_flat_params.specs.FlatFragments.{read_all, read_each, read_items}
use Rattle.mysql_flat_params.specs.FormInPlace.{cell_content}
use Rattle.mysql_flat_params.proofs.fragment_in_place.eat_rows_of_values.Given as goal

abbrev pub invariant-loop-left : goal.invariant-loop-left
invariant-loop-left l =
    (done : ℕ) × (done + l.left ≡ l.count) × (length l.cells.items ≡ done * l.width)
    × (read_all l.spot.place l.spot.position (read_items l.spot.place l.spot.position) l.fn.rest.0.now
    ≡ read_each (read_items l.spot.place l.spot.position) l.left (map (map cell_content) (first_chunks l.width done l.cells.items)) l.rest.0.now)

abbrev pub decreases-loop-left : goal.decreases-loop-left
decreases-loop-left l = l.left
