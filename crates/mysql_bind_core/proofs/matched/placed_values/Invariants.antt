use Rattle.std.proofs.Common.{◌≡◌, Some, map, take}
use Rattle.std.specs.List.{slice_get}
use Rattle.mysql_values.specs.BorrowedValue.{owned}
use Rattle.mysql_bind_core.specs.Cells.{value_said}
use Rattle.mysql_bind_core.proofs.matched.placed_values.Given as goal

-- the values so far are those at the numbers so far
abbrev pub invariant-loop-number : goal.invariant-loop-number
invariant-loop-number l =
    map (slice_get (map value_said l.values)) (take l.number-index l.numbers) ≡ map (λ value. Some (owned value)) l.placed.items
