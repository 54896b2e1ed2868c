use Rattle.std.proofs.Common.{◌≡◌, map, take}
use Rattle.mysql_bind_core.specs.Headers.{value_said}
use Rattle.mysql_bind_core.specs.Tables.{cell_said}
use Rattle.mysql_bind_core.proofs.parts.fixed_cells.Given as goal

-- the cells so far are those of the assignments so far
abbrev pub invariant-loop-assignment : goal.invariant-loop-assignment
invariant-loop-assignment l = map value_said (take l.assignment-index l.assignments) ≡ map cell_said l.cells.items
