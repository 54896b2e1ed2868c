use Rattle.std.proofs.Common.{◌≡◌, Some, map, take}
use Rattle.mysql_bind_core.specs.Cells.{cell_value, value_said}
use Rattle.mysql_bind_core.proofs.cell.cell_values.Given as goal

-- the values so far are those of the cells so far
abbrev pub invariant-loop-cell : goal.invariant-loop-cell
invariant-loop-cell l = map cell_value (take l.cell-index l.cells) ≡ map (λ value. Some (value_said value)) l.values.items
