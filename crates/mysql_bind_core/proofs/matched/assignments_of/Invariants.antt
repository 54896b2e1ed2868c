use Rattle.std.proofs.Common.{◌≡◌, ◌++◌, drop, map}
use Rattle.mysql_params_core.specs.Referents.{referents}
use Rattle.mysql_bind_core.specs.Cells.{assignment_said, cells_said}
use Rattle.mysql_bind_core.proofs.matched.assignments_of.Given as goal

-- what is said so far, and what is left to say
abbrev pub invariant-loop-i : goal.invariant-loop-i
invariant-loop-i l =
    map assignment_said l.assignments.items ++ cells_said (drop l.i (referents l.columns)) (drop l.i l.cells)
    ≡ cells_said (referents l.columns) l.cells
