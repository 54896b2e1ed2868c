use Rattle.std.proofs.Common.{◌≡◌, ◌++◌, map, take}
use Rattle.mysql_params_core.specs.Referents.{referents}
use Rattle.mysql_bind_core.specs.Headers.{assigned_name}
use Rattle.mysql_bind_core.proofs.parts.push_assigned.Given as goal

-- the names of the assignments so far are added
abbrev pub invariant-loop-assignment : goal.invariant-loop-assignment
invariant-loop-assignment l =
    referents l.names.items ≡ referents l.fn.names.items ++ map assigned_name (take l.assignment-index l.assignments)
