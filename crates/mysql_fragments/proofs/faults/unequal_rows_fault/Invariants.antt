use Rattle.std.proofs.Common.{◌≡◌, drop}
use Rattle.mysql_fragments.specs.FragmentFaults.{rows_fault_from}
use Rattle.mysql_fragments.proofs.faults.unequal_rows_fault.Given as goal

abbrev pub invariant-loop-row : goal.invariant-loop-row
invariant-loop-row l = rows_fault_from l.width l.row (drop l.row l.rows) ≡ rows_fault_from l.width 0 l.rows
