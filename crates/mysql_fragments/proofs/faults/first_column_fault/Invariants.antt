use Rattle.std.proofs.Common.{◌≡◌, drop}
use Rattle.mysql_fragments.specs.FragmentFaults.{columns_fault_from}
use Rattle.mysql_fragments.proofs.faults.first_column_fault.Given as goal

abbrev pub invariant-loop-names : goal.invariant-loop-names
invariant-loop-names l = columns_fault_from l.part (drop l.names-index l.columns) ≡ columns_fault_from 0 l.columns
