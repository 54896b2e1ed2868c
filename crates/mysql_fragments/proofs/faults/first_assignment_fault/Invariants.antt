use Rattle.std.proofs.Common.{◌≡◌, drop}
use Rattle.mysql_fragments.specs.FragmentFaults.{assignments_fault_from}
use Rattle.mysql_fragments.proofs.faults.first_assignment_fault.Given as goal

abbrev pub invariant-loop-index : goal.invariant-loop-index
invariant-loop-index l = assignments_fault_from l.part l.index (drop l.index l.assignments) ≡ assignments_fault_from 0 0 l.assignments
