use Rattle.std.proofs.Common.{◌≡◌, drop}
use Rattle.mysql_fragments.specs.FragmentFaults.{names_fault_from}
use Rattle.mysql_fragments.proofs.faults.first_name_fault.Given as goal

abbrev pub invariant-loop-name : goal.invariant-loop-name
invariant-loop-name l = names_fault_from l.number (drop l.name-index l.names) ≡ names_fault_from l.part l.names
