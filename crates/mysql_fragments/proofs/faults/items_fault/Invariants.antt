use Rattle.std.proofs.Common.{◌≡◌, drop}
use Rattle.mysql_fragments.specs.FragmentFaults.{items_fault}
use Rattle.mysql_fragments.proofs.faults.items_fault.Given as goal

abbrev pub invariant-loop-index : goal.invariant-loop-index
invariant-loop-index l = items_fault l.row l.index (drop l.index l.items) ≡ items_fault l.row 0 l.items
