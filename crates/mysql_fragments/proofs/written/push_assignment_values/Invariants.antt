use Rattle.std.proofs.Common.{◌≡◌, ◌++◌, take}
use Rattle.std.specs.List.{flat_map}
use Rattle.mysql_fragments.specs.FragmentText.{assignment_values}
use Rattle.mysql_fragments.proofs.written.push_assignment_values.Given as goal

abbrev pub invariant-loop-assignment : goal.invariant-loop-assignment
invariant-loop-assignment l = l.values.items ≡ l.fn.values.items ++ flat_map assignment_values (take l.assignment-index l.assignments)
