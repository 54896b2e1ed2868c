use Rattle.std.proofs.Common.{◌≡◌, drop}
use Rattle.mysql_fragments.specs.FragmentFaults.{escapes_end}
use Rattle.mysql_fragments.proofs.faults.escapes_end.Given as goal

abbrev pub invariant-loop-i : goal.invariant-loop-i
invariant-loop-i l = escapes_end (drop l.i l.name) ≡ escapes_end l.name
