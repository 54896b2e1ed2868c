use Rattle.std.proofs.Common.{◌≡◌, false, drop}
use Rattle.mysql_fragments.specs.FragmentFaults.{is_number_from}
use Rattle.mysql_fragments.proofs.faults.is_number.Given as goal

abbrev pub invariant-loop-b : goal.invariant-loop-b
invariant-loop-b l = is_number_from l.digit l.point (drop l.b-index l.digits) ≡ is_number_from false false l.fn.digits
