use Rattle.std.proofs.Common.{◌≡◌, ◌+◌, ◌≤◌, drop}
use Rattle.mysql_fragments.specs.FragmentFaults.{digit_count}
use Rattle.mysql_fragments.proofs.faults.digit_count.Given as goal

abbrev pub invariant-loop-b : goal.invariant-loop-b
invariant-loop-b l = (l.count + digit_count (drop l.b-index l.text) ≡ digit_count l.fn.text) × (l.count ≤ l.b-index)
