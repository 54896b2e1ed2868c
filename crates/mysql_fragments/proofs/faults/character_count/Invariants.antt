use Rattle.std.proofs.Common.{◌≡◌, ◌+◌, ◌≤◌, drop}
use Rattle.mysql_fragments.specs.FragmentFaults.{character_count}
use Rattle.mysql_fragments.proofs.faults.character_count.Given as goal

abbrev pub invariant-loop-b : goal.invariant-loop-b
invariant-loop-b l = (l.count + character_count (drop l.b-index l.name) ≡ character_count l.fn.name) × (l.count ≤ l.b-index)
