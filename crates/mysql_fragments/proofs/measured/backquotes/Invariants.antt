use Rattle.std.proofs.Common.{◌≡◌, ◌+◌, ◌≤◌, length, take}
use Rattle.mysql_fragments.specs.FragmentText.{doubled}
use Rattle.mysql_fragments.proofs.measured.backquotes.Given as goal

abbrev pub invariant-loop-b : goal.invariant-loop-b
invariant-loop-b l = (length (doubled (take l.b-index l.name)) ≡ l.b-index + l.count) × (l.count ≤ l.b-index)
