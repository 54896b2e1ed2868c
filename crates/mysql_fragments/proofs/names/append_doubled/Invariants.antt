use Rattle.std.proofs.Common.{◌≡◌, ◌+◌, ◌++◌, length, take}
use Rattle.mysql_fragments.specs.FragmentText.{doubled}
use Rattle.mysql_fragments.proofs.names.append_doubled.Given as goal

abbrev pub invariant-loop-b : goal.invariant-loop-b
invariant-loop-b l =
    (l.end ≡ l.at + length (doubled (take l.b-index l.name)))
    × (take l.end l.text ≡ take l.at l.fn.text ++ doubled (take l.b-index l.name))
    × (length l.text ≡ length l.fn.text)
