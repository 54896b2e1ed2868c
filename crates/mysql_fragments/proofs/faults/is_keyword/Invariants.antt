use Rattle.std.proofs.Common.{◌≡◌, drop}
use Rattle.mysql_fragments.specs.FragmentFaults.{is_keyword, is_keyword_from}
use Rattle.mysql_fragments.proofs.faults.is_keyword.Given as goal

abbrev pub invariant-loop-b : goal.invariant-loop-b
invariant-loop-b l = is_keyword_from l.begun (drop l.b-index l.word) ≡ is_keyword l.fn.word
