use Rattle.std.proofs.Common.{◌≡◌, drop, map}
use Rattle.mysql_query_core.specs.WordErrors.{seen_pair}
use Rattle.mysql_bind_core.specs.FoundPairs.{are_distinct}
use Rattle.mysql_bind_core.proofs.taken.appended.are_distinct.Given as goal

abbrev pub invariant-loop-i : goal.invariant-loop-i
invariant-loop-i l = are_distinct (map seen_pair (drop l.i l.pairs)) ≡ are_distinct (map seen_pair l.pairs)
