use Rattle.std.proofs.Common.{◌≡◌, drop, map}
use Rattle.mysql_query_core.specs.WordErrors.{seen_pair}
use Rattle.mysql_bind_core.specs.FoundPairs.{value_in}
use Rattle.mysql_bind_core.proofs.taken.appended.value_in.Given as goal

abbrev pub invariant-loop-pair : goal.invariant-loop-pair
invariant-loop-pair l = value_in (map seen_pair (drop l.pair-index l.pairs)) l.name ≡ value_in (map seen_pair l.pairs) l.name
