use Rattle.std.proofs.Common.{◌≡◌, map, take}
use Rattle.mysql_params_core.specs.GivenBorrowed.{by_borrowed}
use Rattle.mysql_query_core.specs.WordErrors.{seen_pair}
use Rattle.mysql_bind_core.proofs.taken.borrowed_pairs.Given as goal

abbrev pub invariant-loop-pair : goal.invariant-loop-pair
invariant-loop-pair l = map by_borrowed l.lent.items ≡ take l.pair-index (map seen_pair l.pairs)
