use Rattle.std.proofs.Common.{◌≡◌, map, take}
use Rattle.mysql_params_core.specs.Made.{seen_pair}
use Rattle.mysql_params_core.specs.Referents.{referents}
use Rattle.mysql_bind_core.proofs.MatchedLemmas.{with_nothing}
use Rattle.mysql_bind_core.proofs.matched.are_distinct_names.Given as goal

-- the pairs so far are the names so far, each with NULL
abbrev pub invariant-loop-name : goal.invariant-loop-name
invariant-loop-name l = map seen_pair l.pairs.items ≡ map with_nothing (take l.name-index (referents l.names))
