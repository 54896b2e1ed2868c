use Rattle.std.proofs.Common.{take, map}
use Rattle.mysql_params_core.specs.Referents.{referents}
use Rattle.mysql_query_core.specs.WordErrors.{seen_pair}
use Rattle.mysql_bind_core.specs.FoundPairs.{AreValuesIn}
use Rattle.mysql_bind_core.proofs.taken.appended.values_in.Given as goal

abbrev pub invariant-loop-name : goal.invariant-loop-name
invariant-loop-name l = AreValuesIn (map seen_pair l.pairs) (take l.name-index (referents l.names)) (referents l.values.items)
