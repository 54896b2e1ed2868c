use Rattle.std.proofs.Common.{length, ◌-◌, drop}
use Rattle.mysql_named_params.specs.Reading.{OnTokensIn}
use Rattle.mysql_params_core.specs.Referents.{referents}
use Rattle.mysql_binding.specs.FoundPlaces.{BeginWithPlaces}
use Rattle.mysql_binding.proofs.NameListLemmas.{ListedSoFar}
use Rattle.mysql_binding.proofs.binding.names.query_names.Given as goal

abbrev pub invariant-loop-rest : goal.invariant-loop-rest
invariant-loop-rest l =
    ListedSoFar l.surveyed.reading l.surveyed.query.now l.rest l.count (referents l.list.items)
    × OnTokensIn l.surveyed.reading l.rest (BeginWithPlaces (drop (length l.list.items) l.surveyed.known.now))

abbrev pub decreases-loop-rest : goal.decreases-loop-rest
decreases-loop-rest l = l.count - length l.list.items
