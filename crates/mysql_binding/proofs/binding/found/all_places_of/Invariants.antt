use Rattle.std.proofs.Common.{length, ◌-◌, drop}
use Rattle.mysql_named_params.specs.Reading.{OnTokensIn}
use Rattle.mysql_binding.specs.FoundPlaces.{BeginWithPlaces}
use Rattle.mysql_binding.proofs.FoundPlacesLemmas.{CollectedSoFar}
use Rattle.mysql_binding.proofs.binding.found.all_places_of.Given as goal

abbrev pub invariant-loop-rest : goal.invariant-loop-rest
invariant-loop-rest l =
    CollectedSoFar l.surveyed.reading l.surveyed.query.now l.rest l.count l.places.items
    × OnTokensIn l.surveyed.reading l.rest (BeginWithPlaces (drop (length l.places.items) l.surveyed.known.now))

abbrev pub decreases-loop-rest : goal.decreases-loop-rest
decreases-loop-rest l = l.count - length l.places.items
