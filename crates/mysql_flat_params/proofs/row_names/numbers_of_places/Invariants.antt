use Rattle.std.proofs.Common.{length, ◌-◌, drop}
use Rattle.mysql_named_params.specs.Reading.{OnTokensIn}
use Rattle.mysql_binding.specs.FoundPlaces.{BeginWithPlaces}
use Rattle.mysql_flat_params.specs.RowNames.{names_of_pairs}
use Rattle.mysql_flat_params.proofs.RowNamesLemmas.{NumberedSoFar}
use Rattle.mysql_flat_params.proofs.row_names.numbers_of_places.Given as goal

abbrev pub invariant-loop-rest : goal.invariant-loop-rest
invariant-loop-rest l =
    NumberedSoFar l.surveyed.reading l.surveyed.query.now l.rest l.count (names_of_pairs l.pairs) l.places.items
    × OnTokensIn l.surveyed.reading l.rest (BeginWithPlaces (drop (length l.places.items) l.surveyed.known.now))

abbrev pub decreases-loop-rest : goal.decreases-loop-rest
decreases-loop-rest l = l.count - length l.places.items
