use Rattle.std.proofs.Common.{length}
use Rattle.mysql_flat_params.proofs.NamePlaceLemmas.{SearchedSoFar}
use Rattle.mysql_flat_params.proofs.missing_place.name_place_read.Given as goal

abbrev pub invariant-loop-found : goal.invariant-loop-found
invariant-loop-found l = SearchedSoFar l.reading l.query l.rest l.name l.place

abbrev pub decreases-loop-found : goal.decreases-loop-found
decreases-loop-found l = length l.rest
