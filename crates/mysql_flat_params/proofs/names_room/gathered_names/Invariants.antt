use Rattle.std.proofs.Common.{length}
use Rattle.mysql_flat_params.proofs.NamesRoomLemmas.{GatheredSoFar}
use Rattle.mysql_flat_params.proofs.names_room.gathered_names.Given as goal

abbrev pub invariant-loop-found : goal.invariant-loop-found
invariant-loop-found l = GatheredSoFar l.reading l.query l.rest l.text.items l.row.items

abbrev pub decreases-loop-found : goal.decreases-loop-found
decreases-loop-found l = length l.rest
