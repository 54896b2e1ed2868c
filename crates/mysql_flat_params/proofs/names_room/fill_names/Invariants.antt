use Rattle.std.proofs.Common.{length}
use Rattle.mysql_flat_params.proofs.NamesRoomLemmas.{NamedSoFar}
use Rattle.mysql_flat_params.proofs.names_room.fill_names.Given as goal

abbrev pub invariant-loop-found : goal.invariant-loop-found
invariant-loop-found l = NamedSoFar l.reading l.query l.rest l.text l.row l.text_at l.row_at

abbrev pub decreases-loop-found : goal.decreases-loop-found
decreases-loop-found l = length l.rest
