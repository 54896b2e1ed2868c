use Rattle.std.proofs.Common.{length}
use Rattle.mysql_flat_params.proofs.NamesSurveyLemmas.{SurveyedSoFar}
use Rattle.mysql_flat_params.proofs.names_room.names_survey.Given as goal

abbrev pub invariant-loop-found : goal.invariant-loop-found
invariant-loop-found l = SurveyedSoFar l.reading l.query l.rest l.names l.marks l.marked_len l.row_len

abbrev pub decreases-loop-found : goal.decreases-loop-found
decreases-loop-found l = length l.rest
