use Rattle.std.proofs.Common.{length, ◌-◌}
use Rattle.mysql_binding.proofs.FoundPlacesLemmas.{KeptSoFar}
use Rattle.mysql_binding.proofs.SurveyLemmas.{SurveyedSoFar}
use Rattle.mysql_binding.proofs.binding.survey.survey_read.Given as goal

abbrev pub invariant-loop-found : goal.invariant-loop-found
invariant-loop-found l =
    SurveyedSoFar l.reading l.query l.at l.names l.marks l.not_alone l.piece_bytes
    × KeptSoFar l.reading l.query l.at l.kept l.first

abbrev pub decreases-loop-found : goal.decreases-loop-found
decreases-loop-found l = length l.query - l.at
