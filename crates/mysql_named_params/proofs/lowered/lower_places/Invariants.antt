use Rattle.std.proofs.Common.{length, ◌-◌}
use Rattle.mysql_named_params.proofs.LoweredLemmas.{LoweredSoFar}
use Rattle.mysql_named_params.proofs.lowered.lower_places.Given as goal

abbrev pub invariant-loop-found : goal.invariant-loop-found
invariant-loop-found l = LoweredSoFar l.reading l.query l.at l.text

abbrev pub decreases-loop-found : goal.decreases-loop-found
decreases-loop-found l = length l.query - l.at
