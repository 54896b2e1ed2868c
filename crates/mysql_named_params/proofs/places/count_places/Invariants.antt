use Rattle.std.proofs.Common.{length}
use Rattle.mysql_named_params.proofs.CountLemmas.{CountedSoFar}
use Rattle.mysql_named_params.proofs.places.count_places.Given as goal

abbrev pub invariant-loop-found : goal.invariant-loop-found
invariant-loop-found l = CountedSoFar l.no_backslash_escape l.query l.rest l.names l.marks

abbrev pub decreases-loop-found : goal.decreases-loop-found
decreases-loop-found l = length l.rest
