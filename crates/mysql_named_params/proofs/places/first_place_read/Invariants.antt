use Rattle.std.proofs.Common.{length, ◌-◌}
use Rattle.mysql_named_params.proofs.FirstPlaceLemmas.{HasNoPlaceBefore}
use Rattle.mysql_named_params.proofs.places.first_place_read.Given as goal

abbrev pub invariant-loop-at : goal.invariant-loop-at
invariant-loop-at l = HasNoPlaceBefore l.reading l.text l.at

abbrev pub decreases-loop-at : goal.decreases-loop-at
decreases-loop-at l = length l.text - l.at
