use Rattle.std.proofs.Common.{◌-◌}
use Rattle.mysql_fragments.proofs.BracketWalkLemmas.{InFront}
use Rattle.mysql_fragments.proofs.brackets.seen_before.Given as goal

abbrev pub invariant-loop-at : goal.invariant-loop-at
invariant-loop-at l = InFront l.reading l.text l.found l.fn.seen l.now l.at

abbrev pub decreases-loop-at : goal.decreases-loop-at
decreases-loop-at l = l.found.before - l.at
