use Rattle.std.proofs.Common.{length, ◌-◌}
use Rattle.mysql_fragments.proofs.BracketClosesLemmas.{ClosesFrom}
use Rattle.mysql_fragments.proofs.brackets.closes.Given as goal

abbrev pub invariant-loop-at : goal.invariant-loop-at
invariant-loop-at l = ClosesFrom l.no_backslash_escape l.text l.at

abbrev pub decreases-loop-at : goal.decreases-loop-at
decreases-loop-at l = length l.text - l.at
