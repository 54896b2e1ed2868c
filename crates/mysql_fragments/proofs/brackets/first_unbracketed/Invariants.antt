use Rattle.std.proofs.Common.{get_or, length, ◌-◌}
use Rattle.mysql_fragments.specs.declared.brackets.Implicit.TheVariants.{No}
use Rattle.mysql_fragments.proofs.BracketWalkLemmas.{WalkedSoFar}
use Rattle.mysql_fragments.proofs.brackets.first_unbracketed.Given as goal

abbrev pub invariant-loop-found : goal.invariant-loop-found
invariant-loop-found l = WalkedSoFar (λ place. get_or l.kinds place No) l.reading l.query l.seen l.place l.at

abbrev pub decreases-loop-found : goal.decreases-loop-found
decreases-loop-found l = length l.query - l.at
