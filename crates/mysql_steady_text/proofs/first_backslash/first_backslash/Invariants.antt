use Rattle.std.proofs.Common.{length, ◌≤◌, true}
use Rattle.mysql_steady_text.proofs.BackslashLemmas.{PassedSoFar}
use Rattle.mysql_steady_text.proofs.first_backslash.first_backslash.Given as goal

abbrev pub invariant-loop-rest : goal.invariant-loop-rest
invariant-loop-rest l = record {
  passed : PassedSoFar true l.query l.rest;
  within : length l.rest ≤ length l.query;
}

abbrev pub decreases-loop-rest : goal.decreases-loop-rest
decreases-loop-rest l = length l.rest
