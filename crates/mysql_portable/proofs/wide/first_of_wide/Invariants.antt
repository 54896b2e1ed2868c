use Rattle.std.proofs.Common.{length, ◌≤◌}
use Rattle.mysql_portable.proofs.WideWalkLemmas.{WideWalked}
use Rattle.mysql_portable.proofs.wide.first_of_wide.Given as goal

abbrev pub invariant-tokens : goal.invariant-tokens
invariant-tokens l = record {
  walked : WideWalked l.no_backslash_escape l.query l.rest;
  within : length l.rest ≤ length l.query;
}

abbrev pub decreases-tokens : goal.decreases-tokens
decreases-tokens l = length l.rest
