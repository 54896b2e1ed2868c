use Rattle.std.proofs.Common.{length, ◌≤◌}
use Rattle.mysql_portable.proofs.UnportableLemmas.{WalkedSoFar}
use Rattle.mysql_portable.proofs.portable.first_unportable.Given as goal

abbrev pub invariant-tokens : goal.invariant-tokens
invariant-tokens l = record {
  walked : WalkedSoFar l.no_backslash_escape l.query l.rest;
  within : length l.rest ≤ length l.query;
}

abbrev pub decreases-tokens : goal.decreases-tokens
decreases-tokens l = length l.rest
