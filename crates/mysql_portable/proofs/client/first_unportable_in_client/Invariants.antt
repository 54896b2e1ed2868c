use Rattle.std.proofs.Common.{length, ◌≤◌}
use Rattle.mysql_portable.proofs.ClientWalkLemmas.{WalkedInClient}
use Rattle.mysql_portable.proofs.client.first_unportable_in_client.Given as goal

abbrev pub invariant-tokens : goal.invariant-tokens
invariant-tokens l = record {
  walked : WalkedInClient l.no_backslash_escape l.query l.rest l.statement l.line;
  within : length l.rest ≤ length l.query;
}

abbrev pub decreases-tokens : goal.decreases-tokens
decreases-tokens l = length l.rest
