use Rattle.std.proofs.Common.{length, ◌≤◌}
use Rattle.mysql_portable.proofs.WideClientLemmas.{WideInClient}
use Rattle.mysql_portable.proofs.wide.first_of_wide_in_client.Given as goal

abbrev pub invariant-tokens : goal.invariant-tokens
invariant-tokens l = record {
  walked : WideInClient l.no_backslash_escape l.query l.rest l.statement l.line;
  within : length l.rest ≤ length l.query;
}

abbrev pub decreases-tokens : goal.decreases-tokens
decreases-tokens l = length l.rest
