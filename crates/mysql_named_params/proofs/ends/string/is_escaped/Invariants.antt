use Rattle.std.proofs.Common.{◌≡◌, ◌≤◌}
use Rattle.mysql_named_params.specs.ClosingQuote.{is_escaped}
use Rattle.mysql_named_params.proofs.ClosingQuoteLemmas.{turned}
use Rattle.mysql_named_params.proofs.ends.string.is_escaped.Given as goal

abbrev pub invariant-escapes : goal.invariant-escapes
invariant-escapes l =
    (l.first ≤ l.at)
    × (is_escaped l.no_backslash_escape l.text l.at ≡ turned l.escaped (is_escaped l.no_backslash_escape l.text l.first))

abbrev pub decreases-escapes : goal.decreases-escapes
decreases-escapes l = l.first
