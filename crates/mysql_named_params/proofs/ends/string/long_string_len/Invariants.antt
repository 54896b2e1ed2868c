use Rattle.std.proofs.Common.{◌-◌, ◌≤◌, length}
use Rattle.mysql_named_params.proofs.ClosingQuoteLemmas.{GoesOn}
use Rattle.mysql_named_params.proofs.ends.string.long_string_len.Given as goal

abbrev pub invariant-jumps : goal.invariant-jumps
invariant-jumps l = GoesOn l.no_backslash_escape l.quote l.text l.at

abbrev pub decreases-jumps : goal.decreases-jumps
decreases-jumps l = length l.text - l.at

abbrev pub invariant-by_lanes : goal.invariant-by_lanes
invariant-by_lanes l = (l.initial.at ≤ l.at) × GoesOn l.no_backslash_escape l.quote l.text l.at

abbrev pub decreases-by_lanes : goal.decreases-by_lanes
decreases-by_lanes l = length l.text - l.at
