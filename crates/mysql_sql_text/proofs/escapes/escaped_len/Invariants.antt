use Rattle.std.proofs.Common.{◌≡◌, ◌+◌, ◌-◌, ◌≤◌, drop, length}
use Rattle.mysql_sql_text.specs.LiteralText.{escaped}
use Rattle.mysql_sql_text.proofs.escapes.escaped_len.Given as goal

abbrev pub invariant-loop-at : goal.invariant-loop-at
invariant-loop-at l = record {
  within : l.at ≤ length l.bytes;
  few : l.escapes ≤ l.at;
  exact : l.at + l.escapes + length (escaped l.no_backslash_escape (drop l.at l.bytes))
      ≡ length (escaped l.no_backslash_escape l.bytes);
}

abbrev pub decreases-loop-at : goal.decreases-loop-at
decreases-loop-at l = length l.bytes - l.at
