use Rattle.std.proofs.Common.{◌≡◌, ◌*◌, ◌≤◌, take, length}
use Rattle.mysql_sql_text.specs.LiteralText.{escaped}
use Rattle.mysql_sql_text.proofs.escapes.escaped_bytes_len.Given as goal

abbrev pub invariant-loop-byte : goal.invariant-loop-byte
invariant-loop-byte l = record {
  exact : l.len ≡ length (escaped l.no_backslash_escape (take l.byte-index l.bytes));
  few : l.len ≤ 2 * l.byte-index;
}
