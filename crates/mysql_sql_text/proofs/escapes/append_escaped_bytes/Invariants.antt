use Rattle.std.proofs.Common.{◌≡◌, ◌++◌, ◌+◌, take, length}
use Rattle.mysql_sql_text.specs.LiteralText.{escaped}
use Rattle.mysql_sql_text.proofs.escapes.append_escaped_bytes.Given as goal

abbrev pub invariant-loop-byte : goal.invariant-loop-byte
invariant-loop-byte l = record {
  next : l.at ≡ l.start + length (escaped l.no_backslash_escape (take l.byte-index l.bytes));
  front : take l.at l.buffer ≡ take l.start l.fn.buffer ++ escaped l.no_backslash_escape (take l.byte-index l.bytes);
}
