use Rattle.std.proofs.Common.{◌≡◌, ℕ, ◌++◌, ◌+◌, ◌*◌, ◌<◌, take, drop, length, get_or}
use Rattle.mysql_sql_text.specs.EscapedLanes.{last_byte}
use Rattle.mysql_sql_text.specs.LiteralText.{escaped}
use Rattle.mysql_sql_text.proofs.escapes.append_many_escapes.Given as goal

abbrev pub invariant-loop-quarter : goal.invariant-loop-quarter
invariant-loop-quarter l = record {
  long : length l.lanes ≡ 16;
  last : (i : ℕ) → 4 * l.quarter + i < 16
      → get_or l.lanes i 0 ≡ last_byte l.no_backslash_escape (get_or (drop (4 * l.quarter) l.fn.block) i 0);
  next : l.at ≡ l.start + length (escaped l.no_backslash_escape (take (4 * l.quarter) l.fn.block));
  front : take l.at l.buffer ≡ take l.start l.fn.buffer ++ escaped l.no_backslash_escape (take (4 * l.quarter) l.fn.block);
}
