use Rattle.std.proofs.Common.{◌≡◌, ◌++◌, ◌+◌, take, length}
use Rattle.mysql_sql_text.specs.LiteralText.{escaped}
use Rattle.mysql_sql_text.proofs.escapes.append_escaped.Given as goal

abbrev pub invariant-by_lanes : goal.invariant-by_lanes
invariant-by_lanes l = record {
  next : l.at + length (escaped l.no_backslash_escape l.rest)
      ≡ l.start + length (escaped l.no_backslash_escape l.bytes);
  front : take l.at l.buffer ++ escaped l.no_backslash_escape l.rest
      ≡ take l.start l.fn.buffer ++ escaped l.no_backslash_escape l.bytes;
}

abbrev pub decreases-by_lanes : goal.decreases-by_lanes
decreases-by_lanes l = length l.rest
