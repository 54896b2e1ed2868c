use Rattle.std.proofs.Common.{◌≡◌, ◌++◌, ◌+◌, ◌-◌, ◌≤◌, take, drop, length}
use Rattle.mysql_sql_text.specs.LiteralText.{escaped, needs_escape}
use Rattle.mysql_sql_text.proofs.MaskLemmas.{IsMask}
use Rattle.mysql_sql_text.proofs.escapes.append_few_escapes.Given as goal

abbrev pub invariant-escapes : goal.invariant-escapes
invariant-escapes l = record {
  within : l.from ≤ 16;
  mask : IsMask (needs_escape l.no_backslash_escape) l.bytes l.from 16 l.escapes;
  next : l.at + length (escaped l.no_backslash_escape (drop l.from l.bytes))
      ≡ l.start + length (escaped l.no_backslash_escape l.bytes);
  front : take l.at l.buffer ++ escaped l.no_backslash_escape (drop l.from l.bytes)
      ≡ take l.start l.fn.buffer ++ escaped l.no_backslash_escape l.bytes;
}

abbrev pub decreases-escapes : goal.decreases-escapes
decreases-escapes l = 16 - l.from
