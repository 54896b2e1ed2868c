use Rattle.std.proofs.Common.{◌≡◌, ◌≤◌, ◌+◌, take}
use Rattle.mysql_bind_core.specs.Places.{line_after, column_after}
use Rattle.mysql_bind_core.proofs.positions.line_and_column.Given as goal

abbrev pub invariant-loop-byte : goal.invariant-loop-byte
invariant-loop-byte l = record {
  line : l.line ≡ line_after (take l.byte-index l.before);
  column : l.column ≡ column_after (take l.byte-index l.before);
  line_bound : l.line ≤ 1 + l.byte-index;
  column_bound : l.column ≤ 1 + l.byte-index;
}
