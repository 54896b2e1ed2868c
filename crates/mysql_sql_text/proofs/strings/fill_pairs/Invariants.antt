use Rattle.std.proofs.Common.{◌≡◌, ◌*◌, take}
use Rattle.mysql_sql_text.specs.LiteralText.{hexadecimal}
use Rattle.mysql_sql_text.proofs.strings.fill_pairs.Given as goal

abbrev pub invariant-loop-i : goal.invariant-loop-i
invariant-loop-i l = take (2 * l.i) l.buffer ≡ hexadecimal (take l.i l.bytes)
