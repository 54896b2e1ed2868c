use Rattle.std.proofs.Common.{◌<◌, ◌^◌}
use Rattle.mysql_float_literal.proofs.start.with_digits.Given as goal

abbrev pub invariant-loop-byte : goal.invariant-loop-byte
invariant-loop-byte l = l.digits < 10 ^ 18
