use Rattle.std.proofs.Common.{◌<◌, ◌^◌}
use Rattle.mysql_float_literal.proofs.start.without_zeros.Given as goal

abbrev pub invariant-loop-digits : goal.invariant-loop-digits
invariant-loop-digits l = (l.power < 651) × (l.digits < 10 ^ 18)

abbrev pub decreases-loop-digits : goal.decreases-loop-digits
decreases-loop-digits l = l.digits
