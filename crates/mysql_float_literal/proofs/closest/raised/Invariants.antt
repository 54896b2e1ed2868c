use Rattle.std.proofs.Common.{◌-◌, ◌%◌}
use Rattle.mysql_float_literal.specs.DigitSteps.{IsReading, IsWithinTen}
use Rattle.mysql_float_literal.proofs.closest.raised.Given as goal

abbrev pub invariant-loop-digits : goal.invariant-loop-digits
invariant-loop-digits l = IsReading l.bits l.power l.digits × IsWithinTen l.bits l.power l.digits

abbrev pub decreases-loop-digits : goal.decreases-loop-digits
decreases-loop-digits l = 10 - l.digits % 10
