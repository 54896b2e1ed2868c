use Rattle.std.proofs.Common.{◌+◌, ◌*◌, ◌^◌}
use Rattle.mysql_float_literal.specs.DigitSteps.{IsReading, HasNoDigitToSpare, IsBetterThanNext}
use Rattle.mysql_float_literal.proofs.closest.lowered.Given as goal

abbrev pub invariant-loop-lower_power : goal.invariant-loop-lower_power
invariant-loop-lower_power l = IsReading l.bits l.power l.digits × HasNoDigitToSpare l.bits l.power l.digits × IsBetterThanNext l.bits l.power l.digits

abbrev pub decreases-loop-lower_power : goal.decreases-loop-lower_power
decreases-loop-lower_power l = l.power * 2 ^ 64 + l.digits
