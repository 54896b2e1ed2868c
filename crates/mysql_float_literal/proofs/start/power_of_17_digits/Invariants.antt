use Rattle.std.proofs.Common.{◌-◌, ◌*◌, ◌^◌}
use Rattle.mysql_float_literal.specs.DigitSteps.{IsAtMostDouble}
use Rattle.mysql_float_literal.proofs.start.power_of_17_digits.Given as goal

abbrev pub invariant-loop-power : goal.invariant-loop-power
invariant-loop-power l = IsAtMostDouble l.bits l.power (2 * 10 ^ 16)

abbrev pub decreases-loop-power : goal.decreases-loop-power
decreases-loop-power l = 650 - l.power
