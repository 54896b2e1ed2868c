use Rattle.std.proofs.Common.{◌-◌, ◌*◌, ◌^◌, ◌<◌, ◌≤◌}
use Rattle.mysql_float_literal.specs.DigitSteps.{IsAtMostDouble, IsAboveDouble}
use Rattle.mysql_float_literal.proofs.start.sought.Given as goal

abbrev pub invariant-loop-low : goal.invariant-loop-low
invariant-loop-low l =
    IsAtMostDouble l.bits l.power l.low × IsAboveDouble l.bits l.power l.high × (2 * 10 ^ 16 ≤ l.low) × (l.low < l.high) × (l.high ≤ 2 * 10 ^ 17)

abbrev pub decreases-loop-low : goal.decreases-loop-low
decreases-loop-low l = l.high - l.low
