use Rattle.std.proofs.Common.{◌-◌}
use Rattle.mysql_float_literal.specs.DigitSteps.{IsReading}
use Rattle.mysql_float_literal.proofs.shortest.shortened.Given as goal

abbrev pub invariant-loop-front : goal.invariant-loop-front
invariant-loop-front l = IsReading l.bits l.power l.digits

abbrev pub decreases-loop-front : goal.decreases-loop-front
decreases-loop-front l = 651 - l.power
