use Rattle.std.proofs.Common.{arith}
use Rattle.mysql_float_literal.proofs.SizeLemmas.{at_least_there, power_stays_below, one_power_up}
use Rattle.mysql_float_literal.proofs.start.power_of_17_digits.Goals as goal

pub loop-power-init : goal.loop-power-init
loop-power-init c = at_least_there c.args.bits c.requires

pub overflow_add-power : goal.overflow_add-power
overflow_add-power c = let below = power_stays_below c.args.bits c.loop-power.power c.requires c.loop-power.invariant in omega (arith, below)

pub overflow_add-power-in-loop-power : goal.overflow_add-power-in-loop-power
overflow_add-power-in-loop-power c = let below = power_stays_below c.args.bits c.loop-power.power c.requires c.loop-power.invariant in omega (arith, below)

pub is_at_most-requires-clause-fits : goal.is_at_most-requires-clause-fits
is_at_most-requires-clause-fits c = let below = power_stays_below c.args.bits c.loop-power.power c.requires c.loop-power.invariant in (omega (arith, below), omega arith)

pub loop-power-smaller : goal.loop-power-smaller
loop-power-smaller c = let below = power_stays_below c.args.bits c.loop-power.power c.requires c.loop-power.invariant in omega (arith, below)

pub returns-clause-fits : goal.returns-clause-fits
returns-clause-fits c = power_stays_below c.args.bits c.loop-power.power c.requires c.loop-power.invariant

pub returns-clause-high : goal.returns-clause-high
returns-clause-high c = one_power_up c.args.bits c.loop-power.power 20000000000000000 (c.is_at_most.ensures.above c.loop-power-test.false)
