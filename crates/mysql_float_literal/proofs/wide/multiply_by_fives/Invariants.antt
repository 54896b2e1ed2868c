use Rattle.std.proofs.Common.{◌≡◌, ◌+◌, ◌*◌, ◌^◌, ◌≤◌}
use Rattle.core.specs.Dec2flt.Limbs.{value_below, AreZeroFrom}
use Rattle.mysql_float_literal.proofs.wide.multiply_by_fives.Given as goal

abbrev pub invariant-loop-left : goal.invariant-loop-left
invariant-loop-left l =
    (value_below l.limbs l.len * 5 ^ l.left ≡ value_below l.fn.limbs l.fn.len * 5 ^ l.fives) × AreZeroFrom l.limbs l.len × (27 * l.len + l.left ≤ 27 * l.fn.len + l.fives)

abbrev pub decreases-loop-left : goal.decreases-loop-left
decreases-loop-left l = l.left
