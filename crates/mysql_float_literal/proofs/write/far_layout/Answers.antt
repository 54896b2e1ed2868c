use Rattle.std.proofs.Common.{◌-◌, arith}
use Rattle.mysql_float_literal.proofs.DigitLemmas.{ten_pos}
use Rattle.mysql_float_literal.proofs.LayoutLemmas.{far_spelled, far_of}
use Rattle.mysql_float_literal.proofs.write.far_layout.Goals as goal

pub nonzero_div-result : goal.nonzero_div-result
nonzero_div-result c = omega (arith, c.ten_to-unit.ensures, ten_pos (c.args.count - 1))

pub nonzero_rem-result : goal.nonzero_rem-result
nonzero_rem-result c = omega (arith, c.ten_to-unit.ensures, ten_pos (c.args.count - 1))

pub returns-clause-spelled : goal.returns-clause-spelled
returns-clause-spelled c =
    let a = c.args in
    let d = c.requires.digits in
    let n = c.digit_count in
    far_spelled a.power a.digits c.ten_to-unit.result a.count a.negative a.exponent n.result c.ten_to-unit.ensures d.0 d.1 d.2 c.requires.exponent.0 n.ensures.tight (n.ensures.small c.requires.exponent.1)

pub returns-clause-value : goal.returns-clause-value
returns-clause-value c =
    let a = c.args in
    let d = c.requires.digits in
    let n = c.digit_count in
    far_of a.power a.digits c.ten_to-unit.result a.count a.negative a.exponent n.result c.ten_to-unit.ensures d.0 d.1 d.2 c.requires.exponent.0 n.ensures.tight (n.ensures.small c.requires.exponent.1)
