use Rattle.std.proofs.Common.{◌-◌, arith}
use Rattle.mysql_float_literal.proofs.DigitLemmas.{ten_pos}
use Rattle.mysql_float_literal.proofs.LayoutLemmas.{pointed_spelled, pointed_of}
use Rattle.mysql_float_literal.proofs.write.pointed_layout.Goals as goal

pub nonzero_div-result : goal.nonzero_div-result
nonzero_div-result c = omega (arith, c.ten_to-unit.ensures, ten_pos (342 - c.args.power))

pub nonzero_rem-result : goal.nonzero_rem-result
nonzero_rem-result c = omega (arith, c.ten_to-unit.ensures, ten_pos (342 - c.args.power))

pub returns-clause-spelled : goal.returns-clause-spelled
returns-clause-spelled c =
    let a = c.args in
    let d = c.requires.digits in
    let p = c.requires.power in
    pointed_spelled a.power a.digits c.ten_to-unit.result a.count c.ten_to-unit.ensures d.0 d.1 d.2 p.0 p.1 p.2

pub returns-clause-value : goal.returns-clause-value
returns-clause-value c =
    let a = c.args in
    let d = c.requires.digits in
    let p = c.requires.power in
    pointed_of a.power a.digits c.ten_to-unit.result a.count c.ten_to-unit.ensures d.0 d.1 d.2 p.0 p.1 p.2
