use Rattle.std.proofs.Common.{arith}
use Rattle.mysql_float_literal.proofs.LayoutLemmas.{whole_small, whole_spelled, whole_of}
use Rattle.mysql_float_literal.proofs.write.whole_layout.Goals as goal

pub overflow_mul-result : goal.overflow_mul-result
overflow_mul-result c =
    let a = c.args in
    let d = c.requires.digits in
    let p = c.requires.power in
    omega (arith, whole_small a.power a.digits c.ten_to.result a.count c.ten_to.ensures d.0 d.1 p.0 p.1)

pub returns-clause-spelled : goal.returns-clause-spelled
returns-clause-spelled c =
    let a = c.args in
    let d = c.requires.digits in
    let p = c.requires.power in
    whole_spelled a.power a.digits c.ten_to.result a.count c.ten_to.ensures d.0 d.1 p.0 p.1

pub returns-clause-value : goal.returns-clause-value
returns-clause-value c =
    let a = c.args in
    let d = c.requires.digits in
    let p = c.requires.power in
    whole_of a.power a.digits c.ten_to.result a.count c.ten_to.ensures d.0 d.1 p.0 p.1
