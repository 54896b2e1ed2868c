use Rattle.mysql_float_literal.proofs.LayoutLemmas.{small_spelled, small_of}
use Rattle.mysql_float_literal.proofs.write.small_layout.Goals as goal

pub returns-clause-spelled : goal.returns-clause-spelled
returns-clause-spelled c =
    let a = c.args in
    let d = c.requires.digits in
    small_spelled a.power a.digits a.count d.0 d.1 d.2 c.requires.power.0 c.requires.power.1

pub returns-clause-value : goal.returns-clause-value
returns-clause-value c =
    let a = c.args in
    let d = c.requires.digits in
    small_of a.power a.digits a.count d.0 d.1 d.2 c.requires.power.0 c.requires.power.1
