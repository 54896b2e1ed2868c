use Rattle.std.proofs.Common.{◌-◌, sym, ◌∙◌, arith, Less, Equal, Greater}
use Rattle.std.proofs.lemmas.Bool.{eqb-true, eqb-false}
use Rattle.core.specs.Cmp.{ranked}
use lib.Ieee.{binary64, of_bits}
use Rattle.mysql_float_literal.proofs.BesideLemmas.{low_better, high_better, low_even, high_even}
use Rattle.mysql_float_literal.proofs.closest.is_next_closer.Goals as goal

pub returns-in-Less-clause-this : goal.returns-in-Less-clause-this
returns-in-Less-clause-this c _ =
    let a = c.args in
    let less = ranked _ _ Less (sym c.in-Less.is ∙ c.compare_twice.ensures) in
    low_better (a.power - 342) (342 - a.power) a.digits (of_bits binary64 a.bits) less

pub returns-in-Equal-clause-next : goal.returns-in-Equal-clause-next
returns-in-Equal-clause-next c is_odd =
    let a = c.args in
    let same = ranked _ _ Equal (sym c.in-Equal.is ∙ c.compare_twice.ensures) in
    high_even (a.power - 342) (342 - a.power) a.digits (of_bits binary64 a.bits) same (eqb-true _ _ is_odd)

pub returns-in-Equal-clause-this : goal.returns-in-Equal-clause-this
returns-in-Equal-clause-this c is_even =
    let a = c.args in
    let same = ranked _ _ Equal (sym c.in-Equal.is ∙ c.compare_twice.ensures) in
    let not_one = eqb-false _ _ is_even in
    low_even (a.power - 342) (342 - a.power) a.digits (of_bits binary64 a.bits) same (omega (arith, not_one))

pub returns-in-Greater-clause-next : goal.returns-in-Greater-clause-next
returns-in-Greater-clause-next c _ =
    let a = c.args in
    let more = ranked _ _ Greater (sym c.in-Greater.is ∙ c.compare_twice.ensures) in
    high_better (a.power - 342) (342 - a.power) a.digits (of_bits binary64 a.bits) more
