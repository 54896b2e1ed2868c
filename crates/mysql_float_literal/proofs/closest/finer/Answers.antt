use Rattle.std.proofs.Common.{◌≡◌, ◌-◌, ◌<◌, subst, sym, arith}
use Rattle.mysql_float_literal.specs.DoubleDigits.{AreSameDecimal}
use Rattle.mysql_float_literal.specs.DigitSteps.{IsReadAs, with_power}
use Rattle.mysql_float_literal.proofs.ReadsLemmas.{power_above}
use Rattle.mysql_float_literal.proofs.BesideLemmas.{ten_below}
use Rattle.mysql_float_literal.proofs.closest.finer.Goals as goal

pub overflow_sub-result : goal.overflow_sub-result
overflow_sub-result c = power_above c.args.bits c.args.power c.requires.finite (subst (IsReadAs c.args.bits c.args.power) c.if-digits-eq1.true c.requires.read)

pub returns-then-digits-eq1-clause-same : goal.returns-then-digits-eq1-clause-same
returns-then-digits-eq1-clause-same c =
    let some = power_above c.args.bits c.args.power c.requires.finite (subst (IsReadAs c.args.bits c.args.power) c.if-digits-eq1.true c.requires.read) in
    subst (λ n. AreSameDecimal (with_power c.args.power n) (with_power (c.args.power - 1) 10)) (sym c.if-digits-eq1.true) (ten_below c.args.power some)

pub returns-then-digits-eq1-clause-one : goal.returns-then-digits-eq1-clause-one
returns-then-digits-eq1-clause-one c _ =
    let some = power_above c.args.bits c.args.power c.requires.finite (subst (IsReadAs c.args.bits c.args.power) c.if-digits-eq1.true c.requires.read) in
    (omega (arith, some), Rattle.std.proofs.Common.refl)
