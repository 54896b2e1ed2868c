use Rattle.std.specs.Fmt.{decimal}
use Rattle.std.proofs.Common.{arith, ap, length}
use Rattle.std.proofs.lemmas.Fmt.{decimal_digit}
use Rattle.mysql_sql_text.proofs.PaddedLemmas.{length-decimal-power}
use Rattle.mysql_sql_text.proofs.numbers.decimal_len.Goals as goal
use Rattle.mysql_sql_text.proofs.numbers.decimal_len.Goals.{then-number-eq0, else-number-eq0}

pub returns-clause-exact : goal.returns-clause-exact
returns-clause-exact c =
    let number = c.if-number-eq0.number in
    elim c.if-number-eq0.branch [
      | then-number-eq0 w ↦
          omega (
            arith,
            length-decimal-power c.ilog10.result number c.ilog10.ensures.power_le c.ilog10.ensures.next_power_gt (omega arith),
            ap length (decimal_digit number (omega arith)),
            ap length (decimal_digit c.args.number (omega arith)),
          )
      | else-number-eq0 w ↦
          omega (
            arith,
            length-decimal-power c.ilog10.result number c.ilog10.ensures.power_le c.ilog10.ensures.next_power_gt (omega arith),
            ap (λ n. length (decimal n)) w.number-is,
          )
    ]
