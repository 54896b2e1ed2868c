use Rattle.std.proofs.Common.{length, arith, ◌<◌, ◌^◌, sym}
use Rattle.mysql_sql_text.proofs.ValueOfDigitsLemmas.{value_of_digits-below}
use Rattle.mysql_sql_text.proofs.time_text.short_number.Goals as goal

pub overflow_cast-result : goal.overflow_cast-result
overflow_cast-result c =
    let small : c.in_ok-number.number < 10 ^ 6 =
    value_of_digits-below c.args.digits.now c.in_ok-number.number 6 (sym c.in_ok-number.ensures) c.requires in
    omega (arith, small)

pub returns-clause-few : goal.returns-clause-few
returns-clause-few c =
    value_of_digits-below c.args.digits.now c.in_ok-number.number (length c.args.digits.now) (sym c.in_ok-number.ensures) (omega arith)
