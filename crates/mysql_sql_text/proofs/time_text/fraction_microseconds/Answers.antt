use Rattle.std.proofs.Common.{length, arith}
use Rattle.mysql_sql_text.proofs.ValueOfDigitsLemmas.{fraction_microseconds_below}
use Rattle.mysql_sql_text.proofs.time_text.fraction_microseconds.Goals as goal

pub returns-clause-few : goal.returns-clause-few
returns-clause-few c =
    rw (c.from.ensures, c.pow.ensures)
    (fraction_microseconds_below c.in_ok-number.number (length c.args.digits.now) c.in_ok-number.ensures.few (omega arith))
