use Rattle.std.proofs.Common.{arith}
use Rattle.std.proofs.lemmas.Fmt.{length-decimal-le}
use Rattle.mysql_float_literal.proofs.LayoutLemmas.{decimal_tight}
use Rattle.mysql_float_literal.proofs.write.digit_count.Goals as goal

pub returns-clause-tight : goal.returns-clause-tight
returns-clause-tight c = rw c.decimal_len.ensures.exact (decimal_tight c.args.n (omega (arith, c.requires)))

pub returns-clause-few : goal.returns-clause-few
returns-clause-few c = omega (arith, c.decimal_len.ensures.exact, length-decimal-le 18 c.args.n (omega arith) c.requires (omega (arith, c.requires)))

pub returns-clause-small : goal.returns-clause-small
returns-clause-small c small = omega (arith, c.decimal_len.ensures.exact, length-decimal-le 3 c.args.n (omega arith) (omega (arith, small)) (omega (arith, c.requires)))
