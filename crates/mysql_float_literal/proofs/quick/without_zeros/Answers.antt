use Rattle.std.proofs.Common.{◌/◌, arith}
use Rattle.mysql_float_literal.proofs.QuickLemmas.{less_after}
use Rattle.mysql_float_literal.proofs.quick.without_zeros.Goals as goal

pub returns-then-digits-eq0 : goal.returns-then-digits-eq0
returns-then-digits-eq0 c =
    less_after c.args.power c.args.digits 8 (c.args.digits / 100000000) c.without_fours.result.0 c.without_fours.result.1 (omega (arith, c.if-digits-eq0.true)) c.without_fours.ensures
