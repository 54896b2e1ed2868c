use Rattle.std.proofs.Common.{◌/◌, arith}
use Rattle.mysql_float_literal.proofs.QuickLemmas.{less_after}
use Rattle.mysql_float_literal.proofs.quick.without_fours.Goals as goal

pub returns-then-digits-eq0 : goal.returns-then-digits-eq0
returns-then-digits-eq0 c =
    less_after c.args.power c.args.digits 4 (c.args.digits / 10000) c.without_pairs.result.0 c.without_pairs.result.1 (omega (arith, c.if-digits-eq0.true)) c.without_pairs.ensures
