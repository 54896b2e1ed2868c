use Rattle.mysql_float_literal.proofs.ReadsLemmas.{without_zero}
use Rattle.mysql_float_literal.proofs.shortest.shortened.Goals as goal

pub loop-front-preserved : goal.loop-front-preserved
loop-front-preserved c =
    let l = c.loop-front in
    let found = c.in-Some.ensures.some in
    without_zero c.args.bits l.power l.digits c.in-Some.front l.invariant found.0 found.1 found.2
