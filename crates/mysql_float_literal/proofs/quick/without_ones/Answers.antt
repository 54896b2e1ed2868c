use Rattle.std.proofs.Common.{◌≡◌, ◌*◌, ◌/◌, ◌^◌, arith}
use Rattle.mysql_float_literal.proofs.QuickLemmas.{cut_none, cut_step, cut_ends}
use Rattle.mysql_float_literal.proofs.quick.without_ones.Goals as goal

pub loop-rest-init : goal.loop-rest-init
loop-rest-init c = cut_none c.args.power c.args.digits (omega arith)

pub loop-rest-preserved : goal.loop-rest-preserved
loop-rest-preserved c =
    let l = c.loop-rest in
    let v = l.invariant in
    let cut : l.rest ≡ l.rest / 10 * 10 ^ 1 = omega (arith, c.loop-rest-test.true) in
    cut_step c.args.power c.args.digits l.up l.rest 1 (l.rest / 10) v (omega (arith, v.some, cut)) cut (omega (arith, v.some, cut))

pub returns : goal.returns
returns c = let l = c.loop-rest in cut_ends c.args.power c.args.digits l.up l.rest l.invariant (omega (arith, c.loop-rest-test.false))
