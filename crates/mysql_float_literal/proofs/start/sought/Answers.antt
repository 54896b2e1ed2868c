use Rattle.std.proofs.Common.{arith}
use Rattle.mysql_float_literal.proofs.SizeLemmas.{found_above}
use Rattle.mysql_float_literal.proofs.start.sought.Goals as goal

pub returns : goal.returns
returns c =
    let l = c.loop-low in
    let p = c.power_of_17_digits-power in
    found_above c.args.bits p.result l.low l.high c.requires (omega (arith, p.ensures.fits)) l.invariant.2 l.invariant.4 (omega (arith, l.invariant.3, c.loop-low-test.false)) l.invariant.0 l.invariant.1
