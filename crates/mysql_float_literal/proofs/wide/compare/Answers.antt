use Rattle.std.proofs.Common.{◌∙◌, arith}
use Rattle.std.specs.Ordering.{nat_cmp}
use Rattle.core.proofs.dec2flt.LimbsLemmas.{value_below_zeros}
use Rattle.mysql_float_literal.proofs.wide.compare.Goals as goal

pub returns : goal.returns
returns c =
    let a = c.args.a.now in
    let b = c.args.b.now in
    let left = value_below_zeros a.limbs a.len c.max.result a.zeros (omega arith) in
    let right = value_below_zeros b.limbs b.len c.max.result b.zeros (omega arith) in
    c.order_of.ensures ∙ (λ i. nat_cmp (left i) (right i))
