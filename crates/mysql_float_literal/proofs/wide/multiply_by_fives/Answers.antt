use Rattle.std.proofs.Common.{◌≡◌, ◌+◌, ◌-◌, ◌*◌, ◌^◌, ◌≤◌, ap, sym, ◌∙◌, arith, pow-add, mul_assoc}
use Rattle.std.proofs.Math.Nat.{pow-le-pow_right}
use Rattle.core.specs.Dec2flt.Limbs.{value_below}
use Rattle.mysql_float_literal.proofs.wide.multiply_by_fives.Goals as goal

pub loop-left-preserved : goal.loop-left-preserved
loop-left-preserved c =
    let l = c.loop-left in
    let m = c.multiply-len in
    let old = value_below l.limbs l.len in
    let sum : 27 + (l.left - 27) ≡ l.left = omega arith in
    let fives : 7450580596923828125 * 5 ^ (l.left - 27) ≡ 5 ^ l.left = sym (pow-add 5 27 (l.left - 27)) ∙ ap (λ n. 5 ^ n) sum in
    (ap (λ v. v * 5 ^ (l.left - 27)) m.ensures.value ∙ (mul_assoc old 7450580596923828125 (5 ^ (l.left - 27)) ∙ (ap (λ n. old * n) fives ∙ l.invariant.0)), m.ensures.zeros, omega arith)

pub pow-requires : goal.pow-requires
pow-requires c =
    let few : c.loop-left.left ≤ 27 = omega arith in
    let small : 5 ^ c.loop-left.left ≤ 5 ^ 27 = pow-le-pow_right (omega arith) few in
    omega (arith, small)
