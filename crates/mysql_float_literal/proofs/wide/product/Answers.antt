use Rattle.std.proofs.Common.{◌≡◌, ◌+◌, ◌*◌, ◌/◌, ◌%◌, ◌^◌, ap, ◌∙◌, arith, mul_right_comm, set, replicate}
use Rattle.std.proofs.lemmas.Nat.{one_shl}
use Rattle.core.specs.Dec2flt.Limbs.{value_below}
use Rattle.mysql_float_literal.proofs.WideLemmas.{one_limb, zeros_after}
use Rattle.mysql_float_literal.proofs.wide.product.Goals as goal

pub multiply-len-requires-clause-zeros : goal.multiply-len-requires-clause-zeros
multiply-len-requires-clause-zeros c = zeros_after 40 c.args.n (c.args.twos / 64)

pub returns : goal.returns
returns c =
    let a = c.args in
    let one : 1 * 2 ^ (a.twos % 64) % 2 ^ 64 ≡ 2 ^ (a.twos % 64) = one_shl (a.twos % 64) 64 (omega arith) in
    let first = value_below (set (replicate 40 0) (a.twos / 64) a.n) (a.twos / 64 + 1) in
    let limb : first * 2 ^ (a.twos % 64) ≡ a.n * 2 ^ a.twos = one_limb 40 a.n a.twos (omega arith) in
    c.multiply_by_fives-len.ensures.value
    ∙ (ap (λ v. v * 5 ^ a.fives) (c.multiply-len.ensures.value ∙ (ap (λ p. first * p) one ∙ limb)) ∙ mul_right_comm a.n (2 ^ a.twos) (5 ^ a.fives))
