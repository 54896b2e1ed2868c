use Rattle.std.proofs.Common.{◌≡◌, ◌+◌, ◌-◌, ◌*◌, ◌/◌, ◌%◌, ◌^◌, ◌≤◌, refl, subst, arith, mod-eq_of_lt}
use Rattle.std.proofs.lemmas.Nat.{and_mask}
use lib.Ieee.{binary64}
use Rattle.ryu.specs.Scaled.{power_at}
use Rattle.ryu.proofs.Scaling.{window, shifted_small, scaled_is}
use Rattle.fast_float.specs.Powers.{IsRow}
use Rattle.mysql_float_literal.proofs.quick.scale.Goals as goal

pub returns : goal.returns
returns c =
    let k = c.args.exponent in
    let power = (k * 315653 + 19601670) / 2 ^ 20 in
    let shift = k + ((683 - power) * 217706 + 58980) / 65536 + 2 - 2206 in
    let same : power_at binary64 k 0 ≡ power + 58 = omega arith in
    let range = window binary64 k 0 (omega arith) (omega arith) in
    let index : 741 - (power + 58) ≡ 683 - power = omega arith in
    let few : shift ≤ 7 = omega (arith, range, same) in
    let small = shifted_small c.args.significand shift c.requires.1 few in
    let fits : c.args.significand * 2 ^ shift % 2 ^ 64 ≡ c.args.significand * 2 ^ shift = mod-eq_of_lt (omega (arith, small)) in
    scaled_is binary64 c.args.significand k c.power_of_ten-row.result shift _ c.requires.0 c.requires.1 (omega (arith, range.0, same)) (omega (arith, range.1, same))
    (subst (λ q. IsRow q c.power_of_ten-row.result) (Rattle.std.proofs.Common.sym index) c.power_of_ten-row.ensures) few (omega (arith, range, same, index))
    (rw (fits, and_mask _ 64)) (rw (fits, and_mask _ 64, and_mask c.power_of_ten-row.result 64)) refl
