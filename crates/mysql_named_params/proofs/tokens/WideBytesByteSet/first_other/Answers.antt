use Rattle.std.proofs.Common.{ℕ, ltb, cond, ◌≤◌, refl, arith}
use Rattle.std.proofs.lemmas.Simd.{zip2_splat, zip2_splat_left, length-chunk}
use lib.Lanes.{chunk}
use Rattle.mysql_named_params.specs.WideNames.{is_wide_byte}
use Rattle.mysql_named_params.proofs.LaneLemmas.{joined, first_other}
use Rattle.mysql_named_params.proofs.tokens.WideBytesByteSet.first_other.Goals as goal

pub returns : goal.returns
returns c =
    let v = chunk c.args.at 16 c.args.text.now in
    let long = length-chunk c.args.at 16 c.args.text.now c.requires in
    let few : 16 ≤ 64 = omega arith in
    let above = λ (last : ℕ). zip2_splat_left {X = ℕ} {Z = ℕ} (λ a b. cond (ltb a b) 255 0) last 16 v long in
    let not_lower = joined _ _ _ v (zip2_splat _ v 16 _ long) (above 122) in
    let not_upper = joined _ _ _ v (zip2_splat _ v 16 _ long) (above 90) in
    let not_digit = joined _ _ _ v (zip2_splat _ v 16 _ long) (above 57) in
    first_other is_wide_byte c.args.text.now c.args.at 16 _ _ c.requires few c.type_inv.text c.first_set.ensures _
    (joined _ _ _ v (joined _ _ _ v (joined _ _ _ v not_lower not_upper) not_digit) (zip2_splat _ v 16 _ long)) refl
