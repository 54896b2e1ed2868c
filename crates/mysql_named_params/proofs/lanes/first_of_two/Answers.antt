use Rattle.std.proofs.Common.{◌≤◌, ◌==◌, arith}
use Rattle.std.proofs.lemmas.Simd.{zip2_splat, length-chunk}
use lib.Lanes.{chunk}
use Rattle.mysql_named_params.specs.Lanes.{is_neither}
use Rattle.mysql_named_params.proofs.LaneLemmas.{joined, first_other, agrees, either_lane}
use Rattle.mysql_named_params.proofs.lanes.first_of_two.Goals as goal

pub returns : goal.returns
returns c =
    let v = chunk c.args.at 16 c.args.text.now in
    let long = length-chunk c.args.at 16 c.args.text.now c.requires in
    let few : 16 ≤ 64 = omega arith in
    first_other (is_neither c.args.first c.args.second) c.args.text.now c.args.at 16 _ _ c.requires few c.type_inv.text c.first_set.ensures _
    (joined _ _ _ v (zip2_splat _ v 16 c.args.first long) (zip2_splat _ v 16 c.args.second long))
    (agrees _ _ (λ x. either_lane (x == c.args.first) (x == c.args.second)) 256)
