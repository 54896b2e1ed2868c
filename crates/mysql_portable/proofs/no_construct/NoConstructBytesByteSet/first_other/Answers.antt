use Rattle.std.proofs.Common.{◌≤◌, refl, arith}
use Rattle.std.proofs.lemmas.Simd.{zip2_splat, splat_is_map, length-chunk}
use lib.Lanes.{chunk}
use Rattle.mysql_named_params.proofs.LaneLemmas.{joined, first_other}
use Rattle.mysql_portable.specs.NoConstruct.{begins_no_construct}
use Rattle.mysql_portable.proofs.no_construct.NoConstructBytesByteSet.first_other.Goals as goal

pub returns : goal.returns
returns c =
    let v = chunk c.args.at 16 c.args.text.now in
    let long = length-chunk c.args.at 16 c.args.text.now c.requires in
    let few : 16 ≤ 64 = omega arith in
    let pairs = zip2_splat _ v 16 _ long in
    let quotes = joined _ _ _ v (joined _ _ _ v pairs (splat_is_map v 16 _ long)) (zip2_splat _ v 16 _ long) in
    let star_or_slash = joined _ _ _ v (joined _ _ _ v pairs (splat_is_map v 16 _ long)) (joined _ _ _ v pairs (splat_is_map v 16 _ long)) in
    let colon_or_dash = joined _ _ _ v (joined _ _ _ v pairs (splat_is_map v 16 _ long)) (zip2_splat _ v 16 _ long) in
    let brackets = joined _ _ _ v (zip2_splat _ v 16 _ long) (zip2_splat _ v 16 _ long) in
    let mark_or_dollar = joined _ _ _ v (zip2_splat _ v 16 _ long) (zip2_splat _ v 16 _ long) in
    let ends = joined _ _ _ v (zip2_splat _ v 16 _ long) (zip2_splat _ v 16 _ long) in
    let names = joined _ _ _ v (zip2_splat _ v 16 _ long) ends in
    let signs = joined _ _ _ v (joined _ _ _ v quotes star_or_slash) (joined _ _ _ v colon_or_dash brackets) in
    first_other begins_no_construct c.args.text.now c.args.at 16 _ _ c.requires few c.type_inv.text c.first_set.ensures _
    (joined _ _ _ v signs (joined _ _ _ v mark_or_dollar names)) refl
