use Rattle.std.proofs.Common.{◌≤◌, refl, arith}
use Rattle.std.proofs.lemmas.Simd.{zip2_splat, length-chunk}
use lib.Lanes.{chunk}
use Rattle.mysql_named_params.proofs.LaneLemmas.{joined, first_other}
use Rattle.mysql_portable.specs.NothingInQuotes.{begins_nothing_in_quotes}
use Rattle.mysql_portable.proofs.nothing_in_quotes.NothingInQuotesBytesByteSet.first_other.Goals as goal

pub returns : goal.returns
returns c =
    let v = chunk c.args.at 16 c.args.text.now in
    let long = length-chunk c.args.at 16 c.args.text.now c.requires in
    let few : 16 ≤ 64 = omega arith in
    first_other begins_nothing_in_quotes c.args.text.now c.args.at 16 _ _ c.requires few c.type_inv.text c.first_set.ensures _
    (joined _ _ _ v (joined _ _ _ v (zip2_splat _ v 16 _ long) (zip2_splat _ v 16 _ long)) (zip2_splat _ v 16 _ long)) refl
