use Rattle.std.proofs.Common.{◌==◌, ◌≤◌, arith}
use Rattle.std.proofs.lemmas.Simd.{bitmask_splat, length-chunk}
use lib.Lanes.{chunk}
use mir.Syntax.{w8}
use Rattle.mysql_named_params.proofs.ends.string.quotes_of_block.Goals as goal

pub returns : goal.returns
returns c =
    let v = chunk c.args.at 16 c.args.text.now in
    let few : 16 ≤ 64 = omega arith in
    bitmask_splat w8 (λ a b. a == b) v 16 c.args.quote (length-chunk c.args.at 16 c.args.text.now c.requires) few
