use Rattle.std.proofs.Common.{ℕ, ◌≤◌, length, cond, refl, sym, ◌∙◌, arith}
use Rattle.std.proofs.lemmas.Bool.{eqb-true}
use Rattle.std.proofs.lemmas.Simd.{zip2_splat_left}
use lib.Dec.{leb}
use Rattle.mysql_sql_text.proofs.MaskLemmas.{mask_is}
use Rattle.mysql_sql_text.proofs.AsciiLemmas.{IsAscii-from_mask}
use Rattle.mysql_sql_text.proofs.utf8.are_ascii_lanes.Goals as goal

pub returns : goal.returns
returns c = λ none.
    let v = c.args.block in
    let long = c.fits-block.0 in
    let short : length v ≤ 64 = omega (arith, long) in
    let compared = zip2_splat_left {X = ℕ} (λ a b. cond (leb a b) 255 0) 128 16 v long in
    let mask = mask_is _ (leb 128) v _ short c.fits-block.1 compared refl in
    IsAscii-from_mask v (sym mask ∙ eqb-true _ 0 none)
