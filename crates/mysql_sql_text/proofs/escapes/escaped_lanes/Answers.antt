use Rattle.std.proofs.Common.{map, true, false, refl, sym, ap, ◌∙◌, arith}
use Rattle.std.proofs.lemmas.Simd.{zip2_splat, zip2_of_maps}
use lib.Lanes.{mask_l}
use Rattle.mysql_sql_text.specs.LiteralText.{needs_escape}
use Rattle.mysql_sql_text.proofs.MaskLemmas.{mask_is}
use Rattle.mysql_sql_text.proofs.escapes.escaped_lanes.Goals as goal

pub returns-then-no_backslash_escape : goal.returns-then-no_backslash_escape
returns-then-no_backslash_escape c =
    let v = c.args.block in
    mask_is _ (needs_escape true) v _ (omega (arith, c.fits-block.0)) c.fits-block.1 (zip2_splat _ v 16 39 c.fits-block.0) refl
    ∙ ap (λ mode. mask_l (map (needs_escape mode) v)) (sym c.if-no_backslash_escape.true)

pub returns : goal.returns
returns c =
    let v = c.args.block in
    let long = c.fits-block.0 in
    mask_is _ (needs_escape false) v _ (omega (arith, long)) c.fits-block.1
    (zip2_of_maps _ _ _ v (zip2_of_maps _ _ _ v (zip2_of_maps _ _ _ v (zip2_of_maps _ _ _ v (zip2_of_maps _ _ _ v (zip2_of_maps _ _ _ v
    (zip2_splat _ v 16 39 long) (zip2_splat _ v 16 92 long)) (zip2_splat _ v 16 34 long)) (zip2_splat _ v 16 0 long))
    (zip2_splat _ v 16 10 long)) (zip2_splat _ v 16 13 long)) (zip2_splat _ v 16 26 long)) refl
    ∙ ap (λ mode. mask_l (map (needs_escape mode) v)) (sym c.if-no_backslash_escape.false)
