use Rattle.std.proofs.Common.{◌∙◌, ℕ, true, false, leb, cond, drop, map, take, w8, refl, sym, ap, arith}
use Rattle.std.specs.Simd.Lanes.{mask_l}
use Rattle.std.proofs.lemmas.Simd.{zip2_splat, zip2_splat_left, length-chunk, chunk-fits}
use lib.Lanes.{chunk}
use Rattle.mysql_sql_text.proofs.MaskLemmas.{mask_is}
use Rattle.mysql_named_params.proofs.LaneLemmas.{joined}
use Rattle.mysql_portable.specs.Clear.{may_be_in_doubt}
use Rattle.mysql_portable.proofs.clear.doubt_mask.Goals as goal

pub returns-then-not-client : goal.returns-then-not-client
returns-then-not-client c =
    let v = chunk c.args.at 16 c.args.text.now in
    let long = length-chunk c.args.at 16 c.args.text.now c.requires in
    let unsteady = joined _ _ _ v (zip2_splat_left {X = ℕ} (λ a b. cond (leb a b) 255 0) 128 16 v long) (zip2_splat _ v 16 _ long) in
    let bracket_or_dollar = joined _ _ _ v (zip2_splat _ v 16 _ long) (zip2_splat _ v 16 _ long) in
    let slash_or_dash = joined _ _ _ v (zip2_splat _ v 16 _ long) (zip2_splat _ v 16 _ long) in
    let places = joined _ _ _ v (zip2_splat _ v 16 _ long) (zip2_splat _ v 16 _ long) in
    mask_is _ (may_be_in_doubt false) v _ (omega (arith, long)) (chunk-fits w8 c.args.at 16 c.args.text.now c.type_inv.text)
    (joined _ _ _ v (joined _ _ _ v (joined _ _ _ v unsteady bracket_or_dollar) (joined _ _ _ v slash_or_dash places)) (zip2_splat _ v 16 _ long)) refl
    ∙ ap (λ f. mask_l (map (may_be_in_doubt f) (take 16 (drop c.args.at c.args.text.now)))) (sym c.if-not-client.true)

pub returns : goal.returns
returns c =
    let v = chunk c.args.at 16 c.args.text.now in
    let long = length-chunk c.args.at 16 c.args.text.now c.requires in
    let unsteady = joined _ _ _ v (zip2_splat_left {X = ℕ} (λ a b. cond (leb a b) 255 0) 128 16 v long) (zip2_splat _ v 16 _ long) in
    let bracket_or_dollar = joined _ _ _ v (zip2_splat _ v 16 _ long) (zip2_splat _ v 16 _ long) in
    let slash_or_dash = joined _ _ _ v (zip2_splat _ v 16 _ long) (zip2_splat _ v 16 _ long) in
    let places = joined _ _ _ v (zip2_splat _ v 16 _ long) (zip2_splat _ v 16 _ long) in
    let others = joined _ _ _ v (joined _ _ _ v (joined _ _ _ v unsteady bracket_or_dollar) (joined _ _ _ v slash_or_dash places)) (zip2_splat _ v 16 _ long) in
    let zero_or_end = joined _ _ _ v (zip2_splat _ v 16 _ long) (zip2_splat _ v 16 _ long) in
    let letters = joined _ _ _ v (zip2_splat _ v 16 _ long) (zip2_splat _ v 16 _ long) in
    mask_is _ (may_be_in_doubt true) v _ (omega (arith, long)) (chunk-fits w8 c.args.at 16 c.args.text.now c.type_inv.text)
    (joined _ _ _ v others (joined _ _ _ v zero_or_end letters)) refl
    ∙ ap (λ f. mask_l (map (may_be_in_doubt f) (take 16 (drop c.args.at c.args.text.now)))) (sym c.if-not-client.false)
