use Rattle.std.proofs.Common.{map, true, false, refl, sym, ap, ◌∙◌, map-id}
use Rattle.mysql_sql_text.specs.EscapedLanes.{last_byte}
use Rattle.mysql_sql_text.proofs.EscapedLanesLemmas.{lanes_agree, replaced}
use Rattle.mysql_sql_text.proofs.escapes.last_bytes.Goals as goal

pub returns-then-no_backslash_escape : goal.returns-then-no_backslash_escape
returns-then-no_backslash_escape c =
    let v = c.args.block in
    sym (map-id v) ∙ lanes_agree (λ x. x) (last_byte true) refl v c.fits-block.1
    ∙ ap (λ mode. map (last_byte mode) v) (sym c.if-no_backslash_escape.true)

pub returns : goal.returns
returns c =
    let v = c.args.block in
    let long = c.fits-block.0 in
    replaced v _ _ 26 90 long (replaced v _ _ 13 114 long (replaced v _ _ 10 110 long (replaced v _ (λ x. x) 0 48 long (sym (map-id v)))))
    ∙ lanes_agree _ (last_byte false) refl v c.fits-block.1
    ∙ ap (λ mode. map (last_byte mode) v) (sym c.if-no_backslash_escape.false)
