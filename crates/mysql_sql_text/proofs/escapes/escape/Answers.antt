use Rattle.std.proofs.Common.{refl, ap, ◌∙◌, arith}
use Rattle.std.proofs.lemmas.Bool.{cond-false, ne_eqb}
use Rattle.mysql_sql_text.specs.LiteralText.{escaped_byte}
use Rattle.mysql_sql_text.specs.declared.escapes.TheConstants.{AFTER_BACKSLASH}
use Rattle.mysql_sql_text.proofs.EscapeTableLemmas.{escaped_byte-by_table}
use Rattle.mysql_sql_text.proofs.escapes.escape.Goals as goal

pub returns-else-second-eq46 : goal.returns-else-second-eq46
returns-else-second-eq46 c =
    ap (λ mode. escaped_byte mode c.args.byte) c.if-no_backslash_escape.false
    ∙ escaped_byte-by_table AFTER_BACKSLASH refl c.args.byte (omega arith) ∙ cond-false _ _ _ (ne_eqb _ _ c.if-second-eq46.false)
