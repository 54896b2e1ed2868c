use Rattle.std.proofs.Common.{ap, sym, ◌∙◌, false, length}
use Rattle.mysql_sql_text.specs.LiteralText.{quoted}
use Rattle.mysql_steady_text.proofs.GuardedFormLemmas.{guarded-plain}
use Rattle.mysql_steady_text.proofs.guarded_literal.fill_guarded_string.Goals as goal

pub fill_string-requires : goal.fill_string-requires
fill_string-requires c =
    c.requires ∙ ap (λ t. length (quoted t)) (guarded-plain false c.args.bytes.now (sym c.lacks_backslash.ensures ∙ c.if-lacks_backslash.true))

pub returns-then-lacks_backslash : goal.returns-then-lacks_backslash
returns-then-lacks_backslash c =
    c.fill_string.ensures ∙ ap quoted (sym (guarded-plain false c.args.bytes.now (sym c.lacks_backslash.ensures ∙ c.if-lacks_backslash.true)))
