use Rattle.std.proofs.Common.{ap, sym, ◌∙◌, false, length}
use Rattle.mysql_sql_text.specs.LiteralText.{quoted}
use Rattle.mysql_steady_text.proofs.GuardedFormLemmas.{guarded-plain}
use Rattle.mysql_steady_text.proofs.guarded_literal.guarded_string_len.Goals as goal

pub returns-then-lacks_backslash : goal.returns-then-lacks_backslash
returns-then-lacks_backslash c =
    c.string_len.ensures.exact
    ∙ ap (λ t. length (quoted t)) (sym (guarded-plain false c.args.bytes.now (sym c.lacks_backslash.ensures ∙ c.if-lacks_backslash.true)))
