use Rattle.std.proofs.Common.{◌∙◌, ◌++◌, take, ap, sym, arith}
use Rattle.mysql_sql_text.proofs.BlockLemmas.{escaped-as_long}
use Rattle.mysql_sql_text.proofs.strings.append_before_quote.Goals as goal

pub returns-then-buffer-at-clause-front : goal.returns-then-buffer-at-clause-front
returns-then-buffer-at-clause-front c =
    c.append_bytes.ensures.front
    ∙ ap (λ t. take c.args.at c.args.buffer.now ++ t) (sym (escaped-as_long c.args.no_backslash_escape c.args.bytes.now (omega (arith, c.requires))))
