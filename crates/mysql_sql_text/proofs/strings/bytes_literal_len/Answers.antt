use Rattle.std.proofs.Common.{sym, ap, ◌∙◌, length, arith}
use Rattle.mysql_sql_text.proofs.StringLemmas.{length-hexadecimal, bytes_literal-is_utf8, bytes_literal-not_utf8}
use Rattle.mysql_sql_text.proofs.strings.bytes_literal_len.Goals as goal

pub returns-then-is_utf8 : goal.returns-then-is_utf8
returns-then-is_utf8 c =
    c.string_len.ensures.exact ∙ sym (ap length (bytes_literal-is_utf8 c.args.no_backslash_escape c.args.bytes.now (sym c.is_utf8.ensures ∙ c.if-is_utf8.true)))

pub returns-else-is_utf8 : goal.returns-else-is_utf8
returns-else-is_utf8 c =
    let bytes = c.args.bytes.now in
    let digits = ap length (bytes_literal-not_utf8 c.args.no_backslash_escape bytes (sym c.is_utf8.ensures ∙ c.if-is_utf8.false)) in
    omega (arith, digits, length-hexadecimal bytes)
