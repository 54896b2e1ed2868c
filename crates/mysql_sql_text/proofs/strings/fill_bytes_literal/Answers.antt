use Rattle.std.proofs.Common.{ap, sym, ◌∙◌, length, arith}
use Rattle.mysql_sql_text.proofs.StringLemmas.{length-hexadecimal}
use Rattle.mysql_sql_text.proofs.StringLemmas.{bytes_literal-short, bytes_literal-is_utf8, bytes_literal-not_utf8}
use Rattle.mysql_sql_text.proofs.strings.fill_bytes_literal.Goals as goal

pub fill_string-requires : goal.fill_string-requires
fill_string-requires c =
    c.requires ∙ ap length (bytes_literal-short c.args.no_backslash_escape c.args.bytes.now (omega (arith, c.requires)))

pub returns-then-buffer-bytes : goal.returns-then-buffer-bytes
returns-then-buffer-bytes c =
    c.fill_string.ensures ∙ sym (bytes_literal-short c.args.no_backslash_escape c.args.bytes.now (omega (arith, c.requires)))

pub fill_string-requires-then-is_utf8 : goal.fill_string-requires-then-is_utf8
fill_string-requires-then-is_utf8 c =
    c.requires ∙ ap length (bytes_literal-is_utf8 c.args.no_backslash_escape c.args.bytes.now (sym c.is_utf8.ensures ∙ c.if-is_utf8.true))

pub fill_hexadecimal-requires : goal.fill_hexadecimal-requires
fill_hexadecimal-requires c =
    c.requires ∙ ap length (bytes_literal-not_utf8 c.args.no_backslash_escape c.args.bytes.now (sym c.is_utf8.ensures ∙ c.if-is_utf8.false))
    ∙ (omega (arith, length-hexadecimal c.args.bytes.now))

pub returns-then-is_utf8 : goal.returns-then-is_utf8
returns-then-is_utf8 c =
    c.fill_string-then-is_utf8.ensures ∙ sym (bytes_literal-is_utf8 c.args.no_backslash_escape c.args.bytes.now (sym c.is_utf8.ensures ∙ c.if-is_utf8.true))

pub returns-else-is_utf8 : goal.returns-else-is_utf8
returns-else-is_utf8 c =
    c.fill_hexadecimal.ensures
    ∙ sym (bytes_literal-not_utf8 c.args.no_backslash_escape c.args.bytes.now (sym c.is_utf8.ensures ∙ c.if-is_utf8.false))
