use Rattle.std.proofs.Common.{sym, subst, ◌∙◌, arith}
use Rattle.std.specs.Str.{IsAscii}
use Rattle.std.proofs.lemmas.List.{take_all, take_rest}
use Rattle.std.proofs.lemmas.Str.{IsUtf8-from_ascii, is_utf8-from_IsUtf8}
use Rattle.mysql_sql_text.proofs.AsciiLemmas.{rest_decides}
use Rattle.mysql_sql_text.proofs.utf8.is_utf8.Goals as goal

pub returns-then-ascii-bytes : goal.returns-then-ascii-bytes
returns-then-ascii-bytes c =
    let bytes = c.args.bytes.now in
    let ascii = subst IsAscii (take_all _ bytes (omega (arith, c.if-ascii-bytes.true))) c.ascii_front_len-ascii.ensures.ascii in
    sym (is_utf8-from_IsUtf8 bytes (IsUtf8-from_ascii bytes ascii))

pub returns : goal.returns
returns c =
    let front = c.ascii_front_len-ascii.ensures in
    c.is_ok.ensures.value ∙ rest_decides _ _ c.args.bytes.now _ _ (take_rest c.args.bytes.now c.ascii_front_len-ascii.result) front.within front.ascii _ c.from_utf8.ensures.cases
