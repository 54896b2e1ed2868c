use Rattle.std.proofs.Common.{ap, ◌≡◌, ◌∙◌, length, false}
use Rattle.std.specs.Str.{is_utf8}
use Rattle.mysql_steady_text.proofs.GuardedFormLemmas.{literal-bare}
use Rattle.mysql_steady_text.proofs.FormLemmas.{bare_len}
use Rattle.mysql_steady_text.proofs.guarded_literal.fill_guarded_bytes.Goals as goal

pub fill_hexadecimal-requires : goal.fill_hexadecimal-requires
fill_hexadecimal-requires c =
    let h = c.if-not-is_utf8.true in
    let e = c.is_utf8.ensures in
    let other : is_utf8 c.args.bytes.now ≡ false = cc in
    c.requires ∙ (ap length (literal-bare c.args.no_backslash_escape c.args.bytes.now other) ∙ bare_len c.args.bytes.now)
