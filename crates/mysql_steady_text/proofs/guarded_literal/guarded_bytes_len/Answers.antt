use Rattle.std.proofs.Common.{ap, sym, ◌≡◌, ◌∙◌, length, true, false, arith}
use Rattle.std.specs.Str.{is_utf8}
use Rattle.mysql_steady_text.proofs.GuardedFormLemmas.{literal-bare, literal-introduced}
use Rattle.mysql_steady_text.proofs.FormLemmas.{bare_len, introduced_len}
use Rattle.mysql_steady_text.proofs.guarded_literal.guarded_bytes_len.Goals as goal

pub returns-then-not-is_utf8 : goal.returns-then-not-is_utf8
returns-then-not-is_utf8 c =
    let h = c.if-not-is_utf8.true in
    let e = c.is_utf8.ensures in
    let other : is_utf8 c.args.bytes.now ≡ false = cc in
    sym (ap length (literal-bare c.args.no_backslash_escape c.args.bytes.now other) ∙ bare_len c.args.bytes.now)

pub returns : goal.returns
returns c =
    let h = c.if-not-is_utf8.false in
    let e = c.is_utf8.ensures in
    let utf8 : is_utf8 c.args.bytes.now ≡ true = cc in
    let whole = ap length (literal-introduced c.args.no_backslash_escape c.args.bytes.now utf8 (sym c.are_held.ensures ∙ c.if-are_held.false)) ∙ introduced_len c.args.bytes.now in
    omega (arith, whole)
