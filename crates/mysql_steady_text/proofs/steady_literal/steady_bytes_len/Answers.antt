use Rattle.std.proofs.Common.{ap, sym, ◌∙◌, length, arith}
use Rattle.mysql_steady_text.proofs.FormLemmas.{literal-introduced, literal-bare, introduced_len, bare_len}
use Rattle.mysql_steady_text.proofs.steady_literal.steady_bytes_len.Goals as goal

pub returns-in-Ok : goal.returns-in-Ok
returns-in-Ok c =
    let bytes = c.args.bytes.now in
    let other = sym c.are_spelled_out.ensures ∙ c.if-are_spelled_out.false in
    let whole = ap length (literal-introduced bytes other c.in-Ok.ensures.cases.1) ∙ introduced_len bytes in
    omega (arith, whole)

pub returns-in-Err : goal.returns-in-Err
returns-in-Err c =
    let bytes = c.args.bytes.now in
    let other = sym c.are_spelled_out.ensures ∙ c.if-are_spelled_out.false in
    let whole = ap length (literal-bare bytes other c.in-Err.ensures.cases.0) ∙ bare_len bytes in
    omega (arith, whole)
