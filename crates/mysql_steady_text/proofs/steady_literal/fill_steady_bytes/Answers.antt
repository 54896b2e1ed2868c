use Rattle.std.proofs.Common.{ap, sym, ◌∙◌, length}
use Rattle.mysql_steady_text.proofs.FormLemmas.{literal-introduced, literal-bare, bare_len}
use Rattle.mysql_steady_text.proofs.steady_literal.fill_steady_bytes.Goals as goal

pub fill_introduced_pairs-requires : goal.fill_introduced_pairs-requires
fill_introduced_pairs-requires c =
    let other = sym c.are_spelled_out.ensures ∙ c.if-are_spelled_out.false in
    c.requires ∙ ap length (literal-introduced c.args.bytes.now other c.in-Ok.ensures.cases.1)

pub fill_hexadecimal-requires : goal.fill_hexadecimal-requires
fill_hexadecimal-requires c =
    let other = sym c.are_spelled_out.ensures ∙ c.if-are_spelled_out.false in
    c.requires ∙ (ap length (literal-bare c.args.bytes.now other c.in-Err.ensures.cases.0) ∙ bare_len c.args.bytes.now)
