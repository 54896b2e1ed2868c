use Rattle.mysql_value_core.proofs.InLineLemmas.{if_in_line}
use Rattle.mysql_steady_text.specs.SteadyLiteral.{steady_literal_of}
use Rattle.mysql_steady_text.proofs.SteadyLiteralLemmas as lemmas
use Rattle.mysql_steady_text.proofs.laws.literals.steady_literals.Goals as goal

pub returns : goal.returns
returns c =
    let v = c.args.value.now in
    let r = c.fields_in_range.ensures.range in
    record { shape = lemmas.steady_shape v r; steady = lemmas.steady_bytes v r; reads_back = lemmas.steady_reads v r; in_line = if_in_line (steady_literal_of v) (lemmas.steady_in_line v); float = lemmas.steady_float v }
