use Rattle.mysql_steady_text.proofs.SteadyLiteralLemmas as lemmas
use Rattle.mysql_values.specs.BorrowedValue.{owned}
use Rattle.mysql_steady_text.proofs.laws.literals.borrowed_steady_literals.Goals as goal

pub returns : goal.returns
returns c =
    let v = (owned c.args.value) in
    let r = c.borrowed_fields_in_range.ensures.range in
    record { shape = lemmas.steady_shape v r; steady = lemmas.steady_bytes v r; reads_back = lemmas.steady_reads v r; float = lemmas.steady_float v }
