use Rattle.std.proofs.Common.{true≢false, ◌∙◌, sym}
use Rattle.std.proofs.lemmas.Bool.{eq-eqb}
use Rattle.mysql_float_literal.proofs.ReadsLemmas.{other_bits}
use Rattle.mysql_float_literal.proofs.shortest.reads.Goals as goal

pub returns-clause-other : goal.returns-clause-other
returns-clause-other c not_read read =
    let a = c.args in
    true≢false (sym (eq-eqb _ _ (other_bits a.bits a.power a.digits c.nearest_bits.result c.requires.finite c.nearest_bits.ensures read)) ∙ not_read)
