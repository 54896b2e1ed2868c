use Rattle.mysql_fragments.proofs.FilledLemmas.{if_some, known_of_fields}
use Rattle.mysql_fragments.proofs.measured.with_literal.Goals as goal

pub returns-clause-known : goal.returns-clause-known
returns-clause-known g c =
    if_some c.with_more.result
    (known_of_fields (g.F.LiteralForm.literal c.args.form.now) (g.met.F.LiteralForm.floats c.args.form.now) (g.V.LiteralValue.value c.args.value) c.literal_len.ensures.in_range)
