use Rattle.mysql_float_literal.proofs.LayoutLemmas.{zero_spelled, zero_of}
use Rattle.mysql_float_literal.proofs.write.zero_layout.Goals as goal

pub returns-clause-spelled : goal.returns-clause-spelled
returns-clause-spelled c = zero_spelled

pub returns-clause-value : goal.returns-clause-value
returns-clause-value c = zero_of
