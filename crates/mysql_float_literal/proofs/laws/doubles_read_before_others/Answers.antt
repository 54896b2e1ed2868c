use Rattle.std.specs.Float.{binary64}
use Rattle.mysql_float_literal.proofs.ReadBeforeLemmas.{reads_before}
use Rattle.mysql_float_literal.proofs.laws.doubles_read_before_others.Goals as goal

pub returns : goal.returns
returns c = λ text x shape parsed rest ends. reads_before binary64 x shape parsed rest ends
