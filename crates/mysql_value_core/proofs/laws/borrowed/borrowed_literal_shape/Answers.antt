use Rattle.mysql_value_core.specs.BorrowedValue.{owned}
use Rattle.mysql_value_core.proofs.LiteralLemmas.{literal_shape}
use Rattle.mysql_value_core.proofs.laws.borrowed.borrowed_literal_shape.Goals as goal

pub returns : goal.returns
returns c = record { shape = λ mode. literal_shape mode (owned c.args.value) c.fields_in_range.ensures }
