use Rattle.mysql_value_core.proofs.BinaryRowLemmas.{same_row}
use Rattle.mysql_value_core.proofs.laws.rows.spare_null_bits_say_nothing.Goals as goal

pub returns : goal.returns
returns c = record { same = same_row }
