use Rattle.mysql_value_core.proofs.RowReadBackLemmas.{row_reads_back}
use Rattle.mysql_value_core.proofs.laws.rows.binary_rows_read_back.Goals as goal

pub returns : goal.returns
returns c = record { reads_back = row_reads_back }
