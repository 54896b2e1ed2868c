use Rattle.mysql_sql_text.proofs.ReadBytesLemmas.{single_bytes_read_back}
use Rattle.mysql_sql_text.proofs.laws.single_bytes_read_back.Goals as goal

pub returns : goal.returns
returns c = record { reads_back = single_bytes_read_back }
