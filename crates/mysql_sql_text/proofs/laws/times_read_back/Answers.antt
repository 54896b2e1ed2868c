use Rattle.mysql_sql_text.proofs.WrittenTimeLemmas.{times_read_back}
use Rattle.mysql_sql_text.proofs.laws.times_read_back.Goals as goal

pub returns : goal.returns
returns c = record { reads_back = times_read_back }
