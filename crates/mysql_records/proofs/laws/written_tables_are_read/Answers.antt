use Rattle.mysql_records.proofs.WrittenLemmas.{written_table_is, written_table_only}
use Rattle.mysql_records.proofs.laws.written_tables_are_read.Goals as goal

pub returns-clause-table : goal.returns-clause-table
returns-clause-table c = written_table_is

pub returns-clause-only : goal.returns-clause-only
returns-clause-only c = written_table_only
