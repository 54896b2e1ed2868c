use Rattle.std.proofs.Common.{refl}
use Rattle.mysql_records.proofs.RecordLemmas.{record_same, table_same}
use Rattle.mysql_records.proofs.laws.tables_are_unambiguous.Goals as goal

pub returns-clause-records : goal.returns-clause-records
returns-clause-records c = record_same

pub returns-clause-tables : goal.returns-clause-tables
returns-clause-tables c = λ format rows others text h k. table_same format rows others text text h k refl
