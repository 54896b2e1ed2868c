use Rattle.mysql_records.proofs.FaultLemmas.{fault_first, table_fault_first}
use Rattle.mysql_records.proofs.laws.faults_are_first.Goals as goal

pub returns-clause-records : goal.returns-clause-records
returns-clause-records c = fault_first

pub returns-clause-tables : goal.returns-clause-tables
returns-clause-tables c = table_fault_first
