use Rattle.mysql_records.proofs.FaultLemmas.{fault_same, table_fault_same}
use Rattle.mysql_records.proofs.laws.faults_are_unambiguous.Goals as goal

pub returns-clause-records : goal.returns-clause-records
returns-clause-records c = fault_same

pub returns-clause-tables : goal.returns-clause-tables
returns-clause-tables c = table_fault_same
