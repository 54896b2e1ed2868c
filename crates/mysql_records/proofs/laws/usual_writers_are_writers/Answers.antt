use Rattle.mysql_records.proofs.WriterLemmas.{usual_writer_is, usual_field, client_writer_is, client_field, client_table_is}
use Rattle.mysql_records.proofs.laws.usual_writers_are_writers.Goals as goal

pub returns-clause-writers : goal.returns-clause-writers
returns-clause-writers c = usual_writer_is

pub returns-clause-fields : goal.returns-clause-fields
returns-clause-fields c = usual_field

pub returns-clause-clients : goal.returns-clause-clients
returns-clause-clients c = client_writer_is

pub returns-clause-client_fields : goal.returns-clause-client_fields
returns-clause-client_fields c = client_field

pub returns-clause-client_tables : goal.returns-clause-client_tables
returns-clause-client_tables c = client_table_is
