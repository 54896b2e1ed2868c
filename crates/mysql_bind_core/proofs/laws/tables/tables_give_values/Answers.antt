use Rattle.mysql_bind_core.specs.Tables.{more_records}
use Rattle.mysql_bind_core.proofs.RecordValueLemmas.{rows_of_records, rows_under}
use Rattle.mysql_bind_core.proofs.laws.tables.tables_give_values.Goals as goal

pub returns : goal.returns
returns c = record {
  rows = λ query form text records rest before after all. rows_of_records c.args.alloc query form text records rest before after all;
  header = λ query form bytes text header names fixed records rest before after first named are all.
      let found = rows_of_records c.args.alloc query form text records rest before after all in (
        found.0,
        more_records header records bytes text rest first all.read,
        rows_under query form names fixed records found.0 named are all.lengths found.1,
        found.2,
      );
}
