use Rattle.std.proofs.Common.{[], refl}
use Rattle.mysql_bind_core.proofs.TableLemmas.{statements_of, table_of}
use Rattle.mysql_bind_core.proofs.laws.scripts.tables_make_scripts.Goals as goal

pub returns : goal.returns
returns c = record {
  statements = statements_of;
  table = λ query form text records before after all. table_of form.format text records [] all.read refl;
}
