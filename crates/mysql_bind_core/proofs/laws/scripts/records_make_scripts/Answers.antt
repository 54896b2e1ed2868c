use Rattle.mysql_bind_core.proofs.ScriptLemmas.{no_statements, statement_behind}
use Rattle.mysql_bind_core.proofs.laws.scripts.records_make_scripts.Goals as goal

pub returns : goal.returns
returns c = record {
  none = λ request query before. no_statements request query before;
  more = λ query cells rows row before script after text so_far are is after_is.
      statement_behind query.request query.query rows row before script after text so_far (is row.assignments.items are) after_is;
}
