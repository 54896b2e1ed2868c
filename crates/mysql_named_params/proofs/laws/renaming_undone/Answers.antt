use Rattle.mysql_named_params.proofs.RenameLemmas.{with_names-with_marks}
use Rattle.mysql_named_params.proofs.laws.renaming_undone.Goals as goal

pub returns : goal.returns
returns c = record { undone = with_names-with_marks }
