use Rattle.mysql_named_params.proofs.WideLemmas.{IsTokens-wide_marks}
use Rattle.mysql_named_params.proofs.laws.marked_wide_names.Goals as goal

pub returns : goal.returns
returns c = record { tokens = IsTokens-wide_marks }
