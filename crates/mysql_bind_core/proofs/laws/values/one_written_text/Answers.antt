use Rattle.mysql_bind_core.proofs.OneWrittenLemmas.{one_assigned_text}
use Rattle.mysql_bind_core.proofs.laws.values.one_written_text.Goals as goal

pub returns : goal.returns
returns c request query a b assignments x y = one_assigned_text request query assignments a b x.assigned y.assigned
