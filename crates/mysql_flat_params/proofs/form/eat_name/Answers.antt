use Rattle.mysql_flat_params.proofs.LeavesLemmas.{lenenc_within}
use Rattle.mysql_flat_params.proofs.form.eat_name.Goals as goal

pub returns-in-Ok-clause-within : goal.returns-in-Ok-clause-within
returns-in-Ok-clause-within c = lenenc_within _ _ _ c.in-Ok.ensures.read
