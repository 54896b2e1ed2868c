use Rattle.mysql_binding.proofs.OneTextLemmas.{one_bound_text}
use Rattle.mysql_binding.proofs.laws.one_bound_text.Goals as goal

pub returns : goal.returns
returns c = record { same = one_bound_text }
