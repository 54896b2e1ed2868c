use Rattle.mysql_binding.proofs.FirstNotAloneLemmas.{first_is_first, none_is_none}
use Rattle.mysql_binding.proofs.laws.first_not_alone_is_first.Goals as goal

pub returns-clause-found : goal.returns-clause-found
returns-clause-found c = first_is_first

pub returns-clause-none : goal.returns-clause-none
returns-clause-none c = none_is_none
