use Rattle.mysql_binding.proofs.BoundAgainLemmas.{bound_again_is_the_same}
use Rattle.mysql_binding.proofs.laws.bound_again_is_the_same.Goals as goal

pub returns : goal.returns
returns c = record { same = bound_again_is_the_same }
