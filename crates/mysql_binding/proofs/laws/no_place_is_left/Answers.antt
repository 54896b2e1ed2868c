use Rattle.mysql_binding.proofs.BoundAgainLemmas.{no_place_is_left}
use Rattle.mysql_binding.proofs.laws.no_place_is_left.Goals as goal

pub returns : goal.returns
returns c = record { none = no_place_is_left }
