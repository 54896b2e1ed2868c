use Rattle.mysql_binding.proofs.StandsAloneLemmas.{first_position}
use Rattle.mysql_binding.proofs.laws.position_of_first_not_alone.Goals as goal

pub returns : goal.returns
returns c = record { position = first_position }
