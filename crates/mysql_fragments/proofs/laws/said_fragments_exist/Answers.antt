use Rattle.mysql_fragments.proofs.SaidExistLemmas.{all_said}
use Rattle.mysql_fragments.proofs.laws.said_fragments_exist.Goals as goal

pub returns : goal.returns
returns c = record { exist = all_said }
