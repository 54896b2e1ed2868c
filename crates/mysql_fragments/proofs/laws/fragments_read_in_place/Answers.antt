use Rattle.mysql_fragments.proofs.InPlaceLemmas.{guarded_as_themselves, read_as_themselves, steady_as_themselves}
use Rattle.mysql_fragments.proofs.laws.fragments_read_in_place.Goals as goal

pub returns : goal.returns
returns c = record { plain = read_as_themselves; steady = steady_as_themselves; guarded = guarded_as_themselves }
