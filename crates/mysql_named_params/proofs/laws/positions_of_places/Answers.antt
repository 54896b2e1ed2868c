use Rattle.std.proofs.Common.{[]}
use Rattle.mysql_named_params.proofs.PositionLemmas.{length-positions_from, positions_ascend, positions_have_places}
use Rattle.mysql_named_params.proofs.laws.positions_of_places.Goals as goal

pub returns-clause-count : goal.returns-clause-count
returns-clause-count c = length-positions_from 0

pub returns-clause-ascending : goal.returns-clause-ascending
returns-clause-ascending c = positions_ascend 0

pub returns-clause-places : goal.returns-clause-places
returns-clause-places c = positions_have_places []
