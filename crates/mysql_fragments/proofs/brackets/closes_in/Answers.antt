use Rattle.mysql_fragments.proofs.BracketWalkLemmas.{closes_in_reading}
use Rattle.mysql_fragments.proofs.brackets.closes_in.Goals as goal

pub returns : goal.returns
returns c = closes_in_reading _ _ _ c.closes.ensures
