use Rattle.mysql_named_params.proofs.WideLemmas.{no_capitals, nameless_same}
use Rattle.mysql_named_params.proofs.laws.names_without_capitals.Goals as goal

pub returns : goal.returns
returns c = record { same = no_capitals; nameless = nameless_same }
