use Rattle.mysql_named_params.proofs.LocalityLemmas as lemmas
use Rattle.mysql_named_params.proofs.laws.locality.Goals as goal

pub returns : goal.returns
returns c = record { local = lemmas.locality }
