use Rattle.mysql_flat_params.proofs.OutcomeLemmas as lemmas
use Rattle.mysql_flat_params.proofs.laws.one_outcome.Goals as goal

pub returns : goal.returns
returns c = record { unique = lemmas.one_outcome }
