use Rattle.mysql_portable.proofs.SteadyLemmas as lemmas
use Rattle.mysql_portable.proofs.laws.steady_texts.Goals as goal

pub returns : goal.returns
returns c = record { tokens = lemmas.steady_other; servers = lemmas.steady_other_on; seen = lemmas.steady_seen }
