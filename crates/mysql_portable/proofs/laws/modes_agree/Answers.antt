use Rattle.mysql_portable.proofs.OtherModeLemmas as lemmas
use Rattle.mysql_portable.proofs.laws.modes_agree.Goals as goal

pub returns : goal.returns
returns c = record { tokens = lemmas.tokens_other; servers = lemmas.read_other }
