use Rattle.mysql_portable.proofs.SharpLemmas as lemmas
use Rattle.mysql_portable.proofs.laws.portable_is_sharp.Goals as goal

pub returns : goal.returns
returns c = record { sharp = lemmas.sharp }
