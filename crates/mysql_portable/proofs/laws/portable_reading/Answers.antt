use Rattle.mysql_portable.proofs.QuietLemmas as lemmas
use Rattle.mysql_portable.proofs.laws.portable_reading.Goals as goal

pub returns : goal.returns
returns c = record { alike = lemmas.portable_read }
