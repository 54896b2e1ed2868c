use Rattle.mysql_fragments.proofs.DoubleTokenLemmas as lemmas
use Rattle.mysql_fragments.proofs.laws.doubles_are_plain.Goals as goal

pub returns : goal.returns
returns c = record { tokens = lemmas.IsDouble-tokens; alike = lemmas.IsDouble-alike }
