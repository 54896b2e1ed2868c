use Rattle.mysql_fragments.proofs.SplicedFragmentLemmas as lemmas
use Rattle.mysql_fragments.proofs.laws.fragments_are_sent.Goals as goal

pub returns : goal.returns
returns c = λ mode query text ts counts texts lists h o n s k w a e. lemmas.fragments_are_sent mode text ts counts texts lists n s a e query h k w o
