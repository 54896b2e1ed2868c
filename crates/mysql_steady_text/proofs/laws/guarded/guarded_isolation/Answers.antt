use Rattle.mysql_steady_text.proofs.GuardedSpliceLemmas as lemmas
use Rattle.mysql_steady_text.proofs.laws.guarded.guarded_isolation.Goals as goal

pub returns : goal.returns
returns c = record {
  tokens = λ mode query text ts literals lists h n s a e. lemmas.guarded_isolated mode text ts literals lists n s a e query h;
  no_place = λ mode text ts literals lists n s a e. lemmas.guarded_places mode text ts literals lists n s a e;
  modes = lemmas.tokens_of_other;
}
