use Rattle.mysql_steady_text.proofs.GuardedSpliceLemmas as lemmas
use Rattle.mysql_steady_text.proofs.laws.guarded.guarded_texts_on_servers.Goals as goal

pub returns : goal.returns
returns c = record {
  portable = λ mode query text ts literals lists h p n s a e. lemmas.guarded_portable mode text ts literals lists n s a e query h p;
  read = λ server mode query text ts vs literals lists honest h p n s a e v. lemmas.guarded_read mode text ts literals lists n s a e query h p server vs honest v;
  tokens = λ server mode query text ts us literals lists honest within h p n s a e u. lemmas.guarded_on mode text ts literals lists n s a e query h p server us honest within u;
}
