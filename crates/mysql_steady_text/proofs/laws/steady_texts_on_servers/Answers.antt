use Rattle.mysql_steady_text.proofs.SteadySpliceLemmas as lemmas
use Rattle.mysql_steady_text.proofs.laws.steady_texts_on_servers.Goals as goal

pub returns : goal.returns
returns c = record {
  portable = λ mode query text ts literals lists h p n s a e. lemmas.steady_portable mode text ts literals lists n s a e query h p;
  read = λ server mode query text ts vs literals lists honest h p n s a e v. lemmas.steady_read mode text ts literals lists n s a e query h p server vs honest v;
  tokens = λ server mode query text ts us literals lists honest within h p n s a e u. lemmas.steady_on mode text ts literals lists n s a e query h p server us honest within u;
  seen = lemmas.joined_seen;
}
