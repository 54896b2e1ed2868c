use Rattle.mysql_fragments.proofs.SplicedFragmentLemmas as lemmas
use Rattle.mysql_fragments.proofs.laws.fragments_on_servers.Goals as goal

pub returns : goal.returns
returns c = record {
  portable = λ mode query text ts counts texts lists h p n s a e. lemmas.fragments_portable mode text ts counts texts lists n s a e query h p;
  read = λ server mode query text ts vs counts texts lists honest h p n s a e v. lemmas.fragments_read mode text ts counts texts lists n s a e query h p server vs honest v;
  tokens = λ server mode query text ts us counts texts lists honest within h p n s a e u. lemmas.fragments_on mode text ts counts texts lists n s a e query h p server us honest within u;
}
