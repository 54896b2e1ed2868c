use Rattle.mysql_steady_text.proofs.SteadySentLemmas.{steady_text_sent, steady_text_portable}
use Rattle.mysql_steady_text.proofs.laws.steady_texts_are_sent.Goals as goal

pub returns : goal.returns
returns c = record {
  sent = λ mode query text ts literals lists h k n s p a e. steady_text_sent mode query text ts literals lists h n s p a e k;
  portable = λ mode query text ts literals lists h r o k n s p a e. steady_text_portable mode query text ts literals lists h n s p a e r o k;
}
