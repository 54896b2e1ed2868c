use Rattle.mysql_portable.proofs.PlaceTextLemmas.{placeless_join_no_number}
use Rattle.mysql_binding.proofs.BoundOnServerLemmas.{bound_portable, isolated_on, bound_read, literals_on}
use Rattle.mysql_binding.proofs.ReplacedLemmas.{isolated_places}
use Rattle.mysql_binding.proofs.laws.bound_texts_on_servers.Goals as goal

pub returns : goal.returns
returns c = record {
  portable = λ mode query text ts given h b p. record {
    alike = bound_portable mode query text ts b.literals b.literal_tokens h p b.shapes b.tokens_of_literals b.text_is;
    apart = placeless_join_no_number mode _ b.isolated.each (isolated_places mode text ts b.literals b.literal_tokens b.shapes b.tokens_of_literals b.text_is);
  };
  read = λ server mode query text ts vs given honest h b p v. bound_read mode query text ts b.literals b.literal_tokens h p b.shapes b.tokens_of_literals b.text_is server vs honest v;
  tokens = λ server mode query text ts us given honest within h b p u. isolated_on mode query text ts b.literals b.literal_tokens h p b.shapes b.tokens_of_literals b.text_is server us honest within u;
  literals = λ server mode ts given text b. literals_on server mode b.literals b.literal_tokens b.shapes b.tokens_of_literals;
}
