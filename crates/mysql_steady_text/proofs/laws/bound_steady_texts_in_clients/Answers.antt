use Rattle.std.proofs.Common.{true}
use Rattle.mysql_steady_text.proofs.SteadyClientLemmas.{bound_alone}
use Rattle.mysql_steady_text.proofs.SteadyTextLemmas.{shapes_in}
use Rattle.mysql_steady_text.proofs.laws.bound_steady_texts_in_clients.Goals as goal

pub returns : goal.returns
returns c =
    let s = c.steady_texts_in_clients.ensures in
    record {
      no_opener = λ text ts given b o. s.no_opener true ts b.literals b.literal_tokens (shapes_in b) (b.tokens_of_literals true) o;
      read = λ client mode query text ts vs given honest h b p o v.
          s.read client mode query text ts vs b.literals b.literal_tokens honest h p o (bound_alone ts given text b) (shapes_in b) (b.tokens_of_literals mode) b.text_is v;
      count = λ client mode query text ts vs given honest h b p o v.
          s.count client mode query text ts vs b.literals b.literal_tokens honest h p o (bound_alone ts given text b) (shapes_in b) (b.tokens_of_literals mode) b.text_is v;
      tokens = λ client mode query text ts us given honest decides h b p o u.
          s.tokens client mode query text ts us b.literals b.literal_tokens honest decides h p o (bound_alone ts given text b) (shapes_in b) (b.tokens_of_literals mode) b.text_is u;
      statements = λ text ts us given b. s.statements true us b.literals b.literal_tokens (shapes_in b) (b.tokens_of_literals true);
    }
