use Rattle.std.proofs.Common.{false}
use Rattle.mysql_value_core.proofs.InLineLemmas.{escaped_literal_in_line}
use Rattle.mysql_values.specs.Literal.{literal_of}
use Rattle.mysql_binding.proofs.BoundSentLemmas.{bound_sent, written_in_line}
use Rattle.mysql_binding.proofs.laws.bound_texts_are_sent.Goals as goal

pub returns : goal.returns
returns c = record {
  portable = λ mode query text ts given h b p r o k. record {
    portable = c.bound_texts_on_servers.ensures.portable mode query text ts given h b r;
    no_opener = c.bound_texts_in_clients.ensures.no_opener mode text ts given b o;
    sent = bound_sent mode query text ts given h b p k;
  };
  escaped = λ ts given text b. written_in_line (literal_of false) escaped_literal_in_line b.values b.literals b.written;
}
