use Rattle.mysql_binding.specs.Replaced.{with_literal_tokens}
use Rattle.mysql_portable.proofs.ClientLemmas.{read_as_server}
use Rattle.mysql_binding.proofs.BoundOnServerLemmas.{bound_portable, isolated_on, bound_read}
use Rattle.mysql_binding.proofs.BoundStatementLemmas.{literals_within, replaced_no_opener, replaced_statements}
use Rattle.mysql_binding.proofs.SplicedInClientLemmas.{spliced_count, spliced_on_reader, spliced_by_client}
use Rattle.mysql_binding.proofs.laws.bound_texts_in_clients.Goals as goal

pub returns : goal.returns
returns c = record {
  no_opener = λ mode text ts given b o. replaced_no_opener ts b.literal_tokens (literals_within mode b.literals b.literal_tokens b.shapes b.tokens_of_literals) o;
  read = λ client mode query text ts vs given honest h b p o v.
      let inside = literals_within mode b.literals b.literal_tokens b.shapes b.tokens_of_literals in
      let alike = bound_portable mode query text ts b.literals b.literal_tokens h p b.shapes b.tokens_of_literals b.text_is in
      bound_read mode query text ts b.literals b.literal_tokens h p b.shapes b.tokens_of_literals b.text_is client.reader vs honest
      (spliced_on_reader ts b.literal_tokens inside mode text b.isolated alike o client honest vs v);
  count = λ client mode query text ts vs given honest h b p o v.
      let inside = literals_within mode b.literals b.literal_tokens b.shapes b.tokens_of_literals in
      let alike = bound_portable mode query text ts b.literals b.literal_tokens h p b.shapes b.tokens_of_literals b.text_is in
      spliced_count ts b.literal_tokens inside vs
      (bound_read mode query text ts b.literals b.literal_tokens h p b.shapes b.tokens_of_literals b.text_is client.reader vs honest
      (spliced_on_reader ts b.literal_tokens inside mode text b.isolated alike o client honest vs v));
  tokens = λ client mode query text ts us given honest decides h b p o u.
      let inside = literals_within mode b.literals b.literal_tokens b.shapes b.tokens_of_literals in
      let alike = bound_portable mode query text ts b.literals b.literal_tokens h p b.shapes b.tokens_of_literals b.text_is in
      spliced_by_client ts b.literal_tokens inside mode text b.isolated alike o client honest (with_literal_tokens us b.literal_tokens)
      (isolated_on mode query text ts b.literals b.literal_tokens h p b.shapes b.tokens_of_literals b.text_is client.reader us honest decides
      (read_as_server client mode query ts us honest h p o u));
  statements = λ mode text ts us given b. replaced_statements us b.literal_tokens (literals_within mode b.literals b.literal_tokens b.shapes b.tokens_of_literals);
}
