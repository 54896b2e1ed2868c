use Rattle.mysql_portable.proofs.ClientLemmas.{read_as_server}
use Rattle.mysql_binding.specs.Replaced.{with_literal_tokens}
use Rattle.mysql_binding.proofs.BoundStatementLemmas.{replaced_no_opener, replaced_statements}
use Rattle.mysql_binding.proofs.SplicedInClientLemmas.{spliced_count, spliced_on_reader, spliced_by_client}
use Rattle.mysql_steady_text.proofs.SteadyClientLemmas.{steady_literals_within}
use Rattle.mysql_steady_text.proofs.SteadySpliceLemmas as lemmas
use Rattle.mysql_steady_text.proofs.laws.steady_texts_in_clients.Goals as goal

pub returns : goal.returns
returns c = record {
  no_opener = λ mode ts literals lists s a o. replaced_no_opener ts lists (steady_literals_within mode literals lists s a) o;
  read = λ client mode query text ts vs literals lists honest h p o n s a e v.
      let inside = steady_literals_within mode literals lists s a in
      let isolated = lemmas.steady_isolated mode text ts literals lists n s a e query h in
      let alike = lemmas.steady_portable mode text ts literals lists n s a e query h p in
      lemmas.steady_read mode text ts literals lists n s a e query h p client.reader vs honest
      (spliced_on_reader ts lists inside mode text isolated alike o client honest vs v);
  count = λ client mode query text ts vs literals lists honest h p o n s a e v.
      let inside = steady_literals_within mode literals lists s a in
      let isolated = lemmas.steady_isolated mode text ts literals lists n s a e query h in
      let alike = lemmas.steady_portable mode text ts literals lists n s a e query h p in
      spliced_count ts lists inside vs
      (lemmas.steady_read mode text ts literals lists n s a e query h p client.reader vs honest
      (spliced_on_reader ts lists inside mode text isolated alike o client honest vs v));
  tokens = λ client mode query text ts us literals lists honest decides h p o n s a e u.
      let inside = steady_literals_within mode literals lists s a in
      let isolated = lemmas.steady_isolated mode text ts literals lists n s a e query h in
      let alike = lemmas.steady_portable mode text ts literals lists n s a e query h p in
      spliced_by_client ts lists inside mode text isolated alike o client honest (with_literal_tokens us lists)
      (lemmas.steady_on mode text ts literals lists n s a e query h p client.reader us honest decides
      (read_as_server client mode query ts us honest h p o u));
  statements = λ mode us literals lists s a. replaced_statements us lists (steady_literals_within mode literals lists s a);
}
