use Rattle.mysql_portable.proofs.GrammarLemmas as lemmas
use Rattle.mysql_portable.proofs.laws.grammar_is_a_server.Goals as goal

pub returns : goal.returns
returns c = record { reads = lemmas.grammar_reads; is_read = lemmas.read_by_grammar }
