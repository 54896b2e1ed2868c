use Rattle.mysql_portable.proofs.ServerTokenLemmas as lemmas
use Rattle.mysql_portable.proofs.GrammarLemmas as grammar
use Rattle.mysql_portable.proofs.laws.one_list_on_a_server.Goals as goal

pub returns : goal.returns
returns c = record { unique = lemmas.one_list_on; some = grammar.tokens_on }
