use Rattle.mysql_portable.proofs.ClientLemmas as lemmas
use Rattle.mysql_portable.proofs.laws.client_is_a_server.Goals as goal

pub returns : goal.returns
returns c = record { reads = lemmas.reads_as_server; is_read = lemmas.read_as_server }
