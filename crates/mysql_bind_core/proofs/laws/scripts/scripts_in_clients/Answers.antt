use Rattle.mysql_bind_core.proofs.ScriptSentLemmas.{script_in_client, statements_in_client}
use Rattle.mysql_bind_core.proofs.laws.scripts.scripts_in_clients.Goals as goal

pub returns : goal.returns
returns c = record {
  script = λ request query rows transaction mode bytes e r s. script_in_client request query e mode r rows transaction bytes s;
  statements = λ request query rows mode bytes e r s. statements_in_client request query e mode r rows bytes s;
}
