use Rattle.mysql_bind_core.proofs.ScriptAlikeLemmas as alike
use Rattle.mysql_bind_core.proofs.ScriptCountLemmas.{count_of_script}
use Rattle.mysql_bind_core.proofs.ScriptTokenLemmas as lemmas
use Rattle.mysql_bind_core.proofs.laws.scripts.tokens_of_scripts.Goals as goal

pub returns : goal.returns
returns c = record {
  script = lemmas.tokens_of_script;
  statements = lemmas.tokens_of_statements_alone;
  count = count_of_script;
  alike = λ request query rows transaction mode bytes e r s. alike.script_read_alike request query e mode r rows transaction bytes s;
  statements_alike = λ request query rows mode bytes e r s. alike.statements_read_alike request query e mode r rows bytes s;
}
