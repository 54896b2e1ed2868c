use Rattle.std.proofs.Common.{[], refl}
use Rattle.mysql_bind_core.proofs.GroupScriptLemmas.{records_of_groups, script_of_groups_alike, script_of_groups_in_client, table_of_groups, tokens_of_groups}
use Rattle.mysql_bind_core.proofs.laws.scripts.groups_make_scripts.Goals as goal

pub returns : goal.returns
returns c = record {
  records = λ query form text groups rest before after s. records_of_groups query form text groups s.texts rest s.are;
  table = λ query form text groups before after s. table_of_groups query form text groups s.texts [] s.are refl;
  script = tokens_of_groups;
  alike = λ query form text groups rest transaction mode after bytes e r s whole. script_of_groups_alike query form e mode r text groups rest transaction after bytes s whole;
  sent = λ query form text groups rest transaction mode after bytes e r s whole. script_of_groups_in_client query form e mode r text groups rest transaction after bytes s whole;
}
