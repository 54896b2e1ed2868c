use Rattle.std.specs.FinMap.{contains_key}
use Rattle.mysql_params_core.proofs.PrefixLemmas.{prefix_has_count, is_prefix-AreBelow}
use Rattle.mysql_params_core.proofs.laws.prefixes_are_found.Goals as goal

pub returns : goal.returns
returns c = record {
  found = λ m names.
      (prefix_has_count (contains_key m) names, λ r. is_prefix-AreBelow (contains_key m) names r.0 r.1);
}
