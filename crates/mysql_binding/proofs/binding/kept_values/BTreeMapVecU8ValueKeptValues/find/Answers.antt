use Rattle.std.proofs.Common.{sym, ◌∙◌}
use Rattle.mysql_params_core.proofs.SortedMapLemmas.{get-sorted}
use Rattle.mysql_binding.proofs.binding.kept_values.BTreeMapVecU8ValueKeptValues.find.Goals as goal

pub returns-in-Some : goal.returns-in-Some
returns-in-Some c = c.in-Some.ensures.value ∙ sym (get-sorted c.args.self.now.entries c.args.name.now)
