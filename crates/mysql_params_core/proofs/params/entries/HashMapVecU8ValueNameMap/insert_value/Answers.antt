use Rattle.std.proofs.Common.{ap, ◌∙◌}
use Rattle.std.specs.FinMap.{insert}
use Rattle.mysql_params_core.specs.Given.{value_map}
use Rattle.mysql_params_core.proofs.InsertLemmas.{value_map-insert}
use Rattle.mysql_params_core.proofs.params.entries.HashMapVecU8ValueNameMap.insert_value.Goals as goal

pub returns-clause-inserted : goal.returns-clause-inserted
returns-clause-inserted c =
    value_map-insert c.args.self.now.entries c.insert.new.self.entries c.in_ok-name.name c.args.value
    c.in_ok-insert.ensures.updates.3 c.in_ok-insert.ensures.updates.1
    ∙ ap (λ name. insert (value_map c.args.self.now.entries) name c.args.value) c.in_ok-name.ensures.items
