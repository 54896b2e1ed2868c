use Rattle.std.proofs.Common.{◌∙◌, ap, Some, rules}
use Rattle.mysql_value_core.specs.contracts.value.ValueOrd.TheImpl.Laws.{matches_partial_cmp-law}
use Rattle.mysql_values.proofs.laws.value_ir_order.Goals as goal

pub returns : goal.returns
returns c = record {
  order = c.partial_cmp.ensures ∙ matches_partial_cmp-law c.args.a.now.0 c.args.b.now.0 ∙ ap Some (search rules);
  member = c.partial_cmp.ensures;
}
