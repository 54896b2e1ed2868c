use Rattle.std.proofs.Common.{◌∙◌, ap, Some, rules}
use Rattle.mysql_value_core.specs.contracts.value.ValueRefOrd.TheImpl.Laws.{matches_partial_cmp-law}
use Rattle.mysql_value_core.proofs.laws.borrowed.borrowed_partial_order.Goals as goal

pub returns : goal.returns
returns c = record {
  order = c.partial_cmp.ensures ∙ matches_partial_cmp-law c.args.a.now c.args.b.now ∙ ap Some (search rules);
  member = c.partial_cmp.ensures;
}
