use Rattle.mysql_value_core.proofs.ValueOrderLemmas.{value_cmp-total, value_cmp-Equal}
use Rattle.mysql_value_core.proofs.laws.value_order_is_total.Goals as goal

pub returns-clause-total : goal.returns-clause-total
returns-clause-total c = value_cmp-total

pub returns-clause-equal : goal.returns-clause-equal
returns-clause-equal c = value_cmp-Equal
