use Rattle.std.proofs.Common.{arith}
use Rattle.mysql_values.specs.BorrowedValue.{owned}
use Rattle.mysql_flat_params.proofs.LeavesLemmas.{value_leaves}
use Rattle.mysql_flat_params.proofs.row_names.next_name.Goals as goal

pub returns-in-Ok-eat_value-clause-fewer : goal.returns-in-Ok-eat_value-clause-fewer
returns-in-Ok-eat_value-clause-fewer c =
    omega (arith, value_leaves 0 0 c.eat_name.new.rest.0.now (owned c.in-Ok-eat_value.field-0) c.eat_value.new.rest.0.now c.in-Ok-eat_value.ensures, c.in-Ok.ensures.within)
