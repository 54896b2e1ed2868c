use Rattle.std.proofs.Common.{◌≡◌, take}
use Rattle.mysql_values.specs.BorrowedValue.{owned_values}
use Rattle.mysql_flat_params.proofs.form.own_values.Given as goal

abbrev pub invariant-loop-value : goal.invariant-loop-value
invariant-loop-value l = l.list.items ≡ owned_values (take l.value-index l.values)
