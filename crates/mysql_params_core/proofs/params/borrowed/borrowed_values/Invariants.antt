use Rattle.std.proofs.Common.{◌≡◌, take}
use Rattle.mysql_values.specs.BorrowedValue.{owned_values}
use Rattle.mysql_params_core.proofs.params.borrowed.borrowed_values.Given as goal

abbrev pub invariant-loop-value : goal.invariant-loop-value
invariant-loop-value l = owned_values l.refs.items ≡ take l.value-index l.values
