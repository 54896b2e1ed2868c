use Rattle.std.proofs.Common.{◌≡◌, map, take}
use Rattle.std.specs.Prelude.{Ok}
use Rattle.mysql_params_core.specs.Made.{values_made}
use Rattle.mysql_params_core.proofs.params.to_params.list_params.Given as goal

abbrev pub invariant-loop-argument : goal.invariant-loop-argument
invariant-loop-argument g l =
    values_made (take l.argument-index (map (g.T.ToValue.value_of) l.arguments)) ≡ Ok l.values.items
