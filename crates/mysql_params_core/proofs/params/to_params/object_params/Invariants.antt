use Rattle.std.proofs.Common.{◌≡◌, map, take}
use Rattle.std.specs.Prelude.{Ok}
use Rattle.mysql_params_core.specs.Made.{values_made}
use Rattle.mysql_params_core.proofs.params.to_params.object_params.Given as goal

abbrev pub invariant-loop-object : goal.invariant-loop-object
invariant-loop-object g l =
    values_made (take l.object-index (map (λ o. (goal.ToValue-dyn g o.now).value_of o.now.1) l.objects)) ≡ Ok l.values.items
