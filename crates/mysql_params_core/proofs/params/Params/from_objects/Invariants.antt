use Rattle.std.proofs.Common.{◌≡◌, map, take}
use Rattle.std.specs.Prelude.{Ok, fold}
use Rattle.std.specs.FinMap.{empty}
use Rattle.mysql_params_core.specs.Given.{value_map}
use Rattle.mysql_params_core.specs.Made.{with_pair}
use Rattle.mysql_params_core.proofs.params.Params.from_objects.Given as goal

abbrev pub invariant-loop-pair : goal.invariant-loop-pair
invariant-loop-pair g l =
    fold with_pair (Ok empty) (take l.pair-index (map (λ p. (p.0.now, (goal.ToValue-dyn g p.1.now).value_of p.1.now.1)) l.pairs))
    ≡ Ok (value_map l.entries.entries)
