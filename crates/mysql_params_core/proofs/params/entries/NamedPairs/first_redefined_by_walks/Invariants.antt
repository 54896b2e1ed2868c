use Rattle.std.proofs.Common.{◌≡◌, map, take}
use Rattle.std.specs.Prelude.{Ok, fold}
use Rattle.std.specs.FinMap.{empty}
use Rattle.mysql_params_core.specs.GivenBorrowed.{pair_map}
use Rattle.mysql_params_core.specs.Made.{with_pair, seen_pair}
use Rattle.mysql_params_core.proofs.params.entries.NamedPairs.first_redefined_by_walks.Given as goal

abbrev pub invariant-loop-i : goal.invariant-loop-i
invariant-loop-i l =
    fold with_pair (Ok empty) (take l.i (map seen_pair l.pairs)) ≡ Ok (pair_map (take l.i l.pairs))
