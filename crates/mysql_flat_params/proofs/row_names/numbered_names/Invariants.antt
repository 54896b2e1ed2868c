use Rattle.std.proofs.Common.{◌≡◌, ◌<◌, length}
use Rattle.std.specs.Prelude.{IfSome}
use Rattle.mysql_params_core.specs.GivenBorrowed.{pair_map}
use Rattle.mysql_flat_params.specs.RowNames.{AreOwnNames, names_of_pairs}
use Rattle.mysql_flat_params.proofs.row_names.numbered_names.Given as goal

abbrev pub invariant-loop-rest : goal.invariant-loop-rest
invariant-loop-rest l =
    (0 < length l.pairs.items) × AreOwnNames (names_of_pairs l.pairs.items)
    × IfSome l.sorted (λ entries. pair_map entries.entries ≡ pair_map l.pairs.items)

abbrev pub decreases-loop-rest : goal.decreases-loop-rest
decreases-loop-rest l = length l.rest.0.now
