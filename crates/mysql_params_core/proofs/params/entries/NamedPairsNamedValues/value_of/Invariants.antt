use Rattle.std.proofs.Common.{◌≡◌, drop}
use Rattle.std.specs.FinMap.{get}
use Rattle.mysql_params_core.specs.GivenBorrowed.{pair_map}
use Rattle.mysql_params_core.proofs.params.entries.NamedPairsNamedValues.value_of.Given as goal

abbrev pub invariant-loop-pair : goal.invariant-loop-pair
invariant-loop-pair l =
    get (pair_map (drop l.pair-index l.pair-items)) l.name ≡ get (pair_map l.fn.self.0.now) l.name
