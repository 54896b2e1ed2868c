use Rattle.std.proofs.Common.{◌≡◌, drop}
use Rattle.std.specs.FinMap.{get}
use Rattle.mysql_params_core.specs.GivenBorrowed.{pair_map}
use Rattle.mysql_params_core.proofs.params.entries.NamedPairs.index_of.Given as goal

abbrev pub invariant-loop-i : goal.invariant-loop-i
invariant-loop-i l = get (pair_map (drop l.i l.fn.self.0.now)) l.name ≡ get (pair_map l.fn.self.0.now) l.name
