use Rattle.std.proofs.Common.{take}
use Rattle.mysql_params_core.specs.GivenBorrowed.{pair_map}
use Rattle.mysql_params_core.specs.Referents.{referents}
use Rattle.mysql_params_core.proofs.BorrowedLemmas.{AreFound}
use Rattle.mysql_params_core.proofs.params.sorted_pairs.sorted_place_values.Given as goal

abbrev pub invariant-loop-i : goal.invariant-loop-i
invariant-loop-i l = AreFound (pair_map l.entries.entries) (take l.i (referents l.names)) l.values.items
