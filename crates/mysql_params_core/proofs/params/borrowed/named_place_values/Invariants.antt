use Rattle.std.proofs.Common.{take}
use Rattle.mysql_params_core.specs.Referents.{referents}
use Rattle.mysql_params_core.proofs.BorrowedLemmas.{AreFound}
use Rattle.mysql_params_core.proofs.params.borrowed.named_place_values.Given as goal

abbrev pub invariant-loop-i : goal.invariant-loop-i
invariant-loop-i g l = AreFound (g.M.NamedValues.values l.entries) (take l.i (referents l.names)) l.values.items
