use Rattle.std.proofs.Common.{take}
use Rattle.mysql_params_core.specs.Referents.{referents}
use Rattle.mysql_bind_core.specs.Cells.{AreNumbersOf}
use Rattle.mysql_bind_core.proofs.matched.numbers_of.Given as goal

-- the numbers so far are those of the names so far
abbrev pub invariant-loop-name : goal.invariant-loop-name
invariant-loop-name l = AreNumbersOf (referents l.columns) (take l.name-index (referents l.names)) l.numbers.items
