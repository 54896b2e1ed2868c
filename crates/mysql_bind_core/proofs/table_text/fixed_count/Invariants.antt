use Rattle.std.proofs.Common.{drop}
use Rattle.mysql_bind_core.proofs.CountLemmas.{CellsFit}
use Rattle.mysql_bind_core.proofs.table_text.fixed_count.Given as goal

-- the cells that were read fit
abbrev pub invariant-loop-i : goal.invariant-loop-i
invariant-loop-i l = CellsFit (drop l.i l.cells) → CellsFit l.cells
