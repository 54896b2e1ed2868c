use Rattle.std.proofs.Common.{◌≡◌, drop}
use Rattle.std.specs.List.{list_any}
use Rattle.mysql_fragments.specs.BorrowedFragments.{cell_rows}
use Rattle.mysql_fragments.specs.BorrowedText.{has_float_cell}
use Rattle.mysql_fragments.proofs.borrowed.has_float_row.Given as goal

abbrev pub invariant-loop-r : goal.invariant-loop-r
invariant-loop-r l = list_any has_float_cell (drop l.r (cell_rows l.rows)) ≡ list_any has_float_cell (cell_rows l.rows)
