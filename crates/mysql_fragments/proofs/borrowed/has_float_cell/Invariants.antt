use Rattle.std.proofs.Common.{◌≡◌, drop, map}
use Rattle.std.specs.List.{list_any}
use Rattle.mysql_fragments.specs.BorrowedFragments.{cell_item}
use Rattle.mysql_fragments.specs.FragmentErrors.{is_float_item}
use Rattle.mysql_fragments.proofs.borrowed.has_float_cell.Given as goal

abbrev pub invariant-loop-cell : goal.invariant-loop-cell
invariant-loop-cell l = list_any is_float_item (drop l.cell-index (map cell_item l.cells)) ≡ list_any is_float_item (map cell_item l.cells)
