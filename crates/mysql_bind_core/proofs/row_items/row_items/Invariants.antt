use Rattle.std.proofs.Common.{◌≡◌, drop, map}
use Rattle.mysql_bind_core.specs.Contents.{all_of, item_said}
use Rattle.mysql_bind_core.specs.RowItems.{cell_item}
use Rattle.mysql_bind_core.specs.Tables.{cell_said}
use Rattle.mysql_bind_core.proofs.ContentLemmas.{before}
use Rattle.mysql_bind_core.proofs.row_items.row_items.Given as goal

-- what is found of all cells is what was found, and before what is left to find
abbrev pub invariant-loop-cell : goal.invariant-loop-cell
invariant-loop-cell l =
    all_of cell_item (map cell_said l.cells)
    ≡ before (map item_said l.items.items) (all_of cell_item (drop l.cell-index (map cell_said l.cells)))
