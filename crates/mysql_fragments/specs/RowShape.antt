-- Why cells don't make rows of a width.
use Rattle.std.specs.Prelude.{◌==◌, ◌/◌, ◌%◌, ℕ, if◌then◌else◌, Option, None, Some}
use Rattle.mysql_fragments.specs.declared.fragments_error.FragmentFault.{FragmentFault}
use Rattle.mysql_fragments.specs.declared.fragments_error.FragmentFault.TheVariants.{Empty, EmptyRow, RowLength}

-- the fault of this number of cells in rows of this width: no cells, rows without items, or a last
-- row that is shorter
abbrev pub shape_fault : ℕ → ℕ → Option FragmentFault
shape_fault cells width =
    if cells == 0 then Some Empty
    else if width == 0 then Some (EmptyRow 0)
    else if cells % width == 0 then None
    else Some (RowLength (cells / width))
