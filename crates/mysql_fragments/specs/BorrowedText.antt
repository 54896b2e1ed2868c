-- The text of borrowed fragments, their values and faults, as the code finds them. The promises are
-- about the fragments of the same content (BorrowedFragments.antt).
use Rattle.std.specs.Prelude.{◌+◌, ℕ, Bool, List, [], ◌∷◌, ◌++◌, codes, map, if◌then◌else◌, Option, None, Some, option_map}
use Rattle.std.specs.List.{flat_map, list_any}
use Rattle.std.specs.Option.{option_or}
use Rattle.mysql_value_core.specs.declared.value.ValueRef.{ValueRef}
use Rattle.mysql_values.specs.BorrowedValue.{owned}
use Rattle.mysql_values.specs.Literal.{is_float}
use Rattle.mysql_values.specs.declared.value.Value.{Value}
use Rattle.mysql_fragments.specs.BorrowedFragments.{cell_item, cell_rows}
use Rattle.mysql_fragments.specs.FragmentErrors.{has_float, is_float_item}
use Rattle.mysql_fragments.specs.FragmentFaults.{fault_of}
use Rattle.mysql_fragments.specs.FragmentText.{filled_items, filled_text, fragment_values, item_values, joined}
use Rattle.mysql_fragments.specs.declared.fragment_ref.FragmentRef.{FragmentRef}
use Rattle.mysql_fragments.specs.declared.fragment_ref.FragmentRef.TheVariants as borrowed
use Rattle.mysql_fragments.specs.declared.fragments_error.FragmentFault.{FragmentFault}
use Rattle.mysql_fragments.specs.declared.fragments_error.FragmentFault.TheVariants.{Empty}

-- cells with commas between them
abbrev pub cells_text : (Value → List ℕ) → List ValueRef → List ℕ
cells_text write cells = filled_items write (map cell_item cells)

-- a row: its cells in brackets
abbrev pub cell_row_text : (Value → List ℕ) → List ValueRef → List ℕ
cell_row_text write row = codes "(" ++ (cells_text write row ++ codes ")")

-- a borrowed fragment, with this text of each of its values
abbrev pub borrowed_text : (Value → List ℕ) → FragmentRef → List ℕ
borrowed_text write (borrowed.Owned fragment) = filled_text write fragment.now
borrowed_text write (borrowed.Value value) = write (owned value)
borrowed_text write (borrowed.List cells) = cells_text write cells.now
borrowed_text write (borrowed.Rows rows) =
    joined (codes ", ") (map (cell_row_text write) (cell_rows rows))

-- the values of cells
abbrev pub cell_values : List ValueRef → List Value
cell_values cells = flat_map item_values (map cell_item cells)

-- the values of a borrowed fragment, in order
abbrev pub borrowed_values : FragmentRef → List Value
borrowed_values (borrowed.Owned fragment) = fragment_values fragment.now
borrowed_values (borrowed.Value value) = owned value ∷ []
borrowed_values (borrowed.List cells) = cell_values cells.now
borrowed_values (borrowed.Rows rows) = flat_map cell_values (cell_rows rows)

-- a cell is a float
abbrev pub has_float_cell : List ValueRef → Bool
has_float_cell cells = list_any is_float_item (map cell_item cells)

-- a value of a borrowed fragment is a float
abbrev pub has_borrowed_float : FragmentRef → Bool
has_borrowed_float (borrowed.Owned fragment) = has_float fragment.now
has_borrowed_float (borrowed.Value value) = is_float (owned value)
has_borrowed_float (borrowed.List cells) = has_float_cell cells.now
has_borrowed_float (borrowed.Rows rows) = list_any has_float_cell (cell_rows rows)

-- the fault of a list
abbrev pub cells_fault : List ValueRef → Option FragmentFault
cells_fault [] = Some Empty
cells_fault (cell ∷ cells) = None

-- the first fault of a borrowed fragment; rows always have their shape
abbrev pub borrowed_fault : FragmentRef → Option FragmentFault
borrowed_fault (borrowed.Owned fragment) = fault_of fragment.now
borrowed_fault (borrowed.Value value) = None
borrowed_fault (borrowed.List cells) = cells_fault cells.now
borrowed_fault (borrowed.Rows rows) = None

-- the place of the first borrowed fragment with a float, if `place` fragments come before these
abbrev pub first_borrowed_float_from : ℕ → List FragmentRef → Option ℕ
first_borrowed_float_from place [] = None
first_borrowed_float_from place (fragment ∷ fragments) =
    if has_borrowed_float fragment then Some place
    else first_borrowed_float_from (place + 1) fragments

-- the place of the first borrowed fragment that can't be written, and its fault
abbrev pub first_borrowed_fault_from : ℕ → List FragmentRef → Option (ℕ × FragmentFault)
first_borrowed_fault_from place [] = None
first_borrowed_fault_from place (fragment ∷ fragments) =
    option_or (option_map (λ fault. (place, fault)) (borrowed_fault fragment))
    (first_borrowed_fault_from (place + 1) fragments)
