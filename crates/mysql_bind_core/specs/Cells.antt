-- The cells of a row of a table, and their assignments to the names of the columns.
use Rattle.std.specs.Prelude.{◌≡◌, ℕ, Bool, List, [], ◌∷◌, map, Option, Some, None}
use Rattle.std.specs.List.{slice_get}
use Rattle.mysql_values.specs.BorrowedValue.{owned}
use Rattle.mysql_values.specs.declared.value.Value.{Value}
use Rattle.mysql_values.specs.declared.value.Value.TheVariants.{NULL}
use Rattle.mysql_bind_core.specs.FoundPairs.{are_distinct}
use Rattle.mysql_bind_core.specs.ValueTypes.{typed_value}
use Rattle.mysql_bind_core.specs.declared.assignment.Assignment.{Assignment}
use Rattle.mysql_bind_core.specs.declared.cell.Cell.{Cell}
use Rattle.mysql_bind_core.specs.declared.cell.CellValue.{CellValue}
use Rattle.mysql_bind_core.specs.declared.cell.CellValue.TheVariants as made
use Rattle.mysql_bind_core.specs.declared.request.Request.{Request}
use Rattle.mysql_bind_core.specs.declared.value_type.ValueType.{ValueType}
use Rattle.mysql_bind_core.specs.declared.value_type.ValueType.TheVariants.{Hex, Base64}

-- ---- assignments of cells

-- a name, a type and bytes
abbrev pub Said : Type 0
Said = List ℕ × (ValueType × List ℕ)

-- the contents of an assignment, without the place of its bytes in memory
abbrev pub assignment_said : Assignment → Said
assignment_said a = (a.name.items, (a.value_type, a.bytes.items))

-- the contents of each cell under the name of its column
abbrev pub cells_said : List (List ℕ) → List Cell → List Said
cells_said [] cells = []
cells_said (name ∷ names) [] = []
cells_said (name ∷ names) (cell ∷ cells) =
    (name, (cell.value_type, cell.bytes.now)) ∷ cells_said names cells

-- the assignments say the same as the cells under the names of their columns, in the same order
abbrev pub AreAssigned : List (List ℕ) → List Cell → List Assignment → Type 0
AreAssigned names cells assignments = map assignment_said assignments ≡ cells_said names cells

-- ---- the values of cells

-- the value that the bytes of a cell mean; none if they mean none
abbrev pub cell_value : Cell → Option Value
cell_value cell = typed_value cell.value_type cell.bytes.now

-- the value that the bytes mean, unless the type decodes them
abbrev pub lent_typed_value : ValueType → List ℕ → Option Value
lent_typed_value Hex bytes = None
lent_typed_value Base64 bytes = None
lent_typed_value value_type bytes = typed_value value_type bytes

-- the value of a cell, whether it is borrowed or owned
abbrev pub value_said : CellValue → Value
value_said (made.Lent value) = owned value
value_said (made.Made value) = value

-- ---- columns that are matched with places

-- no name is in the list twice
abbrev pub are_distinct_names : List (List ℕ) → Bool
are_distinct_names names = are_distinct (map (λ name. (name, NULL)) names)

-- the columns with these numbers have these names
abbrev pub AreNumbersOf : List (List ℕ) → List (List ℕ) → List ℕ → Type 0
AreNumbersOf columns names numbers =
    map (slice_get columns) numbers ≡ map (λ name. Some name) names

-- a query, the names of a table's columns, and the request
pub record TableQuery : Type 0 where
  pub query : List ℕ
  pub columns : List (List ℕ)
  pub request : Request
