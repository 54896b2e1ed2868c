-- The columns of a table: what a header and the options say of each, and the values of records
-- under the names of the columns.
use Rattle.std.specs.Prelude.{◌≡◌, ◌&&◌, ℕ, Bool, true, false, List, [], ◌∷◌, ◌++◌, map, if◌then◌else◌, Option, Some, None, is_some, option_map, ⊤}
use Rattle.std.specs.List.{list_any}
use Rattle.std.specs.Option.{option_or}
use Rattle.std.specs.Str.{bytes_eq}
use Rattle.mysql_bind_core.specs.Cells.{Said, assignment_said}
use Rattle.mysql_bind_core.specs.Tables.{CellSaid, Fields, cell_said, field_said, said_under}
use Rattle.mysql_bind_core.specs.declared.assignment.Assignment.{Assignment}
use Rattle.mysql_bind_core.specs.declared.column.Column.{Column}
use Rattle.mysql_bind_core.specs.declared.column.NamedColumn.{NamedColumn}
use Rattle.mysql_bind_core.specs.declared.column.NullText.{NullText}
use Rattle.mysql_bind_core.specs.declared.column.ColumnWords.{ColumnWords}
use Rattle.mysql_bind_core.specs.declared.row.Row.{Row}
use Rattle.mysql_bind_core.specs.declared.table_form.TableColumn.{TableColumn}
use Rattle.mysql_bind_core.specs.declared.table_form.TableForm.{TableForm}
use Rattle.mysql_bind_core.specs.declared.value_type.ValueType.{ValueType}
use Rattle.mysql_bind_core.specs.declared.value_type.ValueType.TheVariants as type

-- ---- what is said of a column

-- the first of these columns with exactly this header
abbrev pub with_header : List NamedColumn → List ℕ → Option NamedColumn
with_header [] header = None
with_header (column ∷ columns) header =
    if bytes_eq column.header.items header then Some column else with_header columns header

-- one of these columns has this name
abbrev pub has_name : List NamedColumn → List ℕ → Bool
has_name columns name = list_any (λ column. bytes_eq column.name.items name) columns

-- the name of a column: that of the option with its header; without one its header, unless an
-- option has that name for another column
abbrev pub name_or_header : Option NamedColumn → Bool → List ℕ → Option (List ℕ)
name_or_header (Some column) is_taken header = Some column.name.items
name_or_header None true header = None
name_or_header None false header = Some header

-- the same among the options
abbrev pub column_name : List NamedColumn → List ℕ → Option (List ℕ)
column_name columns header =
    name_or_header (with_header columns header) (has_name columns header) header

-- the type of a column: that of the option with its header, or else text
abbrev pub column_type : Option NamedColumn → ValueType
column_type (Some column) = column.value_type
column_type None = type.Text

-- the text that the first option with this name says to mean NULL
abbrev pub null_of : List NullText → List ℕ → Option (List ℕ)
null_of [] name = None
null_of (null ∷ nulls) name =
    if bytes_eq null.name.items name then Some null.text.items else null_of nulls name

-- the same for a column that can have no name
abbrev pub own_null : List NullText → Option (List ℕ) → Option (List ℕ)
own_null nulls None = None
own_null nulls (Some name) = null_of nulls name

-- the text that means NULL in a column with this name: its own, or else that of all columns
abbrev pub null_text : ColumnWords → Option (List ℕ) → Option (List ℕ)
null_text words name =
    option_or (own_null words.nulls.items name) (option_map (λ text. text.items) words.null_text)

-- ---- columns

-- a column, without the place of its bytes in memory
pub record ColumnSeen : Type 0 where
  pub name : Option (List ℕ)
  pub value_type : ValueType
  pub null_text : Option (List ℕ)
  pub used : Bool

-- the view of a column
abbrev pub column_seen : Column → ColumnSeen
column_seen column = record {
  name = option_map (λ name. name.items) column.name;
  value_type = column.value_type;
  null_text = option_map (λ text. text.items) column.null_text;
  used = column.used;
}

-- a field of a header as bytes; NULL is the empty name, which no query has
abbrev pub header_of : Option (List ℕ) → List ℕ
header_of None = []
header_of (Some bytes) = bytes

-- the column with this field in the header, as the options describe it; it is used if it has a name
abbrev pub column_under : ColumnWords → Option (List ℕ) → ColumnSeen
column_under words field = record {
  name = column_name words.named.items (header_of field);
  value_type = column_type (with_header words.named.items (header_of field));
  null_text = null_text words (column_name words.named.items (header_of field));
  used = is_some (column_name words.named.items (header_of field));
}

-- the name of a column, or no bytes if it has none
abbrev pub name_of_column : Column → List ℕ
name_of_column column = header_of (option_map (λ name. name.items) column.name)

-- how the fields of a column become cells
pub record FormSeen : Type 0 where
  pub value_type : ValueType
  pub null_text : Option (List ℕ)
  pub used : Bool

-- that of a column of a form
abbrev pub form_seen : TableColumn → FormSeen
form_seen column = record {
  value_type = column.value_type;
  null_text = option_map (λ text. text.now) column.null_text;
  used = column.used;
}

-- that of a column: its fields become cells if it is used and has a name
abbrev pub form_of : Column → FormSeen
form_of column = record {
  value_type = column.value_type;
  null_text = option_map (λ text. text.items) column.null_text;
  used = column.used && is_some column.name;
}

-- the contents of an assignment without its name
abbrev pub value_said : Assignment → CellSaid
value_said assignment = (assignment.value_type, assignment.bytes.items)

-- the name of an assignment
abbrev pub assigned_name : Assignment → List ℕ
assigned_name assignment = assignment.name.items

-- ---- the values of a record, if each column has a name

-- the names of the columns that are used
abbrev pub used_names : List TableColumn → List (List ℕ) → List (List ℕ)
used_names [] names = []
used_names (column ∷ columns) [] = []
used_names (column ∷ columns) (name ∷ names) =
    if column.used then name ∷ used_names columns names else used_names columns names

-- for each column that is used, the contents of its field under its name
abbrev pub values_under : List TableColumn → List (List ℕ) → Fields → List Said
values_under [] names fields = []
values_under (column ∷ columns) [] fields = []
values_under (column ∷ columns) (name ∷ names) [] = []
values_under (column ∷ columns) (name ∷ names) (field ∷ fields) =
    if column.used
    then (name, field_said column field) ∷ values_under columns names fields
    else values_under columns names fields

-- The assignments of each row are the values of the record of the same number under these names,
-- and then what the cells of each row say under these further names. There are no other rows.
abbrev pub AreRowsUnder : TableForm → (names fixed : List (List ℕ)) → List Fields → List Row
    → Type 0
AreRowsUnder form names fixed [] [] = ⊤
AreRowsUnder form names fixed (fields ∷ records) (row ∷ rows) =
    (map assignment_said row.assignments.items
    ≡ values_under form.columns.now names fields ++ said_under fixed (map cell_said form.fixed.now))
    × AreRowsUnder form names fixed records rows
AreRowsUnder form names fixed [] (row ∷ rows) = ⊥
AreRowsUnder form names fixed (fields ∷ records) [] = ⊥
