-- The values that are read back from a row that was written in binary form.
use Rattle.std.specs.Prelude.{◌≡◌, ℕ, ◌+◌, Bool, true, false, List, [], ◌∷◌, ◌++◌, length, map, Ok, ⊤}
use Rattle.std.specs.List.{flat_map}
use Rattle.mysql_wire_part.specs.Column.{is_unsigned}
use Rattle.mysql_value_core.specs.declared.value.Value.{Value}
use Rattle.mysql_value_core.specs.declared.value.Value.TheVariants.{NULL}
use Rattle.mysql_value_core.specs.Value.{FieldsInRange}
use Rattle.mysql_value_core.specs.BinaryForm.{binary_form}
use Rattle.mysql_value_core.specs.BinaryReadBack.{own_column, own_column_is_unsigned, value_read_back}
use Rattle.mysql_value_core.specs.BinaryRow.{Column, bitmap_len, is_null_column, read_row, row_header}

-- if the bit is set, the value is NULL, in any column; or else the column is of the value's kind
abbrev pub IsValueOf : Bool → Column → Value → Type 0
IsValueOf true column value = value ≡ NULL
IsValueOf false column value =
    (column.0 ≡ own_column value) × (is_unsigned column.1 ≡ own_column_is_unsigned value)

-- Each value is one of its column, by the column's bit, and its fields are in their ranges. The
-- first column has this index.
abbrev pub AreValuesOf : List ℕ → ℕ → List Column → List Value → Type 0
AreValuesOf bitmap index [] [] = ⊤
AreValuesOf bitmap index (column ∷ columns) (value ∷ values) =
    IsValueOf (is_null_column bitmap index) column value × FieldsInRange value
    × AreValuesOf bitmap (index + 1) columns values
AreValuesOf bitmap index columns values = ⊥

-- A row is written as its header, its bitmap and the binary forms of its values. Before any bytes,
-- it is read as the values that come back, and these bytes are left.
abbrev pub RowReadsBack : List Column → List ℕ → List Value → Type 0
RowReadsBack columns bitmap values =
    length bitmap ≡ bitmap_len (length columns) → AreValuesOf bitmap 0 columns values
    → (rest : List ℕ)
    → read_row columns (row_header ∷ (bitmap ++ (flat_map binary_form values ++ rest)))
    ≡ Ok (map value_read_back values, rest)
