-- A row in binary form reads back, before any bytes.
use Rattle.std.proofs.Common.{◌≡◌, ◌∙◌, ap, sym, subst, refl, ℕ, ◌+◌, Bool, true, false, List, [], ◌∷◌, ◌++◌, length, append_assoc}
use Rattle.std.specs.Prelude.{Ok, map}
use Rattle.std.specs.List.{flat_map}
use Rattle.std.proofs.lemmas.List.Concat.{flat_map-cons}
use Rattle.mysql_wire_part.specs.Column.{is_unsigned}
use Rattle.mysql_wire_part.specs.Reading.{map_read, and_then_read}
use Rattle.mysql_wire_part.proofs.ReadingLemmas.{read_bytes-append}
use Rattle.mysql_value_core.specs.declared.value.Value.{Value}
use Rattle.mysql_value_core.specs.Value.{FieldsInRange}
use Rattle.mysql_value_core.specs.BinaryForm.{binary_form}
use Rattle.mysql_value_core.specs.BinaryReading.{read_binary}
use Rattle.mysql_value_core.specs.BinaryReadBack.{own_column, value_read_back}
use Rattle.mysql_value_core.specs.BinaryRow.{Column, bitmap_len, is_null_column, of_row, read_column, read_columns, row_behind}
use Rattle.mysql_value_core.specs.BinaryRowReadBack.{IsValueOf, AreValuesOf, RowReadsBack}
use Rattle.mysql_value_core.proofs.BinaryLemmas.{reads_back_in_binary}

-- one value
column_reads_back : (null : Bool) (column : Column) (value : Value) (rest : List ℕ)
    → IsValueOf null column value → FieldsInRange value
    → read_column null column (binary_form value ++ rest) ≡ Ok (value_read_back value, rest)
column_reads_back true column value rest is_null fits =
    subst (λ v. read_column true column (binary_form v ++ rest) ≡ Ok (value_read_back v, rest))
    (sym is_null) refl
column_reads_back false column value rest own fits =
    ap (λ type. read_binary type (is_unsigned column.1) (binary_form value ++ rest)) own.0
    ∙ ap (λ unsigned. read_binary (own_column value) unsigned (binary_form value ++ rest)) own.1
    ∙ reads_back_in_binary value fits rest

-- the values of columns
columns_read_back : (bitmap : List ℕ) (index : ℕ) (columns : List Column) (values : List Value)
    (rest : List ℕ) → AreValuesOf bitmap index columns values
    → read_columns bitmap index columns (flat_map binary_form values ++ rest)
    ≡ Ok (map value_read_back values, rest)
columns_read_back bitmap index [] [] rest own = refl
columns_read_back bitmap index [] (value ∷ values) rest own = absurd own
columns_read_back bitmap index (column ∷ columns) [] rest own = absurd own
columns_read_back bitmap index (column ∷ columns) (value ∷ values) rest own =
    let after = flat_map binary_form values ++ rest in
    let bytes : flat_map binary_form (value ∷ values) ++ rest ≡ binary_form value ++ after =
    ap (λ form. form ++ rest) (flat_map-cons binary_form value values)
    ∙ append_assoc (binary_form value) (flat_map binary_form values) rest in
    ap (read_columns bitmap index (column ∷ columns)) bytes
    ∙ ap (λ read. and_then_read read (λ v left. map_read (λ vs. v ∷ vs)
    (read_columns bitmap (index + 1) columns left)))
    (column_reads_back (is_null_column bitmap index) column value after own.0 own.1)
    ∙ ap (map_read (λ vs. value_read_back value ∷ vs))
    (columns_read_back bitmap (index + 1) columns values rest own.2)

pub row_reads_back : (columns : List Column) (bitmap : List ℕ) (values : List Value)
    → RowReadsBack columns bitmap values
row_reads_back columns bitmap values long own rest =
    let body = flat_map binary_form values ++ rest in
    ap (λ read. row_behind columns (of_row read))
    (read_bytes-append (bitmap_len (length columns)) bitmap body long)
    ∙ ap of_row (columns_read_back bitmap 0 columns values rest own)
