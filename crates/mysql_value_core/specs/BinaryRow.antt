-- Rows in binary form (MySQL client/server protocol, "Binary Protocol Resultset Row"): a header, a
-- bitmap of the columns that are NULL, and the values of the others, one after another.
use Rattle.std.specs.Prelude.{◌≡◌, ◌<◌, ℕ, ◌+◌, ◌/◌, ◌%◌, ◌^◌, ◌==◌, Bool, true, false, not, bit_and, List, [], ◌∷◌, length, slice_index, Option, Some, Result, Ok, Err, if◌then◌else◌}
use Rattle.std.specs.Option.{option_map}
use Rattle.std.specs.Result.{result_map_both}
use Rattle.mysql_wire_part.specs.declared.column.ColumnType.{ColumnType}
use Rattle.mysql_wire_part.specs.declared.column.ColumnFlags.{ColumnFlags}
use Rattle.mysql_wire_part.specs.Column.{is_unsigned}
use Rattle.mysql_wire_part.specs.ParseBuf.{read_refusal}
use Rattle.mysql_wire_part.specs.Reading.{ReadRefusal, Reading, unexpected_eof, read_bytes, map_read, and_then_read}
use Rattle.mysql_value_core.specs.declared.value.Value.{Value}
use Rattle.mysql_value_core.specs.declared.value.Value.TheVariants.{NULL}
use Rattle.mysql_value_core.specs.declared.value.binary_row.BinaryRowError.{BinaryRowError}
use Rattle.mysql_value_core.specs.declared.value.binary_row.BinaryRowError.TheVariants.{BadHeader, Wire}
use Rattle.mysql_value_core.specs.declared.value.binary_row.NullBitmap.{NullBitmap}
use Rattle.mysql_value_core.specs.BinaryReading.{read_binary}

-- a column of a row: its type and its flags
abbrev pub Column : Type 0
Column = ColumnType × ColumnFlags

-- the cause for which no row can be read; out of memory is no such cause
pub data RowRefusal : Type 0 where
  -- this byte begins no row
  bad_header : ℕ → RowRefusal
  -- the header, the bitmap or a value can't be read
  unread : ReadRefusal → RowRefusal

-- the cause for which the call read no row, unless it is out of memory
abbrev pub row_refusal : BinaryRowError → Option RowRefusal
row_refusal (BadHeader header) = Some (bad_header header)
row_refusal (Wire error) = option_map unread (read_refusal error)

-- the first byte of a row
abbrev pub row_header : ℕ
row_header = 0

-- the number of bits of the bitmap before that of the first column; they have no effect
abbrev pub bits_before : ℕ
bits_before = 2

-- the bytes of the bitmap of a row
abbrev pub bitmap_bytes : NullBitmap → List ℕ
bitmap_bytes bitmap = bitmap.0.now

-- the number of bytes of the bitmap: the least number that has a bit for each column
abbrev pub bitmap_len : ℕ → ℕ
bitmap_len count = (bits_before + count + 7) / 8

-- whether a bit is set; bit 0 is the lowest of the first byte, and bit 8 that of the second
abbrev pub bit_is_set : List ℕ → ℕ → Bool
bit_is_set bitmap bit = not (bit_and (slice_index bitmap (bit / 8)) (2 ^ (bit % 8)) == 0)

-- The bitmap says that the column with this index is NULL. The other bits, before and after those
-- of the columns, have no effect.
abbrev pub is_null_column : List ℕ → ℕ → Bool
is_null_column bitmap index = bit_is_set bitmap (bits_before + index)

-- two bitmaps are the same for the first `count` columns
abbrev pub SaySameNulls : ℕ → List ℕ → List ℕ → Type 0
SaySameNulls count bitmap bitmap' =
    (i : ℕ) → i < count → is_null_column bitmap i ≡ is_null_column bitmap' i

-- the value of a column; NULL takes no bytes, whatever the type of its column is
abbrev pub read_column : Bool → Column → List ℕ → Reading Value
read_column true column bytes = Ok (NULL, bytes)
read_column false column bytes = read_binary column.0 (is_unsigned column.1) bytes

-- The values of columns, the first of which has this index; or the refusal of the first value that
-- has one.
abbrev pub read_columns : List ℕ → ℕ → List Column → List ℕ → Reading (List Value)
read_columns bitmap index [] bytes = Ok ([], bytes)
read_columns bitmap index (column ∷ columns) bytes =
    and_then_read (read_column (is_null_column bitmap index) column bytes) (λ value rest.
    map_read (λ values. value ∷ values) (read_columns bitmap (index + 1) columns rest))

-- a refusal to read refuses the row
abbrev pub of_row : {X : Type 0} → Reading X → Result (X × List ℕ) RowRefusal
of_row read = result_map_both (λ read. read) unread read

-- the bitmap of a row of `count` columns, after its header
abbrev pub read_bitmap : ℕ → List ℕ → Result (List ℕ × List ℕ) RowRefusal
read_bitmap count [] = Err (unread unexpected_eof)
read_bitmap count (header ∷ bytes) =
    if header == row_header
    then of_row (read_bytes (bitmap_len count) bytes)
    else Err (bad_header header)

-- the values of a row, after its bitmap
abbrev pub row_behind : List Column → Result (List ℕ × List ℕ) RowRefusal
    → Result (List Value × List ℕ) RowRefusal
row_behind columns (Ok bitmap) = of_row (read_columns bitmap.0 0 columns bitmap.1)
row_behind columns (Err refusal) = Err refusal

-- a row of these columns
abbrev pub read_row : List Column → List ℕ → Result (List Value × List ℕ) RowRefusal
read_row columns bytes = row_behind columns (read_bitmap (length columns) bytes)
