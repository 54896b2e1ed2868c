-- The value that is read back after a value was written in binary form.
use Rattle.std.specs.Prelude.{◌≡◌, ℕ, Bool, true, false, ◌==◌, ◌&&◌, List, ◌++◌, Ok, if◌then◌else◌}
use Rattle.mysql_wire_part.specs.declared.column.ColumnType.{ColumnType}
use Rattle.mysql_wire_part.specs.declared.column.ColumnType.TheVariants.{MYSQL_TYPE_NULL, MYSQL_TYPE_BLOB, MYSQL_TYPE_LONGLONG, MYSQL_TYPE_FLOAT, MYSQL_TYPE_DOUBLE, MYSQL_TYPE_DATETIME, MYSQL_TYPE_TIME}
use Rattle.mysql_value_core.specs.declared.value.Value.{Value}
use Rattle.mysql_value_core.specs.declared.value.Value.TheVariants.{NULL, Bytes, Int, UInt, Float, Double, Date, Time}
use Rattle.mysql_value_core.specs.BinaryForm.{binary_form}
use Rattle.mysql_value_core.specs.BinaryReading.{unsigned_integer, read_binary}

-- the type of a column that holds such a value
abbrev pub own_column : Value → ColumnType
own_column NULL = MYSQL_TYPE_NULL
own_column (Bytes bytes) = MYSQL_TYPE_BLOB
own_column (Int number) = MYSQL_TYPE_LONGLONG
own_column (UInt number) = MYSQL_TYPE_LONGLONG
own_column (Float bits) = MYSQL_TYPE_FLOAT
own_column (Double bits) = MYSQL_TYPE_DOUBLE
own_column (Date year month day hour minute second microseconds) = MYSQL_TYPE_DATETIME
own_column (Time negative days hours minutes seconds microseconds) = MYSQL_TYPE_TIME

-- whether that column is unsigned, which is so only for a `UInt`
abbrev pub own_column_is_unsigned : Value → Bool
own_column_is_unsigned (UInt number) = true
own_column_is_unsigned value = false

-- the value itself, with two exceptions: a `UInt` comes back as an `Int` that has the number, if
-- there is one, and a negative time of zero as one that isn't negative
abbrev pub value_read_back : Value → Value
value_read_back (UInt number) = unsigned_integer number
value_read_back (Time negative days hours minutes seconds microseconds) =
    if days == 0 && hours == 0 && minutes == 0 && seconds == 0 && microseconds == 0
    then Time false 0 0 0 0 0
    else Time negative days hours minutes seconds microseconds
value_read_back value = value

-- before any bytes, the written value is read as the value that comes back, and leaves these bytes
abbrev pub ReadsBackInBinary : Value → Type 0
ReadsBackInBinary value =
    (rest : List ℕ)
    → read_binary (own_column value) (own_column_is_unsigned value) (binary_form value ++ rest)
    ≡ Ok (value_read_back value, rest)
