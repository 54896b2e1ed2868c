-- Values read from their binary form, by the type of their column and by its unsigned flag (MySQL
-- client/server protocol, "Binary Protocol Value").
use Rattle.std.specs.Prelude.{ℕ, ◌^◌, nat_lt, Bool, true, false, ◌==◌, List, [], ◌∷◌, Ok, Err, pos, if◌then◌else◌}
use Rattle.byteorder.specs.Endian.{little_number, twos_complement}
use Rattle.mysql_wire_part.specs.Reading.{Reading, unsupported_column, read_bytes, read_number, map_read, and_then_read}
use Rattle.mysql_wire_part.specs.Lenenc.{read_lenenc}
use Rattle.mysql_wire_part.specs.declared.column.ColumnType.{ColumnType}
use Rattle.mysql_wire_part.specs.declared.column.ColumnType.TheVariants.{MYSQL_TYPE_DECIMAL, MYSQL_TYPE_TINY, MYSQL_TYPE_SHORT, MYSQL_TYPE_LONG, MYSQL_TYPE_FLOAT, MYSQL_TYPE_DOUBLE, MYSQL_TYPE_NULL, MYSQL_TYPE_TIMESTAMP, MYSQL_TYPE_LONGLONG, MYSQL_TYPE_INT24, MYSQL_TYPE_DATE, MYSQL_TYPE_TIME, MYSQL_TYPE_DATETIME, MYSQL_TYPE_YEAR, MYSQL_TYPE_NEWDATE, MYSQL_TYPE_VARCHAR, MYSQL_TYPE_BIT, MYSQL_TYPE_TIMESTAMP2, MYSQL_TYPE_DATETIME2, MYSQL_TYPE_TIME2, MYSQL_TYPE_TYPED_ARRAY, MYSQL_TYPE_VECTOR, MYSQL_TYPE_UNKNOWN, MYSQL_TYPE_JSON, MYSQL_TYPE_NEWDECIMAL, MYSQL_TYPE_ENUM, MYSQL_TYPE_SET, MYSQL_TYPE_TINY_BLOB, MYSQL_TYPE_MEDIUM_BLOB, MYSQL_TYPE_LONG_BLOB, MYSQL_TYPE_BLOB, MYSQL_TYPE_VAR_STRING, MYSQL_TYPE_STRING, MYSQL_TYPE_GEOMETRY}
use Rattle.mysql_value_core.specs.declared.value.Value.{Value}
use Rattle.mysql_value_core.specs.declared.value.Value.TheVariants.{NULL, Bytes, Int, UInt, Float, Double, Date, Time}

-- the value of a whole number without a sign: an `Int` if it has the number, or else a `UInt`
abbrev pub unsigned_integer : ℕ → Value
unsigned_integer number = if nat_lt number (2 ^ 63) then Int (pos number) else UInt number

-- the value of a whole number of `width` bytes
abbrev pub integer_value : ℕ → Bool → ℕ → Value
integer_value width true number = unsigned_integer number
integer_value width false number = Int (twos_complement width number)

-- The date of these bytes. It has its day if there are at least 4 bytes, its clock if there are at
-- least 7, and its microseconds if there are exactly 11. Missing fields are 0.
abbrev pub date_value : List ℕ → Value
date_value (y0 ∷ y1 ∷ month ∷ day ∷ hour ∷ minute ∷ second ∷ u0 ∷ u1 ∷ u2 ∷ u3 ∷ []) =
    Date (little_number 2 (y0 ∷ y1 ∷ [])) month day hour minute second
    (little_number 4 (u0 ∷ u1 ∷ u2 ∷ u3 ∷ []))
date_value (y0 ∷ y1 ∷ month ∷ day ∷ hour ∷ minute ∷ second ∷ more) =
    Date (little_number 2 (y0 ∷ y1 ∷ [])) month day hour minute second 0
date_value (y0 ∷ y1 ∷ month ∷ day ∷ more) =
    Date (little_number 2 (y0 ∷ y1 ∷ [])) month day 0 0 0 0
date_value fields = Date 0 0 0 0 0 0 0

-- The time of these bytes. It has its microseconds if there are exactly 12 bytes, and its other
-- fields if there are at least 8. Missing fields are 0. It is negative only if the sign is 1.
abbrev pub time_value : List ℕ → Value
time_value (sign ∷ d0 ∷ d1 ∷ d2 ∷ d3 ∷ hours ∷ minutes ∷ seconds ∷ u0 ∷ u1 ∷ u2 ∷ u3 ∷ []) =
    Time (sign == 1) (little_number 4 (d0 ∷ d1 ∷ d2 ∷ d3 ∷ [])) hours minutes seconds
    (little_number 4 (u0 ∷ u1 ∷ u2 ∷ u3 ∷ []))
time_value (sign ∷ d0 ∷ d1 ∷ d2 ∷ d3 ∷ hours ∷ minutes ∷ seconds ∷ more) =
    Time (sign == 1) (little_number 4 (d0 ∷ d1 ∷ d2 ∷ d3 ∷ [])) hours minutes seconds 0
time_value fields = Time false 0 0 0 0 0

-- a length byte, and as many of the next bytes as it says, all of which are read
abbrev pub read_counted : List ℕ → Reading (List ℕ)
read_counted bytes = and_then_read (read_number 1 bytes) read_bytes

-- bytes are read as a length-encoded string
abbrev pub read_bytes_value : List ℕ → Reading Value
read_bytes_value bytes = map_read Bytes (read_lenenc bytes)

-- a whole number is read least byte first
abbrev pub read_integer : ℕ → Bool → List ℕ → Reading Value
read_integer width unsigned bytes =
    map_read (integer_value width unsigned) (read_number width bytes)

-- a date is read as its length and its bytes
abbrev pub read_date : List ℕ → Reading Value
read_date bytes = map_read date_value (read_counted bytes)

-- a time is read as its length and its bytes
abbrev pub read_time : List ℕ → Reading Value
read_time bytes = map_read time_value (read_counted bytes)

-- a value of each column type; values of five types can't be read
abbrev pub read_binary : ColumnType → Bool → List ℕ → Reading Value
read_binary MYSQL_TYPE_STRING unsigned bytes = read_bytes_value bytes
read_binary MYSQL_TYPE_VAR_STRING unsigned bytes = read_bytes_value bytes
read_binary MYSQL_TYPE_BLOB unsigned bytes = read_bytes_value bytes
read_binary MYSQL_TYPE_TINY_BLOB unsigned bytes = read_bytes_value bytes
read_binary MYSQL_TYPE_MEDIUM_BLOB unsigned bytes = read_bytes_value bytes
read_binary MYSQL_TYPE_LONG_BLOB unsigned bytes = read_bytes_value bytes
read_binary MYSQL_TYPE_SET unsigned bytes = read_bytes_value bytes
read_binary MYSQL_TYPE_ENUM unsigned bytes = read_bytes_value bytes
read_binary MYSQL_TYPE_DECIMAL unsigned bytes = read_bytes_value bytes
read_binary MYSQL_TYPE_VARCHAR unsigned bytes = read_bytes_value bytes
read_binary MYSQL_TYPE_BIT unsigned bytes = read_bytes_value bytes
read_binary MYSQL_TYPE_NEWDECIMAL unsigned bytes = read_bytes_value bytes
read_binary MYSQL_TYPE_GEOMETRY unsigned bytes = read_bytes_value bytes
read_binary MYSQL_TYPE_VECTOR unsigned bytes = read_bytes_value bytes
read_binary MYSQL_TYPE_JSON unsigned bytes = read_bytes_value bytes
read_binary MYSQL_TYPE_TINY unsigned bytes = read_integer 1 unsigned bytes
read_binary MYSQL_TYPE_SHORT unsigned bytes = read_integer 2 unsigned bytes
read_binary MYSQL_TYPE_YEAR unsigned bytes = read_integer 2 unsigned bytes
read_binary MYSQL_TYPE_LONG unsigned bytes = read_integer 4 unsigned bytes
read_binary MYSQL_TYPE_INT24 unsigned bytes = read_integer 4 unsigned bytes
read_binary MYSQL_TYPE_LONGLONG unsigned bytes = read_integer 8 unsigned bytes
read_binary MYSQL_TYPE_FLOAT unsigned bytes = map_read Float (read_number 4 bytes)
read_binary MYSQL_TYPE_DOUBLE unsigned bytes = map_read Double (read_number 8 bytes)
read_binary MYSQL_TYPE_TIMESTAMP unsigned bytes = read_date bytes
read_binary MYSQL_TYPE_DATE unsigned bytes = read_date bytes
read_binary MYSQL_TYPE_NEWDATE unsigned bytes = read_date bytes
read_binary MYSQL_TYPE_DATETIME unsigned bytes = read_date bytes
read_binary MYSQL_TYPE_TIME unsigned bytes = read_time bytes
read_binary MYSQL_TYPE_NULL unsigned bytes = Ok (NULL, bytes)
read_binary MYSQL_TYPE_TIMESTAMP2 unsigned bytes = Err (unsupported_column MYSQL_TYPE_TIMESTAMP2)
read_binary MYSQL_TYPE_DATETIME2 unsigned bytes = Err (unsupported_column MYSQL_TYPE_DATETIME2)
read_binary MYSQL_TYPE_TIME2 unsigned bytes = Err (unsupported_column MYSQL_TYPE_TIME2)
read_binary MYSQL_TYPE_TYPED_ARRAY unsigned bytes = Err (unsupported_column MYSQL_TYPE_TYPED_ARRAY)
read_binary MYSQL_TYPE_UNKNOWN unsigned bytes = Err (unsupported_column MYSQL_TYPE_UNKNOWN)
