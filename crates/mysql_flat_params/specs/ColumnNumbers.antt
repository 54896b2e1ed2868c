-- The numbers of column types and the flag of a parameter (MySQL client/server protocol,
-- "Protocol::ColumnType", which is `enum_field_types` in the server's source, and
-- "COM_STMT_EXECUTE"). 243 and 244 of that enum are placeholders, and no value is sent with them.
-- Both are refused.
use Rattle.std.specs.Prelude.{ℕ, Bool, ◌==◌, List, [], ◌∷◌, Option, find, option_map, bit_and}
use Rattle.mysql_wire_part.specs.declared.column.ColumnType.{ColumnType}
use Rattle.mysql_wire_part.specs.declared.column.ColumnType.TheVariants.{MYSQL_TYPE_DECIMAL, MYSQL_TYPE_TINY, MYSQL_TYPE_SHORT, MYSQL_TYPE_LONG, MYSQL_TYPE_FLOAT, MYSQL_TYPE_DOUBLE, MYSQL_TYPE_NULL, MYSQL_TYPE_TIMESTAMP, MYSQL_TYPE_LONGLONG, MYSQL_TYPE_INT24, MYSQL_TYPE_DATE, MYSQL_TYPE_TIME, MYSQL_TYPE_DATETIME, MYSQL_TYPE_YEAR, MYSQL_TYPE_NEWDATE, MYSQL_TYPE_VARCHAR, MYSQL_TYPE_BIT, MYSQL_TYPE_TIMESTAMP2, MYSQL_TYPE_DATETIME2, MYSQL_TYPE_TIME2, MYSQL_TYPE_TYPED_ARRAY, MYSQL_TYPE_VECTOR, MYSQL_TYPE_UNKNOWN, MYSQL_TYPE_JSON, MYSQL_TYPE_NEWDECIMAL, MYSQL_TYPE_ENUM, MYSQL_TYPE_SET, MYSQL_TYPE_TINY_BLOB, MYSQL_TYPE_MEDIUM_BLOB, MYSQL_TYPE_LONG_BLOB, MYSQL_TYPE_BLOB, MYSQL_TYPE_VAR_STRING, MYSQL_TYPE_STRING, MYSQL_TYPE_GEOMETRY}

-- each type and its number
abbrev pub column_numbers : List (ℕ × ColumnType)
column_numbers =
    (0, MYSQL_TYPE_DECIMAL) ∷ (1, MYSQL_TYPE_TINY) ∷ (2, MYSQL_TYPE_SHORT) ∷ (3, MYSQL_TYPE_LONG)
    ∷ (4, MYSQL_TYPE_FLOAT) ∷ (5, MYSQL_TYPE_DOUBLE) ∷ (6, MYSQL_TYPE_NULL)
    ∷ (7, MYSQL_TYPE_TIMESTAMP) ∷ (8, MYSQL_TYPE_LONGLONG) ∷ (9, MYSQL_TYPE_INT24)
    ∷ (10, MYSQL_TYPE_DATE) ∷ (11, MYSQL_TYPE_TIME) ∷ (12, MYSQL_TYPE_DATETIME)
    ∷ (13, MYSQL_TYPE_YEAR) ∷ (14, MYSQL_TYPE_NEWDATE) ∷ (15, MYSQL_TYPE_VARCHAR)
    ∷ (16, MYSQL_TYPE_BIT) ∷ (17, MYSQL_TYPE_TIMESTAMP2) ∷ (18, MYSQL_TYPE_DATETIME2)
    ∷ (19, MYSQL_TYPE_TIME2) ∷ (20, MYSQL_TYPE_TYPED_ARRAY) ∷ (242, MYSQL_TYPE_VECTOR)
    ∷ (243, MYSQL_TYPE_UNKNOWN) ∷ (245, MYSQL_TYPE_JSON) ∷ (246, MYSQL_TYPE_NEWDECIMAL)
    ∷ (247, MYSQL_TYPE_ENUM) ∷ (248, MYSQL_TYPE_SET) ∷ (249, MYSQL_TYPE_TINY_BLOB)
    ∷ (250, MYSQL_TYPE_MEDIUM_BLOB) ∷ (251, MYSQL_TYPE_LONG_BLOB) ∷ (252, MYSQL_TYPE_BLOB)
    ∷ (253, MYSQL_TYPE_VAR_STRING) ∷ (254, MYSQL_TYPE_STRING) ∷ (255, MYSQL_TYPE_GEOMETRY) ∷ []

-- the type that has this number, if any
abbrev pub column_type : ℕ → Option ColumnType
column_type number =
    option_map (λ entry. entry.1) (find (λ entry. entry.0 == number) column_numbers)

-- the flag of a parameter whose whole numbers have no sign
abbrev pub unsigned_parameter : ℕ
unsigned_parameter = 128

-- whether the whole numbers of a parameter with these flags have no sign
abbrev pub is_unsigned_parameter : ℕ → Bool
is_unsigned_parameter flags = bit_and flags unsigned_parameter == unsigned_parameter
