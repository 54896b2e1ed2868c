-- The bytes of the formats of records: RFC 4180, section 2, with LF as another line end; MySQL
-- Reference Manual, "SELECT ... INTO Statement", and "LOAD DATA Statement" for escapes.
use Rattle.std.specs.Prelude.{ℕ, Bool, true, false, ◌==◌, List, codes, Option, Some, None, if◌then◌else◌}
use Rattle.std.specs.List.{list_any}
use Rattle.std.specs.Str.{byte}
use Rattle.mysql_records.specs.declared.format.RecordFormat.{RecordFormat}
use Rattle.mysql_records.specs.declared.format.RecordFormat.TheVariants.{Csv, Tsv, MysqlCsv, MysqlTsv}

-- b'\n'
abbrev pub newline : ℕ
newline = 10

-- b'\r'
abbrev pub carriage_return : ℕ
carriage_return = 13

-- b'"'
abbrev pub quote : ℕ
quote = 34

-- b'\\'
abbrev pub backslash : ℕ
backslash = 92

-- the byte between the fields of a record
abbrev pub separator : RecordFormat → ℕ
separator Csv = byte ","
separator Tsv = byte "\t"
separator MysqlCsv = byte ","
separator MysqlTsv = byte "\t"

-- fields can be in quotes
abbrev pub has_quotes : RecordFormat → Bool
has_quotes Csv = true
has_quotes Tsv = false
has_quotes MysqlCsv = true
has_quotes MysqlTsv = false

-- a backslash escapes the byte after it, and a line ends only at a newline
abbrev pub has_escapes : RecordFormat → Bool
has_escapes Csv = false
has_escapes Tsv = false
has_escapes MysqlCsv = true
has_escapes MysqlTsv = true

-- two quotes stand for one in a field in quotes
abbrev pub doubles_quotes : RecordFormat → Bool → Bool
doubles_quotes Csv quoted = quoted
doubles_quotes Tsv quoted = false
doubles_quotes MysqlCsv quoted = false
doubles_quotes MysqlTsv quoted = false

-- the bytes that don't stand for themselves in a field, in quotes (`true`) or without quotes
abbrev pub special_bytes : RecordFormat → Bool → List ℕ
special_bytes Csv true = codes "\""
special_bytes Csv false = codes "\",\r\n"
special_bytes Tsv quoted = codes "\t\r\n"
special_bytes MysqlCsv true = codes "\"\\"
special_bytes MysqlCsv false = codes "\"\\,\n"
special_bytes MysqlTsv quoted = codes "\\\t\n"

-- a byte is one of these bytes
abbrev pub is_special : RecordFormat → Bool → ℕ → Bool
is_special format quoted b = list_any (λ special. b == special) (special_bytes format quoted)

-- The byte for which a backslash and this byte stand. Letters stand for control characters. Bytes
-- that separate, end or enclose fields in some form of the statement, or escape, stand for
-- themselves.
abbrev pub escape_value : ℕ → Option ℕ
escape_value c =
    if c == byte "0" then Some 0 else (
    if c == byte "b" then Some 8 else (
    if c == byte "n" then Some newline else (
    if c == byte "r" then Some carriage_return else (
    if c == byte "t" then Some (byte "\t") else (
    if c == byte "Z" then Some 26 else (
    if list_any (λ b. c == b) (codes "\\\"',\t\r\n") then Some c else None))))))
