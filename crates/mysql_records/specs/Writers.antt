-- Writers that are in use, and the bytes that each can write: of CSV and TSV; servers, by
-- `SELECT .. INTO OUTFILE` with escapes, except for MariaDB's columns of the type BIT, whose bytes
-- it writes as they are; and clients, by `mysql --batch`, which writes the names of columns as they
-- are in its first line (sources: see WrittenRecords).
use Rattle.std.specs.Prelude.{ℕ, Bool, true, false, ◌==◌, ◌≢◌, List, [], ◌∷◌, ◌++◌, map, codes, Option, Some, None, if◌then◌else◌, IsFalse, All}
use Rattle.std.specs.List.{list_any}
use Rattle.std.specs.Str.{byte}
use Rattle.mysql_records.specs.Formats.{is_special, newline}
use Rattle.mysql_records.specs.WrittenRecords.{Writer, Cell, written_table}
use Rattle.mysql_records.specs.declared.format.RecordFormat.{RecordFormat}
use Rattle.mysql_records.specs.declared.format.RecordFormat.TheVariants.{Csv, Tsv, MysqlCsv, MysqlTsv}

-- the byte after a backslash: `0` for a byte 0, and each byte of a list for itself
abbrev pub escape_among : List ℕ → ℕ → Option ℕ
escape_among bytes b =
    if b == 0 then Some (byte "0") else (
    if list_any (λ special. b == special) bytes then Some b else None)

-- The escapes of a server, also of quotes in quotes and of separators without. CSV and TSV have
-- none.
abbrev pub usual_escape : RecordFormat → Bool → ℕ → Option ℕ
usual_escape Csv quoted = λ b. None
usual_escape Tsv quoted = λ b. None
usual_escape MysqlCsv true = escape_among (codes "\\\n\"")
usual_escape MysqlCsv false = escape_among (codes "\\\n,")
usual_escape MysqlTsv quoted = escape_among (codes "\\\n\t")

-- a writer of CSV or TSV, or a server in the MySQL formats
abbrev pub usual_writer : RecordFormat → List ℕ → Bool → Writer
usual_writer format line_end ends_last = record {
  format = format;
  line_end = line_end;
  ends_last = ends_last;
  escape = usual_escape format;
}

-- The bytes that it can't write in a field, in quotes or without quotes. A server with
-- `OPTIONALLY ENCLOSED BY` doesn't escape a quote in a field without quotes.
abbrev pub unwritable_bytes : RecordFormat → Bool → List ℕ
unwritable_bytes Csv true = []
unwritable_bytes Csv false = codes "\",\r\n"
unwritable_bytes Tsv quoted = codes "\t\r\n"
unwritable_bytes MysqlCsv true = []
unwritable_bytes MysqlCsv false = codes "\""
unwritable_bytes MysqlTsv quoted = []

-- a client escapes with letters
abbrev pub client_escape : Bool → ℕ → Option ℕ
client_escape quoted b =
    if b == newline then Some (byte "n") else (
    if b == byte "\t" then Some (byte "t") else escape_among (codes "\\") b)

-- The rows of `mysql --batch`. It writes NULL as these four letters, so as a field that isn't NULL.
abbrev pub client_writer : Writer
client_writer =
    record { format = MysqlTsv; line_end = newline ∷ []; ends_last = true; escape = client_escape }

-- the first line of `mysql --batch`, in which no byte is escaped
abbrev pub names_writer : Writer
names_writer = record {
  format = MysqlTsv;
  line_end = newline ∷ [];
  ends_last = true;
  escape = λ quoted b. None;
}

-- the fields of names
abbrev pub name_fields : List (List ℕ) → List (Option (List ℕ))
name_fields names = map Some names

-- names to write
abbrev pub name_cells : List (List ℕ) → List Cell
name_cells names = map (λ name. record { field = Some name; quoted = false }) names

-- all that `mysql --batch` writes: the line of the names, and the rows
abbrev pub client_table : List (List ℕ) → List (List Cell) → List ℕ
client_table names rows =
    written_table names_writer (name_cells names ∷ []) ++ written_table client_writer rows

-- one name or more, and no tab, newline and backslash in them
abbrev pub ArePlainNames : List (List ℕ) → Type 0
ArePlainNames names =
    (names ≢ []) × All (λ name. IsFalse (list_any (is_special MysqlTsv false) name)) names
