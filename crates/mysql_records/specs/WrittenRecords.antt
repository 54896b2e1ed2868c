-- Records as writers write them. Some follow RFC 4180, section 2, with LF or CR LF, and put quotes
-- around each field, or only where they are needed. Servers write by `SELECT .. INTO OUTFILE`
-- (MySQL Reference Manual, "SELECT ... INTO Statement"), and clients by `mysql --batch` ("mysql
-- Client Options"). Writers has the choices of each of these.
use Rattle.std.specs.Prelude.{ℕ, Bool, true, false, ◌==◌, ◌≡◌, ◌≢◌, List, [], ◌∷◌, ◌++◌, map, codes, Option, Some, None, if◌then◌else◌, IsTrue, IsFalse, All}
use Rattle.std.specs.List.{flat_map}
use Rattle.mysql_records.specs.Formats.{backslash, doubles_quotes, escape_value, has_escapes, has_quotes, is_special, quote, separator}
use Rattle.mysql_records.specs.Records.{IsLineEnd}
use Rattle.mysql_records.specs.declared.format.RecordFormat.{RecordFormat}

-- The choices of a writer: its format, its line end, whether the last record also has a line end,
-- and the byte that it writes after a backslash in place of a byte, in quotes (`true`) or without.
pub record Writer : Type 0 where
  pub format : RecordFormat
  pub line_end : List ℕ
  pub ends_last : Bool
  pub escape : Bool → ℕ → Option ℕ

-- a field to write, and whether it is written in quotes
pub record Cell : Type 0 where
  pub field : Option (List ℕ)
  pub quoted : Bool

-- a byte with a quote written twice
abbrev pub doubled_quote : ℕ → List ℕ
doubled_quote b = if b == quote then quote ∷ quote ∷ [] else b ∷ []

-- a byte, or a backslash and the byte that is written for it
abbrev pub escaped : Option ℕ → ℕ → List ℕ
escaped None b = b ∷ []
escaped (Some c) b = backslash ∷ c ∷ []

-- a byte of a field, in quotes or without quotes
abbrev pub written_byte : Writer → Bool → ℕ → List ℕ
written_byte writer quoted b =
    if doubles_quotes writer.format quoted then doubled_quote b
    else escaped (writer.escape quoted b) b

-- a field, in quotes or without quotes; NULL is `\N`
abbrev pub written_field : Writer → Bool → Option (List ℕ) → List ℕ
written_field writer quoted None = codes "\\N"
written_field writer true (Some bytes) =
    quote ∷ flat_map (written_byte writer true) bytes ++ quote ∷ []
written_field writer false (Some bytes) = flat_map (written_byte writer false) bytes

-- a record without its end: its fields with a separator between them
abbrev pub written_record : Writer → List Cell → List ℕ
written_record writer [] = []
written_record writer (cell ∷ []) = written_field writer cell.quoted cell.field
written_record writer (cell ∷ next ∷ cells) =
    written_field writer cell.quoted cell.field
    ++ separator writer.format ∷ written_record writer (next ∷ cells)

-- a table: its records, each with a line end; the last one has it only if the writer chooses so
abbrev pub written_table : Writer → List (List Cell) → List ℕ
written_table writer [] = []
written_table writer (cells ∷ []) =
    written_record writer cells ++ (if writer.ends_last then writer.line_end else [])
written_table writer (cells ∷ next ∷ rows) =
    written_record writer cells ++ writer.line_end ++ written_table writer (next ∷ rows)

-- the fields of a table
abbrev pub fields_of : List (List Cell) → List (List (Option (List ℕ)))
fields_of rows = map (λ cells. map (λ cell. cell.field) cells) rows

-- the choices fit the format: its line end, and escapes only if it has them, each for its byte
pub record IsWriter (writer : Writer) : Type 0 where
  pub line_end : IsLineEnd writer.format writer.line_end
  pub escape : (quoted : Bool) (b c : ℕ) → writer.escape quoted b ≡ Some c
      → IsTrue (has_escapes writer.format) × (escape_value c ≡ Some b)

-- a byte can be written: if it doesn't stand for itself, it isn't written as it is
abbrev pub IsWritableByte : Writer → Bool → ℕ → Type 0
IsWritableByte writer quoted b =
    IsTrue (is_special writer.format quoted b) → written_byte writer quoted b ≢ b ∷ []

-- a field can be written: NULL if the format has escapes, and in quotes if the format has quotes
abbrev pub IsWritable : Writer → Bool → Option (List ℕ) → Type 0
IsWritable writer quoted None = IsTrue (has_escapes writer.format)
IsWritable writer true (Some bytes) =
    IsTrue (has_quotes writer.format) × All (IsWritableByte writer true) bytes
IsWritable writer false (Some bytes) = All (IsWritableByte writer false) bytes

-- A table can be written: each record has a field, each field can be written, and the last record
-- has a byte if no line end follows it, since an empty text is no record.
pub record IsWritableTable (writer : Writer) (rows : List (List Cell)) : Type 0 where
  pub some : All (λ cells. cells ≢ []) rows
  pub fields : All (λ cells. All (λ cell. IsWritable writer cell.quoted cell.field) cells) rows
  pub last : IsFalse writer.ends_last → (before : List (List Cell)) (cells : List Cell)
      → rows ≡ before ++ cells ∷ [] → written_record writer cells ≢ []
