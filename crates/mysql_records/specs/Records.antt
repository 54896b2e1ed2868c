-- Records of text. One format is CSV of RFC 4180, section 2, with LF as another line end and any
-- byte in a field. One is the same with tabs and without quotes. Two are those that
-- `SELECT .. INTO OUTFILE` writes (MySQL Reference Manual, "SELECT ... INTO Statement");
-- `LOAD DATA` reads more than these. Each definition says which texts are one thing, like a rule of
-- the RFC's ABNF. A field is its bytes, or none if it is NULL.
use Rattle.std.specs.Prelude.{◌≡◌, ◌≢◌, ℕ, Bool, true, false, IsTrue, IsFalse, List, [], ◌∷◌, ◌++◌, Option, Some, None}
use Rattle.std.specs.Str.{byte}
use Rattle.mysql_records.specs.Formats.{backslash, carriage_return, doubles_quotes, escape_value, has_escapes, has_quotes, is_special, newline, quote, separator}
use Rattle.mysql_records.specs.declared.format.RecordFormat.{RecordFormat}

-- One byte of a field, in quotes (`true`) or without quotes, and the text that stands for it: the
-- byte itself, a quote written twice, or an escape.
pub data IsPiece (format : RecordFormat) (quoted : Bool) : ℕ → List ℕ → Type 0 where
  raw : (b : ℕ) → IsFalse (is_special format quoted b) → IsPiece format quoted b (b ∷ [])
  doubled : IsTrue (doubles_quotes format quoted) → IsPiece format quoted quote (quote ∷ quote ∷ [])
  escape : (c b : ℕ) → IsTrue (has_escapes format) → escape_value c ≡ Some b
      → IsPiece format quoted b (backslash ∷ c ∷ [])

-- the bytes of a field, each with its text
pub data IsPieces (format : RecordFormat) (quoted : Bool) : List ℕ → List ℕ → Type 0 where
  no_pieces : IsPieces format quoted [] []
  more_pieces : (b : ℕ) (text : List ℕ) (bytes rest : List ℕ) → IsPiece format quoted b text
      → IsPieces format quoted bytes rest → IsPieces format quoted (b ∷ bytes) (text ++ rest)

-- a field without quotes, a field in quotes, or `\N` for NULL
pub data IsField (format : RecordFormat) : Option (List ℕ) → List ℕ → Type 0 where
  bare : (bytes text : List ℕ) → IsPieces format false bytes text
      → IsField format (Some bytes) text
  enclosed : (bytes text : List ℕ) → IsTrue (has_quotes format) → IsPieces format true bytes text
      → IsField format (Some bytes) (quote ∷ text ++ quote ∷ [])
  null : IsTrue (has_escapes format) → IsField format None (backslash ∷ byte "N" ∷ [])

-- one or more fields, with a separator between them
pub data IsRecord (format : RecordFormat) : List (Option (List ℕ)) → List ℕ → Type 0 where
  one_field : (field : Option (List ℕ)) (text : List ℕ) → IsField format field text
      → IsRecord format (field ∷ []) text
  more_fields : (field : Option (List ℕ)) (fields : List (Option (List ℕ))) (text rest : List ℕ)
      → IsField format field text → IsRecord format fields rest
      → IsRecord format (field ∷ fields) (text ++ separator format ∷ rest)

-- LF; or CR LF, unless the format has escapes
pub data IsLineEnd (format : RecordFormat) : List ℕ → Type 0 where
  line_feed : IsLineEnd format (newline ∷ [])
  return_line_feed : IsFalse (has_escapes format)
      → IsLineEnd format (carriage_return ∷ newline ∷ [])

-- The end of a record, and the rest of the text after it: a line end and the rest, or nothing, as
-- after the last record of a text.
pub data EndsRecord (format : RecordFormat) : List ℕ → List ℕ → Type 0 where
  at_line_end : (line_end rest : List ℕ) → IsLineEnd format line_end
      → EndsRecord format (line_end ++ rest) rest
  at_text_end : EndsRecord format [] []

-- a text that can follow a field: a separator and more, or the end of a record
pub data EndsField (format : RecordFormat) : List ℕ → Type 0 where
  at_separator : (rest : List ℕ) → EndsField format (separator format ∷ rest)
  at_record_end : (text rest : List ℕ) → EndsRecord format text rest → EndsField format text

-- the text is a field, followed by this rest, which can follow a field
pub record BeginsWithField (format : RecordFormat) (text : List ℕ) (field : Option (List ℕ))
    (rest : List ℕ) : Type 0 where
  pub front : List ℕ
  pub whole : text ≡ front ++ rest
  pub is_field : IsField format field front
  pub ends : EndsField format rest

-- the text is a record of these fields, its end, and this rest
pub record IsRecordThen (format : RecordFormat) (text : List ℕ) (fields : List (Option (List ℕ)))
    (rest : List ℕ) : Type 0 where
  pub front : List ℕ
  pub back : List ℕ
  pub whole : text ≡ front ++ back
  pub is_record : IsRecord format fields front
  pub ends : EndsRecord format back rest

-- a text that isn't empty begins with a record of these fields, and this rest is after its end
pub record BeginsWithRecord (format : RecordFormat) (text : List ℕ)
    (fields : List (Option (List ℕ))) (rest : List ℕ) : Type 0 where
  pub some : text ≢ []
  pub then : IsRecordThen format text fields rest

-- All records of a text, in order. A line end at the end of the text begins no further record.
pub data IsTable (format : RecordFormat) : List (List (Option (List ℕ))) → List ℕ → Type 0 where
  no_records : IsTable format [] []
  more_records : (fields : List (Option (List ℕ))) (rows : List (List (Option (List ℕ))))
      (text rest : List ℕ) → BeginsWithRecord format text fields rest → IsTable format rows rest
      → IsTable format (fields ∷ rows) text
