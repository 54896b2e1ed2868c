-- The faults of a text, which no record has at their places, and the text that is read before one.
-- At a fault begins the first piece that no record has there (see FaultyPieces): the laws
-- `faults_are_first`, `faulty_pieces_are_first` and `faults_are_unambiguous`.
use Rattle.std.specs.Prelude.{◌≡◌, ◌≢◌, ℕ, ◌<◌, true, false, IsTrue, IsFalse, List, [], ◌∷◌, ◌++◌, length, take, drop, Option, None, ⊤}
use Rattle.std.specs.Str.{byte}
use Rattle.mysql_records.specs.Formats.{backslash, carriage_return, doubles_quotes, escape_value, has_escapes, has_quotes, newline, quote, separator}
use Rattle.mysql_records.specs.Records.{IsPieces, IsField, IsRecord, IsLineEnd, EndsField, BeginsWithRecord, IsTable}
use Rattle.mysql_records.specs.declared.format.RecordFormat.{RecordFormat}
use Rattle.mysql_records.specs.declared.fault.Fault.{Fault}
use Rattle.mysql_records.specs.declared.fault.FaultKind.{FaultKind}
use Rattle.mysql_records.specs.declared.fault.FaultKind.TheVariants.{StrayReturn, StrayQuote, OpenQuote, BehindQuote, UnknownEscape}
use Rattle.mysql_records.specs.declared.fault.RecordError.{RecordError}
use Rattle.mysql_records.specs.declared.fault.RecordError.TheVariants.{Fault as FaultError, Memory}

-- the text begins with no escape: it is empty, or its first byte makes no escape
abbrev pub HasNoEscape : List ℕ → Type 0
HasNoEscape [] = ⊤
HasNoEscape (c ∷ text) = escape_value c ≡ None

-- the byte isn't the first byte of the text
abbrev pub BeginsWithNo : ℕ → List ℕ → Type 0
BeginsWithNo b [] = ⊤
BeginsWithNo b (a ∷ text) = a ≢ b

-- The front of the text from a fault on. After an open quote, there are pieces to the end.
abbrev pub IsFaultAt : RecordFormat → FaultKind → List ℕ → Type 0
IsFaultAt format kind [] = ⊥
IsFaultAt format StrayReturn (a ∷ text) = (a ≡ carriage_return) × BeginsWithNo newline text
IsFaultAt format StrayQuote (a ∷ text) = a ≡ quote
IsFaultAt format OpenQuote (a ∷ text) =
    (a ≡ quote) × (bytes : List ℕ) × IsPieces format true bytes text
IsFaultAt format BehindQuote (a ∷ text) =
    (a ≢ separator format) × (a ≢ newline) × (IsFalse (has_escapes format) → a ≢ carriage_return)
    × (IsTrue (doubles_quotes format true) → a ≢ quote)
IsFaultAt format UnknownEscape (a ∷ text) = (a ≡ backslash) × HasNoEscape text

-- the text doesn't begin with a NULL that ends there
abbrev pub BeginsWithNoNull : RecordFormat → List ℕ → Type 0
BeginsWithNoNull format text =
    (rest : List ℕ) → EndsField format rest → text ≢ backslash ∷ byte "N" ∷ rest

-- The part of a field before a fault of this kind, in a format that has the kind: pieces without
-- quotes, a quote and pieces, or a field in quotes. The text from the fault on is `back`.
pub data IsFieldBefore (format : RecordFormat) (back : List ℕ) : FaultKind → List ℕ → Type 0 where
  return_bare : (bytes text : List ℕ) → IsFalse (has_escapes format)
      → IsPieces format false bytes text → IsFieldBefore format back StrayReturn text
  return_enclosed : (bytes text : List ℕ) → IsFalse (has_escapes format)
      → IsTrue (has_quotes format) → IsPieces format true bytes text
      → IsFieldBefore format back StrayReturn (quote ∷ text ++ quote ∷ [])
  quote_bare : (bytes text : List ℕ) → IsTrue (has_quotes format)
      → IsPieces format false bytes text → text ≢ [] → IsFieldBefore format back StrayQuote text
  open_quote : IsTrue (has_quotes format) → IsFieldBefore format back OpenQuote []
  behind_quote : (bytes text : List ℕ) → IsTrue (has_quotes format)
      → IsPieces format true bytes text
      → IsFieldBefore format back BehindQuote (quote ∷ text ++ quote ∷ [])
  escape_bare : (bytes text : List ℕ) → IsTrue (has_escapes format)
      → IsPieces format false bytes text → BeginsWithNoNull format (text ++ back)
      → IsFieldBefore format back UnknownEscape text
  escape_enclosed : (bytes text : List ℕ) → IsTrue (has_escapes format)
      → IsTrue (has_quotes format) → IsPieces format true bytes text
      → IsFieldBefore format back UnknownEscape (quote ∷ text)

-- the part of a record before a fault: whole fields, each with a separator, and the front of one
pub data IsRecordBefore (format : RecordFormat) (back : List ℕ) (kind : FaultKind)
    : List ℕ → Type 0 where
  in_field : (text : List ℕ) → IsFieldBefore format back kind text
      → IsRecordBefore format back kind text
  behind_field : (field : Option (List ℕ)) (text rest : List ℕ) → IsField format field text
      → IsRecordBefore format back kind rest
      → IsRecordBefore format back kind (text ++ separator format ∷ rest)

-- the part of a table before a fault: whole records, each with a line end, and the front of one
pub data IsTableBefore (format : RecordFormat) (back : List ℕ) (kind : FaultKind)
    : List ℕ → Type 0 where
  in_record : (text : List ℕ) → IsRecordBefore format back kind text
      → IsTableBefore format back kind text
  behind_record : (fields : List (Option (List ℕ))) (text line_end rest : List ℕ)
      → IsRecord format fields text → IsLineEnd format line_end
      → IsTableBefore format back kind rest
      → IsTableBefore format back kind (text ++ line_end ++ rest)

-- the text isn't empty and begins with no record, and this fault is the first in it
pub record IsFaulty (format : RecordFormat) (text : List ℕ) (fault : Fault) : Type 0 where
  pub none : (fields : List (Option (List ℕ))) (rest : List ℕ)
      → BeginsWithRecord format text fields rest → ⊥
  pub within : fault.at < length text
  pub before : IsRecordBefore format (drop fault.at text) fault.kind (take fault.at text)
  pub stands : IsFaultAt format fault.kind (drop fault.at text)

-- a fault of the text; nothing is said about out of memory
abbrev pub IsRefusal : RecordFormat → List ℕ → RecordError → Type 0
IsRefusal format text (FaultError fault) = IsFaulty format text fault
IsRefusal format text (Memory error) = ⊤

-- the text isn't a table, and this fault is the first in it
pub record IsFaultyTable (format : RecordFormat) (text : List ℕ) (fault : Fault) : Type 0 where
  pub none : (rows : List (List (Option (List ℕ)))) → IsTable format rows text → ⊥
  pub within : fault.at < length text
  pub before : IsTableBefore format (drop fault.at text) fault.kind (take fault.at text)
  pub stands : IsFaultAt format fault.kind (drop fault.at text)

-- a fault of the table; nothing is said about out of memory
abbrev pub IsTableRefusal : RecordFormat → List ℕ → RecordError → Type 0
IsTableRefusal format text (FaultError fault) = IsFaultyTable format text fault
IsTableRefusal format text (Memory error) = ⊤
