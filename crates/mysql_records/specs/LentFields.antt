-- Which fields of a record are copied, and when memory is asked for while a record is read.
use Rattle.std.specs.Prelude.{◌≡◌, ℕ, ◌≤◌, ◌⊎◌, Bool, true, false, IsTrue, List, [], ◌∷◌, ◌++◌, length, Option, ⊤}
use Rattle.mysql_records.specs.Formats.{has_quotes, quote, separator}
use Rattle.mysql_records.specs.Records.{IsPiece, IsPieces, IsField, BeginsWithField}
use Rattle.mysql_records.specs.Seen.{lent_fields_seen}
use Rattle.mysql_records.specs.declared.fault.RecordError.{RecordError}
use Rattle.mysql_records.specs.declared.fault.RecordError.TheVariants.{Fault as FaultError, Memory}
use Rattle.mysql_records.specs.declared.format.RecordFormat.{RecordFormat}
use Rattle.mysql_records.specs.declared.lent.LentField.{LentField}
use Rattle.mysql_records.specs.declared.lent.LentField.TheVariants as lent

-- the text begins with pieces, one of which has two bytes: a quote twice, or an escape
pub record HasPair (format : RecordFormat) (quoted : Bool) (text : List ℕ) : Type 0 where
  pub bytes : List ℕ
  pub front : List ℕ
  pub byte : ℕ
  pub pair : List ℕ
  pub rest : List ℕ
  pub whole : text ≡ front ++ pair ++ rest
  pub are_pieces : IsPieces format quoted bytes front
  pub is_piece : IsPiece format quoted byte pair
  pub two : length pair ≡ 2

-- the field at the front of the text is copied: one of its pieces has two bytes
pub data IsCopied (format : RecordFormat) : List ℕ → Type 0 where
  copied_bare : (text : List ℕ) → HasPair format false text → IsCopied format text
  copied_enclosed : (text : List ℕ) → IsTrue (has_quotes format) → HasPair format true text
      → IsCopied format (quote ∷ text)

-- how the field at the front of the text is held: lent, unless it is copied
abbrev pub IsHeld : RecordFormat → List ℕ → LentField → Type 0
IsHeld format text lent.Null = ⊤
IsHeld format text (lent.Lent bytes) = IsCopied format text → ⊥
IsHeld format text (lent.Made bytes) = IsCopied format text

-- the text is these fields, each with a separator after it, and then this rest
pub data AreFieldsBefore (format : RecordFormat) (rest : List ℕ)
    : List (Option (List ℕ)) → List ℕ → Type 0 where
  none_before : AreFieldsBefore format rest [] rest
  more_before : (field : Option (List ℕ)) (fields : List (Option (List ℕ))) (text more : List ℕ)
      → IsField format field text → AreFieldsBefore format rest fields more
      → AreFieldsBefore format rest (field ∷ fields) (text ++ separator format ∷ more)

-- each of the fields is lent, unless the field at its place in the text is copied
abbrev pub AreHeld : RecordFormat → List ℕ → List LentField → Type 0
AreHeld format text fields =
    (before : List LentField) (field : LentField) (after : List LentField)
    → fields ≡ before ++ field ∷ after
    → (rest : List ℕ) × AreFieldsBefore format rest (lent_fields_seen before) text
    × IsHeld format rest field

-- the text begins with a field
abbrev pub BeginsWithSomeField : RecordFormat → List ℕ → Type 0
BeginsWithSomeField format text =
    (field : Option (List ℕ)) × (rest : List ℕ) × BeginsWithField format text field rest

-- The field at the front of the text asks for memory, if it follows `count` fields in a vector with
-- this room: it is copied, or the vector has no room for it.
abbrev pub AsksForMemory : RecordFormat → ℕ → ℕ → List ℕ → Type 0
AsksForMemory format room count text =
    IsCopied format text ⊎ ((room ≤ count) × BeginsWithSomeField format text)

-- the cause for which the field at the front of the text isn't read, behind `count` fields
abbrev pub IsUnread : RecordFormat → ℕ → ℕ → List ℕ → RecordError → Type 0
IsUnread format room count text (FaultError fault) = BeginsWithSomeField format text → ⊥
IsUnread format room count text (Memory error) = AsksForMemory format room count text

-- the fields before an error: all before the one that isn't read
abbrev pub AreFieldsBeforeError
    : RecordFormat → List ℕ → ℕ → List (Option (List ℕ)) → RecordError → Type 0
AreFieldsBeforeError format text room fields error =
    (rest : List ℕ) × AreFieldsBefore format rest fields text
    × IsUnread format room (length fields) rest error

-- the cause of out of memory where all fields are copied: the text begins with a field, or with one
-- of which a part is copied before its fault; nothing is said about a fault
abbrev pub HasMemoryCause : RecordFormat → List ℕ → RecordError → Type 0
HasMemoryCause format text (FaultError fault) = ⊤
HasMemoryCause format text (Memory error) = AsksForMemory format 0 0 text
