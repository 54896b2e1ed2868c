-- The parts that are read at the front of a text in one step: pieces, a field, the end of a field.
-- Only private contracts cite this module.
use Rattle.std.specs.Prelude.{◌≡◌, ◌≢◌, ℕ, Bool, IsTrue, List, [], ◌∷◌, ◌++◌, Option, ⊤}
use Rattle.mysql_records.specs.Formats.{is_special, separator}
use Rattle.mysql_records.specs.LentFields.{HasPair, IsCopied}
use Rattle.mysql_records.specs.Records.{IsPiece, IsPieces, BeginsWithField, EndsRecord}
use Rattle.mysql_records.specs.Faults.{IsFaultAt, IsFieldBefore}
use Rattle.mysql_records.specs.declared.fault.FaultKind.{FaultKind}
use Rattle.mysql_records.specs.declared.fields.FieldEnd.{FieldEnd}
use Rattle.mysql_records.specs.declared.fields.FieldEnd.TheVariants.{Separator, Record}
use Rattle.mysql_records.specs.declared.fields.FieldError.{FieldError}
use Rattle.mysql_records.specs.declared.fields.FieldError.TheVariants.{Fault, Memory}
use Rattle.mysql_records.specs.declared.format.RecordFormat.{RecordFormat}
use Rattle.mysql_records.specs.declared.lent.LentField.{LentField}
use Rattle.mysql_records.specs.declared.lent.LentField.TheVariants as lent

-- the text begins with no piece
unfoldable pub StartsNoPiece : RecordFormat → Bool → List ℕ → Type 0
StartsNoPiece format quoted text =
    (b : ℕ) (piece rest : List ℕ) → IsPiece format quoted b piece → text ≢ piece ++ rest

-- the text is a row of pieces, followed by this rest, which doesn't begin with another piece
pub record BeginsWithPieces (format : RecordFormat) (quoted : Bool) (text bytes rest : List ℕ)
    : Type 0 where
  pub front : List ℕ
  pub whole : text ≡ front ++ rest
  pub are_pieces : IsPieces format quoted bytes front
  pub longest : StartsNoPiece format quoted rest

-- how the pieces at the front of the text are held: lent, unless one of them has two bytes
abbrev pub AreHeldPieces : RecordFormat → Bool → List ℕ → LentField → Type 0
AreHeldPieces format quoted text lent.Null = ⊥
AreHeldPieces format quoted text (lent.Lent bytes) = HasPair format quoted text → ⊥
AreHeldPieces format quoted text (lent.Made bytes) = HasPair format quoted text

-- the first byte of the text, if it has one, is special
abbrev pub BeginsSpecial : RecordFormat → Bool → List ℕ → Type 0
BeginsSpecial format quoted [] = ⊤
BeginsSpecial format quoted (b ∷ text) = IsTrue (is_special format quoted b)

-- the end of a field: a separator and this rest, or the end of a record and this rest
abbrev pub IsFieldEnd : RecordFormat → List ℕ → FieldEnd → Type 0
IsFieldEnd format text (Separator rest) = text ≡ separator format ∷ rest.now
IsFieldEnd format text (Record rest) = EndsRecord format text rest.now

-- the text doesn't begin with a field: the part before a fault, and the text from the fault on
pub record IsFaultyField (format : RecordFormat) (text : List ℕ) (kind : FaultKind)
    (back : List ℕ) : Type 0 where
  pub none : (field : Option (List ℕ)) (rest : List ℕ) → BeginsWithField format text field rest → ⊥
  pub front : List ℕ
  pub whole : text ≡ front ++ back
  pub before : IsFieldBefore format back kind front
  pub stands : IsFaultAt format kind back

-- a fault of the text, or out of memory for a field that is copied
abbrev pub IsFieldRefusal : RecordFormat → List ℕ → FieldError → Type 0
IsFieldRefusal format text (Fault kind back) = IsFaultyField format text kind back.now
IsFieldRefusal format text (Memory error) = IsCopied format text
