-- The piece that begins at a fault: the first piece that no record has there (the law
-- `faulty_pieces_are_first`). A text is a front if some bytes after it make it begin with a record,
-- or make it a table.
use Rattle.std.specs.Prelude.{◌≡◌, ℕ, ◌+◌, ◌<◌, ◌≤◌, ◌⊎◌, List, ◌∷◌, ◌++◌, length, take, Option}
use Rattle.std.specs.Str.{byte}
use Rattle.mysql_records.specs.Formats.{backslash}
use Rattle.mysql_records.specs.Records.{BeginsWithRecord, IsTable}
use Rattle.mysql_records.specs.declared.fault.FaultKind.{FaultKind}
use Rattle.mysql_records.specs.declared.fault.FaultKind.TheVariants.{StrayReturn, StrayQuote, OpenQuote, BehindQuote, UnknownEscape}
use Rattle.mysql_records.specs.declared.format.RecordFormat.{RecordFormat}

-- with some bytes after it, the text begins with a record
abbrev pub IsFrontOfRecord : RecordFormat → List ℕ → Type 0
IsFrontOfRecord format text = (more : List ℕ) × (fields : List (Option (List ℕ)))
    × (rest : List ℕ) × BeginsWithRecord format (text ++ more) fields rest

-- with some bytes after it, the text is a table
abbrev pub IsFrontOfTable : RecordFormat → List ℕ → Type 0
IsFrontOfTable format text = (more : List ℕ) × (rows : List (List (Option (List ℕ))))
    × IsTable format rows (text ++ more)

-- The first wrong place of a text: the bytes before it are a front, and with the byte at this place
-- they aren't. If it is the end of the text, the whole text is a front.
pub record IsFirstWrong (IsFront : List ℕ → Type 0) (text : List ℕ) (place : ℕ) : Type 0 where
  pub within : place ≤ length text
  pub before : IsFront (take place text)
  pub wrong : place < length text → IsFront (take (place + 1) text) → ⊥

-- The last place of a faulty piece, counted from its first byte. A stray quote is one byte, and so
-- is what is behind a quote. A carriage return, a backslash and `\N` take the byte after them, or
-- the end of the text. An open quote takes all bytes, and the end of the text.
abbrev pub IsLastOfPiece : FaultKind → List ℕ → ℕ → Type 0
IsLastOfPiece StrayReturn back last = last ≡ 1
IsLastOfPiece StrayQuote back last = last ≡ 0
IsLastOfPiece OpenQuote back last = last ≡ length back
IsLastOfPiece BehindQuote back last = last ≡ 0
IsLastOfPiece UnknownEscape back last =
    (last ≡ 1) ⊎ ((last ≡ 2) × (rest : List ℕ) × (back ≡ backslash ∷ byte "N" ∷ rest))
