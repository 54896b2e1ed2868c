-- A row of pieces, as it is read.
use Rattle.std.proofs.Common.{◌≡◌, ℕ, Bool, true, false, ◌||◌, List, [], ◌∷◌, ◌++◌, refl, sym, ap, ◌∙◌, subst, append_assoc, take, drop, take-append-drop}
use Rattle.std.specs.List.{list_any}
use Rattle.mysql_records.specs.Formats.{is_special}
use Rattle.mysql_records.specs.Records.{IsPiece, raw, IsPieces, no_pieces, more_pieces}
use Rattle.mysql_records.specs.Fields.{StartsNoPiece, BeginsWithPieces}
use Rattle.mysql_records.specs.declared.format.RecordFormat.{RecordFormat}
use Rattle.mysql_records.proofs.PieceLemmas.{pieces-append, one_piece}

-- the text is a row of pieces and this rest
pub record ReadPieces (format : RecordFormat) (quoted : Bool) (text bytes rest : List ℕ) : Type 0 where
  pub front : List ℕ
  pub whole : text ≡ front ++ rest
  pub are_pieces : IsPieces format quoted bytes front

pub read_none : (format : RecordFormat) (quoted : Bool) (text : List ℕ) → ReadPieces format quoted text [] text
read_none format quoted text = record { front = []; whole = refl; are_pieces = no_pieces }

pub read_more : (format : RecordFormat) (quoted : Bool) (text bytes rest more piece rest2 : List ℕ) → ReadPieces format quoted text bytes rest →
    IsPieces format quoted more piece → rest ≡ piece ++ rest2 → ReadPieces format quoted text (bytes ++ more) rest2
read_more format quoted text bytes rest more piece rest2 h k e = record {
  front = h.front ++ piece;
  whole = h.whole ∙ ap (λ x. h.front ++ x) e ∙ sym (append_assoc h.front piece rest2);
  are_pieces = pieces-append format quoted bytes more h.front piece h.are_pieces k;
}

pub read_longest : (format : RecordFormat) (quoted : Bool) (text bytes rest : List ℕ) → ReadPieces format quoted text bytes rest →
    StartsNoPiece format quoted rest → BeginsWithPieces format quoted text bytes rest
read_longest format quoted text bytes rest h longest = record { front = h.front; whole = h.whole; are_pieces = h.are_pieces; longest = longest }

pub either_false : (a b : Bool) → (a || b) ≡ false → (a ≡ false) × (b ≡ false)
either_false true b h = cc
either_false false b h = (refl, h)

pub raw_pieces : (format : RecordFormat) (quoted : Bool) (bytes : List ℕ) → list_any (is_special format quoted) bytes ≡ false →
    IsPieces format quoted bytes bytes
raw_pieces format quoted [] h = no_pieces
raw_pieces format quoted (b ∷ bytes) h =
    let e = either_false (is_special format quoted b) _ h in
    more_pieces b (b ∷ []) bytes bytes (raw b e.0) (raw_pieces format quoted bytes e.1)

-- bytes that stand for themselves
pub read_raw : (format : RecordFormat) (quoted : Bool) (text bytes rest : List ℕ) (n : ℕ) → ReadPieces format quoted text bytes rest →
    list_any (is_special format quoted) (take n rest) ≡ false → ReadPieces format quoted text (bytes ++ take n rest) (drop n rest)
read_raw format quoted text bytes rest n h none =
    read_more format quoted text bytes rest (take n rest) (take n rest) (drop n rest) h (raw_pieces format quoted (take n rest) none)
    (sym (take-append-drop n rest))

-- one byte more
pub read_one : (format : RecordFormat) (quoted : Bool) (text bytes rest rest2 : List ℕ) (b : ℕ) → ReadPieces format quoted text bytes rest →
    (piece : List ℕ) → IsPiece format quoted b piece → rest ≡ piece ++ rest2 → ReadPieces format quoted text (bytes ++ b ∷ []) rest2
read_one format quoted text bytes rest rest2 b h piece p e =
    read_more format quoted text bytes rest (b ∷ []) piece rest2 h (one_piece format quoted b piece p) e

-- a row that a loop has copied
pub raw_and : (format : RecordFormat) (quoted : Bool) (text bytes rest copied rest2 : List ℕ) (n : ℕ) → ReadPieces format quoted text bytes rest →
    list_any (is_special format quoted) (take n rest) ≡ false → copied ≡ bytes ++ take n rest → rest2 ≡ drop n rest →
    ReadPieces format quoted text copied rest2
raw_and format quoted text bytes rest copied rest2 n h none e f =
    subst (λ x. ReadPieces format quoted text x rest2) (sym e)
    (subst (λ x. ReadPieces format quoted text (bytes ++ take n rest) x) (sym f) (read_raw format quoted text bytes rest n h none))
