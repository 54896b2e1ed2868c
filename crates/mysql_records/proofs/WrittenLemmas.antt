-- The text that a writer makes of a table is that table.
use Rattle.std.proofs.Common.{◌≡◌, ◌≢◌, ℕ, Bool, true, false, eqb, List, [], ◌∷◌, ◌++◌, map, Option, Some, None, refl, sym, ap, subst, append_assoc, append-nil}
use Rattle.std.specs.Prelude.{All}
use Rattle.std.specs.List.{flat_map}
use Rattle.std.proofs.lemmas.Bool.{cond_both, eqb-true}
use Rattle.std.proofs.lemmas.List.Elements.{All-head, All-tail}
use Rattle.mysql_records.specs.Formats.{doubles_quotes, escape_value, has_escapes, is_special, quote}
use Rattle.mysql_records.specs.Records.{IsPiece, raw, doubled, escape, IsPieces, no_pieces, more_pieces, IsField, bare, enclosed, null, IsRecord, one_field, more_fields, IsLineEnd, line_feed, return_line_feed, at_line_end, at_text_end, IsTable, no_records, more_records}
use Rattle.mysql_records.specs.WrittenRecords.{Writer, Cell, doubled_quote, escaped, written_byte, written_field, written_record, written_table, fields_of, IsWriter, IsWritableByte, IsWritable, IsWritableTable}
use Rattle.mysql_records.specs.declared.format.RecordFormat.{RecordFormat}
use Rattle.mysql_records.proofs.RecordLemmas.{table_same}

-- ---- the bytes of a field

not_true : (x : Bool) → (x ≡ true → ⊥) → x ≡ false
not_true true h = absurd (h refl)
not_true false h = refl

escaped_piece : (format : RecordFormat) (quoted : Bool) (b : ℕ) (o : Option ℕ) →
    ((c : ℕ) → o ≡ Some c → (has_escapes format ≡ true) × (escape_value c ≡ Some b)) →
    (is_special format quoted b ≡ true → escaped o b ≢ b ∷ []) → IsPiece format quoted b (escaped o b)
escaped_piece format quoted b None h other = raw b (not_true (is_special format quoted b) (λ e. other e refl))
escaped_piece format quoted b (Some c) h other = let found = h c refl in escape c b found.0 found.1

byte_piece : (writer : Writer) (quoted : Bool) (b : ℕ) → IsWriter writer → IsWritableByte writer quoted b →
    IsPiece writer.format quoted b (written_byte writer quoted b)
byte_piece writer quoted b w h =
    cond_both (doubles_quotes writer.format quoted) (doubled_quote b) (escaped (writer.escape quoted b) b)
    (λ t. (is_special writer.format quoted b ≡ true → t ≢ b ∷ []) → IsPiece writer.format quoted b t)
    (λ d. cond_both (eqb b quote) (quote ∷ quote ∷ []) (b ∷ [])
    (λ t. (is_special writer.format quoted b ≡ true → t ≢ b ∷ []) → IsPiece writer.format quoted b t)
    (λ e other. subst (λ x. IsPiece writer.format quoted x (quote ∷ quote ∷ [])) (sym (eqb-true b quote e)) (doubled d))
    (λ e other. raw b (not_true (is_special writer.format quoted b) (λ k. other k refl))))
    (λ d. escaped_piece writer.format quoted b (writer.escape quoted b) (w.escape quoted b))
    h

all_pieces : (writer : Writer) (quoted : Bool) (bytes : List ℕ) → IsWriter writer → All (IsWritableByte writer quoted) bytes →
    IsPieces writer.format quoted bytes (flat_map (written_byte writer quoted) bytes)
all_pieces writer quoted [] w h = no_pieces
all_pieces writer quoted (b ∷ bytes) w h =
    more_pieces b (written_byte writer quoted b) bytes (flat_map (written_byte writer quoted) bytes)
    (byte_piece writer quoted b w (All-head (IsWritableByte writer quoted) b bytes h))
    (all_pieces writer quoted bytes w (All-tail (IsWritableByte writer quoted) b bytes h))

-- ---- fields, records and tables

pub field_is : (writer : Writer) (quoted : Bool) (field : Option (List ℕ)) → IsWriter writer → IsWritable writer quoted field →
    IsField writer.format field (written_field writer quoted field)
field_is writer quoted None w h = null h
field_is writer true (Some bytes) w h = enclosed bytes (flat_map (written_byte writer true) bytes) h.0 (all_pieces writer true bytes w h.1)
field_is writer false (Some bytes) w h = bare bytes (flat_map (written_byte writer false) bytes) (all_pieces writer false bytes w h)

IsWritableCell : Writer → Cell → Type 0
IsWritableCell writer cell = IsWritable writer cell.quoted cell.field

values : List Cell → List (Option (List ℕ))
values cells = map (λ cell. cell.field) cells

record_is : (writer : Writer) (cells : List Cell) → IsWriter writer → cells ≢ [] → All (IsWritableCell writer) cells →
    IsRecord writer.format (values cells) (written_record writer cells)
unfolding IsWritableCell values
record_is writer [] w some h = absurd (some refl)
record_is writer (cell ∷ []) w some h =
    one_field cell.field (written_field writer cell.quoted cell.field)
    (field_is writer cell.quoted cell.field w (All-head (IsWritableCell writer) cell [] h))
record_is writer (cell ∷ next ∷ cells) w some h =
    more_fields cell.field (values (next ∷ cells)) (written_field writer cell.quoted cell.field) (written_record writer (next ∷ cells))
    (field_is writer cell.quoted cell.field w (All-head (IsWritableCell writer) cell (next ∷ cells) h))
    (record_is writer (next ∷ cells) w (λ e. cc) (All-tail (IsWritableCell writer) cell (next ∷ cells) h))

pub some_line_end : (format : RecordFormat) (line front rest : List ℕ) → IsLineEnd format line → front ++ (line ++ rest) ≢ []
some_line_end format line [] rest line_feed e = cc
some_line_end format line [] rest (return_line_feed h) e = cc
some_line_end format line (b ∷ front) rest h e = cc

-- a record, a line end and a table
pub table_more : (format : RecordFormat) (fields : List (Option (List ℕ))) (rows : List (List (Option (List ℕ)))) (front line rest : List ℕ) →
    IsRecord format fields front → IsLineEnd format line → IsTable format rows rest → IsTable format (fields ∷ rows) (front ++ (line ++ rest))
table_more format fields rows front line rest h l k =
    more_records fields rows (front ++ (line ++ rest)) rest
    (record {
      some = some_line_end format line front rest l;
      then = record { front = front; back = line ++ rest; whole = refl; is_record = h; ends = at_line_end line rest l };
    })
    k

-- a record without a line end
table_last : (format : RecordFormat) (fields : List (Option (List ℕ))) (front : List ℕ) → IsRecord format fields front → front ≢ [] →
    IsTable format (fields ∷ []) front
table_last format fields front h some =
    more_records fields [] front []
    (record {
      some = some;
      then = record { front = front; back = []; whole = sym (append-nil front); is_record = h; ends = at_text_end };
    })
    no_records

rows_tail : (writer : Writer) (cells : List Cell) (rows : List (List Cell)) → IsWritableTable writer (cells ∷ rows) → IsWritableTable writer rows
rows_tail writer cells rows h = record {
  some = All-tail (λ x. x ≢ []) cells rows h.some;
  fields = All-tail (All (λ cell. IsWritable writer cell.quoted cell.field)) cells rows h.fields;
  last = λ ends before last e. h.last ends (cells ∷ before) last (ap (λ x. cells ∷ x) e);
}

pub written_table_is : (writer : Writer) (rows : List (List Cell)) → IsWriter writer → IsWritableTable writer rows →
    IsTable writer.format (fields_of rows) (written_table writer rows)
unfolding IsWritableCell values
written_table_is writer [] w h = no_records
written_table_is writer (cells ∷ []) w h =
    let front : List ℕ = written_record writer cells in
    let is : IsRecord writer.format (values cells) front = record_is writer cells w (All-head (λ x. x ≢ []) cells [] h.some) (All-head (All (IsWritableCell writer)) cells [] h.fields) in
    cond_both writer.ends_last writer.line_end [] (λ end. IsTable writer.format (values cells ∷ []) (front ++ end))
    (λ e. subst (λ x. IsTable writer.format (values cells ∷ []) (front ++ x)) (append-nil writer.line_end)
    (table_more writer.format (values cells) [] front writer.line_end [] is w.line_end no_records))
    (λ e. subst (IsTable writer.format (values cells ∷ [])) (sym (append-nil front)) (table_last writer.format (values cells) front is (h.last e [] cells refl)))
written_table_is writer (cells ∷ next ∷ rows) w h =
    let front : List ℕ = written_record writer cells in
    let rest : List ℕ = written_table writer (next ∷ rows) in
    subst (IsTable writer.format (values cells ∷ fields_of (next ∷ rows))) (sym (append_assoc front writer.line_end rest))
    (table_more writer.format (values cells) (fields_of (next ∷ rows)) front writer.line_end rest
    (record_is writer cells w (All-head (λ x. x ≢ []) cells (next ∷ rows) h.some) (All-head (All (IsWritableCell writer)) cells (next ∷ rows) h.fields))
    w.line_end (written_table_is writer (next ∷ rows) w (rows_tail writer cells (next ∷ rows) h)))

pub written_table_only : (writer : Writer) (rows : List (List Cell)) (others : List (List (Option (List ℕ)))) → IsWriter writer → IsWritableTable writer rows →
    IsTable writer.format others (written_table writer rows) → others ≡ fields_of rows
written_table_only writer rows others w h k = table_same writer.format others (fields_of rows) _ _ k (written_table_is writer rows w h) refl
