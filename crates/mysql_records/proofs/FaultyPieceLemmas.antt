-- The piece that begins at a fault is the first one that no record has there.
use Rattle.std.proofs.Common.{◌≡◌, ℕ, ◌+◌, ◌<◌, ◌≤◌, true, false, eqb, true≢false, List, [], ◌∷◌, ◌++◌, Option, Some, None, inl, inr, length, take, drop, refl, sym, ap, ◌∙◌, subst, append_assoc, append-nil, arith, length-drop}
use Rattle.std.proofs.lemmas.Bool.{cases_Bool, eqb-true}
use Rattle.std.proofs.Math.Seq.{take-add, take-length}
use Rattle.mysql_records.specs.Faults.{HasNoEscape, BeginsWithNoNull, IsFaultAt, IsFieldBefore, return_bare, return_enclosed, quote_bare, open_quote, behind_quote, escape_bare, escape_enclosed, IsRecordBefore, in_field, behind_field, IsTableBefore, in_record, behind_record, IsFaulty, IsFaultyTable}
use Rattle.mysql_records.specs.FaultyPieces.{IsFrontOfRecord, IsFrontOfTable, IsFirstWrong, IsLastOfPiece}
use Rattle.mysql_records.specs.Formats.{backslash, carriage_return, has_escapes, has_quotes, newline, quote, separator}
use Rattle.mysql_records.specs.Records.{escape, IsPieces, IsField, bare, enclosed, null, IsRecord, one_field, more_fields, EndsRecord, IsLineEnd, line_feed, return_line_feed, EndsField, at_separator, at_record_end, at_line_end, at_text_end, IsTable, no_records, more_records}
use Rattle.mysql_records.specs.declared.fault.Fault.{Fault}
use Rattle.mysql_records.specs.declared.fault.FaultKind.{FaultKind}
use Rattle.mysql_records.specs.declared.fault.FaultKind.TheVariants.{StrayReturn, UnknownEscape}
use Rattle.mysql_records.specs.declared.format.RecordFormat.{RecordFormat}
use Rattle.mysql_records.proofs.PieceLemmas.{pieces-append, one_piece}
use Rattle.mysql_records.proofs.FieldLemmas.{ends_empty, ends_separator, heads, inner, pieces_not_null, record_ends_line}
use Rattle.mysql_records.proofs.RecordLemmas.{then_same}
use Rattle.mysql_records.proofs.TableLemmas.{not_none, not_empty_at}
use Rattle.mysql_records.proofs.WrittenLemmas.{some_line_end, table_more}
use Rattle.mysql_records.proofs.FaultLemmas.{no_record, whole_before}

-- ---- texts that go on

-- bytes after the text make it a field and a line end
record FieldGoesOn (format : RecordFormat) (text : List ℕ) : Type 0 where
  more : List ℕ
  field : Option (List ℕ)
  front : List ℕ
  line : List ℕ
  whole : text ++ more ≡ front ++ line
  is_field : IsField format field front
  ends : IsLineEnd format line

-- bytes after the text make it a record and a line end
record RecordGoesOn (format : RecordFormat) (text : List ℕ) : Type 0 where
  more : List ℕ
  fields : List (Option (List ℕ))
  front : List ℕ
  line : List ℕ
  whole : text ++ more ≡ front ++ line
  is_record : IsRecord format fields front
  ends : IsLineEnd format line

-- A piece of a text: the bytes before its last byte go on, and with its last byte the same fault is in the text, whatever is after it.
record Piece (format : RecordFormat) (back : List ℕ) (kind : FaultKind) (front : List ℕ) (Before : List ℕ → Type 0) (GoesOn : List ℕ → Type 0) : Type 0 where
  last : ℕ
  is_last : IsLastOfPiece kind back last
  within : last ≤ length back
  goes_on : GoesOn (front ++ take last back)
  before : (after : List ℕ) → last < length back → Before (take (last + 1) back ++ after)
  stands : (after : List ℕ) → last < length back → IsFaultAt format kind (take (last + 1) back ++ after)

abbrev FieldPiece : RecordFormat → List ℕ → FaultKind → List ℕ → Type 0
FieldPiece format back kind front = Piece format back kind front (λ b. IsFieldBefore format b kind front) (FieldGoesOn format)

abbrev RecordPiece : RecordFormat → List ℕ → FaultKind → List ℕ → Type 0
RecordPiece format back kind front = Piece format back kind front (λ b. IsRecordBefore format b kind front) (RecordGoesOn format)

abbrev TablePiece : RecordFormat → List ℕ → FaultKind → List ℕ → Type 0
TablePiece format back kind front = Piece format back kind front (λ b. IsTableBefore format b kind front) (IsFrontOfTable format)

-- ---- the piece in a field

-- a field goes on with a line feed
goes_with_line : (format : RecordFormat) (field : Option (List ℕ)) (text : List ℕ) → IsField format field text → FieldGoesOn format (text ++ [])
goes_with_line format field text h = record {
  more = newline ∷ [];
  field = field;
  front = text;
  line = newline ∷ [];
  whole = ap (λ x. x ++ newline ∷ []) (append-nil text);
  is_field = h;
  ends = line_feed;
}

-- a field and a carriage return go on with a line feed
goes_with_return : (format : RecordFormat) (field : Option (List ℕ)) (text : List ℕ) (a : ℕ) → has_escapes format ≡ false → a ≡ carriage_return → IsField format field text →
    FieldGoesOn format (text ++ a ∷ [])
goes_with_return format field text a no_escapes e h = record {
  more = newline ∷ [];
  field = field;
  front = text;
  line = carriage_return ∷ newline ∷ [];
  whole = append_assoc text (a ∷ []) (newline ∷ []) ∙ ap (λ x. text ++ x ∷ newline ∷ []) e;
  is_field = h;
  ends = return_line_feed no_escapes;
}

escape_pieces : (format : RecordFormat) (bytes text : List ℕ) (a : ℕ) → has_escapes format ≡ true → a ≡ backslash → IsPieces format false bytes text →
    IsPieces format false (bytes ++ newline ∷ []) (text ++ a ∷ 110 ∷ [])
escape_pieces format bytes text a h e p =
    pieces-append format false bytes (newline ∷ []) text (a ∷ 110 ∷ []) p
    (subst (λ x. IsPieces format false (newline ∷ []) (x ∷ 110 ∷ [])) (sym e) (one_piece format false newline (backslash ∷ 110 ∷ []) (escape 110 newline h refl)))

escape_pieces_quoted : (format : RecordFormat) (bytes text : List ℕ) (a : ℕ) → has_escapes format ≡ true → a ≡ backslash → IsPieces format true bytes text →
    IsPieces format true (bytes ++ newline ∷ []) (text ++ a ∷ 110 ∷ [])
escape_pieces_quoted format bytes text a h e p =
    pieces-append format true bytes (newline ∷ []) text (a ∷ 110 ∷ []) p
    (subst (λ x. IsPieces format true (newline ∷ []) (x ∷ 110 ∷ [])) (sym e) (one_piece format true newline (backslash ∷ 110 ∷ []) (escape 110 newline h refl)))

-- a backslash without quotes goes on with a letter and a line feed
goes_with_letter : (format : RecordFormat) (bytes text : List ℕ) (a : ℕ) → has_escapes format ≡ true → a ≡ backslash → IsPieces format false bytes text →
    FieldGoesOn format (text ++ a ∷ [])
goes_with_letter format bytes text a h e p = record {
  more = 110 ∷ newline ∷ [];
  field = Some (bytes ++ newline ∷ []);
  front = text ++ a ∷ 110 ∷ [];
  line = newline ∷ [];
  whole = append_assoc text (a ∷ []) (110 ∷ newline ∷ []) ∙ sym (append_assoc text (a ∷ 110 ∷ []) (newline ∷ []));
  is_field = bare (bytes ++ newline ∷ []) (text ++ a ∷ 110 ∷ []) (escape_pieces format bytes text a h e p);
  ends = line_feed;
}

-- a backslash in quotes goes on with a letter, a quote and a line feed
goes_with_quote : (format : RecordFormat) (bytes text : List ℕ) (a : ℕ) → has_escapes format ≡ true → has_quotes format ≡ true → a ≡ backslash →
    IsPieces format true bytes text → FieldGoesOn format ((quote ∷ text) ++ a ∷ [])
goes_with_quote format bytes text a h q e p = record {
  more = 110 ∷ quote ∷ newline ∷ [];
  field = Some (bytes ++ newline ∷ []);
  front = quote ∷ (text ++ a ∷ 110 ∷ []) ++ quote ∷ [];
  line = newline ∷ [];
  whole = ap (λ x. quote ∷ x) (append_assoc text (a ∷ []) (110 ∷ quote ∷ newline ∷ []) ∙ sym (append_assoc text (a ∷ 110 ∷ []) (quote ∷ newline ∷ [])))
      ∙ sym (inner (text ++ a ∷ 110 ∷ []) (newline ∷ []));
  is_field = enclosed (bytes ++ newline ∷ []) (text ++ a ∷ 110 ∷ []) q (escape_pieces_quoted format bytes text a h e p);
  ends = line_feed;
}

-- an open quote goes on with a quote and a line feed
goes_with_closed : (format : RecordFormat) (bytes text : List ℕ) (a : ℕ) → has_quotes format ≡ true → a ≡ quote → IsPieces format true bytes text →
    FieldGoesOn format (a ∷ text)
goes_with_closed format bytes text a q e p = record {
  more = quote ∷ newline ∷ [];
  field = Some bytes;
  front = quote ∷ text ++ quote ∷ [];
  line = newline ∷ [];
  whole = ap (λ x. x ∷ text ++ quote ∷ newline ∷ []) e ∙ sym (inner text (newline ∷ []));
  is_field = enclosed bytes text q p;
  ends = line_feed;
}

-- NULL goes on with a line feed
goes_with_null : (format : RecordFormat) (a c : ℕ) → has_escapes format ≡ true → a ≡ backslash → c ≡ 78 → FieldGoesOn format (a ∷ c ∷ [])
goes_with_null format a c h e f = record {
  more = newline ∷ [];
  field = None;
  front = backslash ∷ 78 ∷ [];
  line = newline ∷ [];
  whole = cc;
  is_field = null h;
  ends = line_feed;
}

-- the first byte after a field decides whether it ends there, in a format with escapes
ends_first : (format : RecordFormat) (d : ℕ) (back text rest : List ℕ) → has_escapes format ≡ true → EndsField format back → back ≡ d ∷ text → EndsField format (d ∷ rest)
ends_first format d back text rest h (at_separator more) e = ends_separator format (d ∷ rest) rest (ap (λ x. x ∷ rest) (sym (heads _ _ _ _ e)))
ends_first format d back text rest h (at_record_end t more (at_line_end line more2 line_feed)) e =
    at_record_end (d ∷ rest) rest (record_ends_line format (d ∷ rest) rest (ap (λ x. x ∷ rest) (sym (heads _ _ _ _ e))))
ends_first format d back text rest h (at_record_end t more (at_line_end line more2 (return_line_feed k))) e = absurd (true≢false (sym h ∙ k))
ends_first format d back text rest h (at_record_end t more at_text_end) e = cc

-- a carriage return and the byte after it
return_stands : (format : RecordFormat) (back after : List ℕ) → IsFaultAt format StrayReturn back → 1 < length back → IsFaultAt format StrayReturn (take 2 back ++ after)
return_stands format [] after h short = absurd h
return_stands format (a ∷ []) after h short = absurd (omega arith)
return_stands format (a ∷ b ∷ back) after h short = h

-- a backslash and the byte after it
escape_stands : (format : RecordFormat) (back after : List ℕ) → IsFaultAt format UnknownEscape back → 1 < length back → IsFaultAt format UnknownEscape (take 2 back ++ after)
escape_stands format [] after h short = absurd h
escape_stands format (a ∷ []) after h short = absurd (omega arith)
escape_stands format (a ∷ b ∷ back) after h short = h

-- a backslash without quotes, and the byte after it
escape_of_two : (format : RecordFormat) (a : ℕ) (back bytes text : List ℕ) → has_escapes format ≡ true → IsPieces format false bytes text →
    (a ≡ backslash) × HasNoEscape back → ((after : List ℕ) → 1 < length (a ∷ back) → BeginsWithNoNull format (text ++ (take 2 (a ∷ back) ++ after))) →
    FieldPiece format (a ∷ back) UnknownEscape text
escape_of_two format a back bytes text h p stands no_null = record {
  last = 1;
  is_last = inl refl;
  within = omega arith;
  goes_on = goes_with_letter format bytes text a h stands.0 p;
  before = λ after short. escape_bare bytes text h p (no_null after short);
  stands = λ after short. escape_stands format (a ∷ back) after stands short;
}

-- `\N` without quotes, and the byte after it
escape_of_three : (format : RecordFormat) (a c : ℕ) (back bytes : List ℕ) → has_escapes format ≡ true → IsPieces format false bytes [] →
    BeginsWithNoNull format (a ∷ c ∷ back) → (a ≡ backslash) × HasNoEscape (c ∷ back) → c ≡ 78 → FieldPiece format (a ∷ c ∷ back) UnknownEscape []
escape_of_three format a c [] bytes h p no_null stands e =
    let is : a ≡ backslash = stands.0 in
    let whole : a ∷ c ∷ [] ≡ backslash ∷ 78 ∷ [] = cc in
    absurd (no_null [] (ends_empty format [] refl) whole)
escape_of_three format a c (d ∷ back) bytes h p no_null stands e = record {
  last = 2;
  is_last = inr (refl, d ∷ back, whole);
  within = omega arith;
  goes_on = goes_with_null format a c h is e;
  before = λ after short. escape_bare bytes [] h p
      (λ rest ends f.
      let g : a ∷ c ∷ d ∷ after ≡ backslash ∷ 78 ∷ rest = f in
      let same : rest ≡ d ∷ after = cc in
      no_null (d ∷ back) (ends_first format d rest after back h ends same) whole);
  stands = λ after short. stands;
}
  where
    is : a ≡ backslash
    is = stands.0

    whole : a ∷ c ∷ d ∷ back ≡ backslash ∷ 78 ∷ d ∷ back
    whole = cc

escape_piece : (format : RecordFormat) (a : ℕ) (back bytes text : List ℕ) → has_escapes format ≡ true → IsPieces format false bytes text →
    BeginsWithNoNull format (text ++ a ∷ back) → (a ≡ backslash) × HasNoEscape back → FieldPiece format (a ∷ back) UnknownEscape text
escape_piece format a back bytes (x ∷ text) h p no_null stands =
    escape_of_two format a back bytes (x ∷ text) h p stands
    (λ after short rest ends. pieces_not_null format bytes (x ∷ text) (take 2 (a ∷ back) ++ after) rest p (λ e f. cc) h)
escape_piece format a [] bytes [] h p no_null stands =
    escape_of_two format a [] bytes [] h p stands (λ after short. absurd (omega arith))
escape_piece format a (c ∷ back) bytes [] h p no_null stands =
    elim (cases_Bool (eqb c 78)) [
      | inl e ↦ escape_of_three format a c back bytes h p no_null stands (eqb-true c 78 e)
      | inr e ↦ escape_of_two format a (c ∷ back) bytes [] h p stands
          (λ after short rest ends f.
          let g : a ∷ c ∷ after ≡ backslash ∷ 78 ∷ rest = f in
          let same : c ≡ 78 = cc in
          true≢false (sym (ap (λ x. eqb x 78) same) ∙ e))
    ]

field_piece : (format : RecordFormat) (back : List ℕ) (kind : FaultKind) (front : List ℕ) → IsFieldBefore format back kind front → IsFaultAt format kind back →
    FieldPiece format back kind front
field_piece format [] kind front before stands = absurd stands
field_piece format (a ∷ back) kind front (return_bare bytes text h p) stands = record {
  last = 1;
  is_last = refl;
  within = omega arith;
  goes_on = goes_with_return format (Some bytes) text a h stands.0 (bare bytes text p);
  before = λ after short. return_bare bytes text h p;
  stands = λ after short. return_stands format (a ∷ back) after stands short;
}
field_piece format (a ∷ back) kind front (return_enclosed bytes text h q p) stands = record {
  last = 1;
  is_last = refl;
  within = omega arith;
  goes_on = goes_with_return format (Some bytes) (quote ∷ text ++ quote ∷ []) a h stands.0 (enclosed bytes text q p);
  before = λ after short. return_enclosed bytes text h q p;
  stands = λ after short. return_stands format (a ∷ back) after stands short;
}
field_piece format (a ∷ back) kind front (quote_bare bytes text h p some) stands = record {
  last = 0;
  is_last = refl;
  within = omega arith;
  goes_on = goes_with_line format (Some bytes) text (bare bytes text p);
  before = λ after short. quote_bare bytes text h p some;
  stands = λ after short. stands;
}
field_piece format (a ∷ back) kind front (open_quote h) stands = record {
  last = length (a ∷ back);
  is_last = refl;
  within = omega arith;
  goes_on = subst (FieldGoesOn format) (sym (take-length (a ∷ back))) (goes_with_closed format stands.1 back a h stands.0 stands.2);
  before = λ after short. absurd (omega arith);
  stands = λ after short. absurd (omega arith);
}
field_piece format (a ∷ back) kind front (behind_quote bytes text h p) stands = record {
  last = 0;
  is_last = refl;
  within = omega arith;
  goes_on = goes_with_line format (Some bytes) (quote ∷ text ++ quote ∷ []) (enclosed bytes text h p);
  before = λ after short. behind_quote bytes text h p;
  stands = λ after short. stands;
}
field_piece format (a ∷ back) kind front (escape_bare bytes text h p no_null) stands = escape_piece format a back bytes text h p no_null stands
field_piece format (a ∷ back) kind front (escape_enclosed bytes text h q p) stands = record {
  last = 1;
  is_last = inl refl;
  within = omega arith;
  goes_on = goes_with_quote format bytes text a h q stands.0 p;
  before = λ after short. escape_enclosed bytes text h q p;
  stands = λ after short. escape_stands format (a ∷ back) after stands short;
}

-- ---- the piece in a record and in a table

record_piece : (format : RecordFormat) (back : List ℕ) (kind : FaultKind) (front : List ℕ) → IsRecordBefore format back kind front → IsFaultAt format kind back →
    RecordPiece format back kind front
record_piece format back kind front (in_field text h) stands =
    let p : FieldPiece format back kind text = field_piece format back kind text h stands in
    let on : FieldGoesOn format (text ++ take p.last back) = p.goes_on in record {
      last = p.last;
      is_last = p.is_last;
      within = p.within;
      goes_on = record {
        more = on.more;
        fields = on.field ∷ [];
        front = on.front;
        line = on.line;
        whole = on.whole;
        is_record = one_field on.field on.front on.is_field;
        ends = on.ends;
      };
      before = λ after short. in_field text (p.before after short);
      stands = p.stands;
    }
record_piece format back kind front (behind_field x text rest f h) stands =
    let p : RecordPiece format back kind rest = record_piece format back kind rest h stands in
    let on : RecordGoesOn format (rest ++ take p.last back) = p.goes_on in
    let piece : List ℕ = take p.last back in record {
      last = p.last;
      is_last = p.is_last;
      within = p.within;
      goes_on = record {
        more = on.more;
        fields = x ∷ on.fields;
        front = text ++ separator format ∷ on.front;
        line = on.line;
        whole = ap (λ y. y ++ on.more) (append_assoc text (separator format ∷ rest) piece)
            ∙ append_assoc text (separator format ∷ (rest ++ piece)) on.more
            ∙ ap (λ y. text ++ separator format ∷ y) on.whole
            ∙ sym (append_assoc text (separator format ∷ on.front) on.line);
        is_record = more_fields x on.fields text on.front f on.is_record;
        ends = on.ends;
      };
      before = λ after short. behind_field x text rest f (p.before after short);
      stands = p.stands;
    }

table_piece : (format : RecordFormat) (back : List ℕ) (kind : FaultKind) (front : List ℕ) → IsTableBefore format back kind front → IsFaultAt format kind back →
    TablePiece format back kind front
table_piece format back kind front (in_record text h) stands =
    let p : RecordPiece format back kind text = record_piece format back kind text h stands in
    let on : RecordGoesOn format (text ++ take p.last back) = p.goes_on in record {
      last = p.last;
      is_last = p.is_last;
      within = p.within;
      goes_on = (
        on.more,
        on.fields ∷ [],
        subst (IsTable format (on.fields ∷ [])) (ap (λ y. on.front ++ y) (append-nil on.line) ∙ sym on.whole)
            (table_more format on.fields [] on.front on.line [] on.is_record on.ends no_records),
      );
      before = λ after short. in_record text (p.before after short);
      stands = p.stands;
    }
table_piece format back kind front (behind_record fields text line rest r l h) stands =
    let p : TablePiece format back kind rest = table_piece format back kind rest h stands in
    let piece : List ℕ = take p.last back in
    let on : IsFrontOfTable format (rest ++ piece) = p.goes_on in record {
      last = p.last;
      is_last = p.is_last;
      within = p.within;
      goes_on = (
        on.0,
        fields ∷ on.1,
        subst (IsTable format (fields ∷ on.1))
            (sym (ap (λ y. y ++ on.0) (append_assoc (text ++ line) rest piece) ∙ append_assoc (text ++ line) (rest ++ piece) on.0
            ∙ append_assoc text line ((rest ++ piece) ++ on.0)))
            (table_more format fields on.1 text line ((rest ++ piece) ++ on.0) r l on.2),
      );
      before = λ after short. behind_record fields text line rest r l (p.before after short);
      stands = p.stands;
    }

-- ---- no record and no table has the piece

-- a text with a fault in it is no table
no_table : (format : RecordFormat) (back : List ℕ) (kind : FaultKind) (front whole_text : List ℕ) (rows : List (List (Option (List ℕ)))) → IsTableBefore format back kind front →
    IsFaultAt format kind back → whole_text ≡ front ++ back → IsTable format rows whole_text → ⊥
no_table format back kind front whole_text rows before stands e no_records = not_none front back (not_empty_at format kind back stands) e
no_table format back kind front whole_text rows (in_record text h) stands e (more_records fields rows2 text2 rest b k) =
    no_record format back kind text whole_text fields rest h stands e b.then
no_table format back kind front whole_text rows (behind_record fields2 text line rest2 r l h) stands e (more_records fields rows2 text2 rest b k) =
    let same = then_same format whole_text fields2 (rest2 ++ back) fields rest (whole_before format whole_text fields2 text line rest2 back r l e) b.then in
    no_table format back kind rest2 rest rows2 h stands (sym same.1) k

front_of_record : (format : RecordFormat) (text : List ℕ) → RecordGoesOn format text → IsFrontOfRecord format text
front_of_record format text on = (
  on.more,
  on.fields,
  [],
  record {
    some = λ e. some_line_end format on.line on.front [] on.ends (ap (λ y. on.front ++ y) (append-nil on.line) ∙ sym on.whole ∙ e);
    then = record {
      front = on.front;
      back = on.line;
      whole = on.whole;
      is_record = on.is_record;
      ends = subst (λ y. EndsRecord format y []) (append-nil on.line) (at_line_end on.line [] on.ends);
    };
  },
)

-- the first wrong place of a text is at the last byte of the piece
first_wrong : (format : RecordFormat) (text : List ℕ) (at : ℕ) (kind : FaultKind) (Before GoesOn IsFront : List ℕ → Type 0) → at < length text →
    (p : Piece format (drop at text) kind (take at text) Before GoesOn) → ((front : List ℕ) → GoesOn front → IsFront front) →
    ((back : List ℕ) → ((after : List ℕ) → Before (back ++ after)) → ((after : List ℕ) → IsFaultAt format kind (back ++ after)) → IsFront (take at text ++ back) → ⊥) →
    IsFirstWrong IsFront text (at + p.last)
first_wrong format text at kind Before GoesOn IsFront short p is_front none = record {
  within = omega (arith, short, p.within, length-drop at text);
  before = subst IsFront (sym (take-add at p.last text)) (is_front (take at text ++ take p.last (drop at text)) p.goes_on);
  wrong = λ lt k.
      let within : p.last < length (drop at text) = omega (arith, lt, length-drop at text) in
      let place : at + p.last + 1 ≡ at + (p.last + 1) = omega arith in
      none (take (p.last + 1) (drop at text)) (λ after. p.before after within) (λ after. p.stands after within)
      (subst IsFront (ap (λ n. take n text) place ∙ take-add at (p.last + 1) text) k);
}

pub piece_first : (format : RecordFormat) (text : List ℕ) (fault : Fault) → IsFaulty format text fault →
    (last : ℕ) × IsLastOfPiece fault.kind (drop fault.at text) last × IsFirstWrong (IsFrontOfRecord format) text (fault.at + last)
piece_first format text fault h =
    let front : List ℕ = take fault.at text in
    let p : RecordPiece format (drop fault.at text) fault.kind front = record_piece format (drop fault.at text) fault.kind front h.before h.stands in (
      p.last,
      p.is_last,
      first_wrong format text fault.at fault.kind (λ b. IsRecordBefore format b fault.kind front) (RecordGoesOn format) (IsFrontOfRecord format) h.within p (front_of_record format)
          (λ back before stands k.
          no_record format (back ++ k.0) fault.kind front ((front ++ back) ++ k.0) k.1 k.2 (before k.0) (stands k.0) (append_assoc front back k.0) k.3.then),
    )

pub table_piece_first : (format : RecordFormat) (text : List ℕ) (fault : Fault) → IsFaultyTable format text fault →
    (last : ℕ) × IsLastOfPiece fault.kind (drop fault.at text) last × IsFirstWrong (IsFrontOfTable format) text (fault.at + last)
table_piece_first format text fault h =
    let front : List ℕ = take fault.at text in
    let p : TablePiece format (drop fault.at text) fault.kind front = table_piece format (drop fault.at text) fault.kind front h.before h.stands in (
      p.last,
      p.is_last,
      first_wrong format text fault.at fault.kind (λ b. IsTableBefore format b fault.kind front) (IsFrontOfTable format) (IsFrontOfTable format) h.within p (λ front h. h)
          (λ back before stands k.
          no_table format (back ++ k.0) fault.kind front ((front ++ back) ++ k.0) k.1 (before k.0) (stands k.0) (append_assoc front back k.0) k.2),
    )
