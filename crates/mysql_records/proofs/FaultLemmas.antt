-- A text has at most one fault, and the text before it is the front of a record.
use Rattle.std.proofs.Common.{◌≡◌, ◌≢◌, ℕ, ◌<◌, Bool, true, false, true≢false, List, [], ◌∷◌, ◌++◌, Option, Some, None, length, take, drop, refl, sym, ap, ◌∙◌, subst, append_assoc, append-nil, arith, length-drop, take-append-drop}
use Rattle.mysql_records.specs.Faults.{HasNoEscape, BeginsWithNo, IsFaultAt, IsFieldBefore, return_bare, return_enclosed, quote_bare, open_quote, behind_quote, escape_bare, escape_enclosed, IsRecordBefore, in_field, behind_field, IsTableBefore, in_record, behind_record, IsFaulty, IsFaultyTable}
use Rattle.mysql_records.specs.Fields.{StartsNoPiece, BeginsWithPieces}
use Rattle.mysql_records.specs.Formats.{backslash, carriage_return, doubles_quotes, escape_value, has_escapes, has_quotes, is_special, newline, quote, separator}
use Rattle.mysql_records.specs.Records.{no_pieces, IsField, bare, enclosed, IsRecord, one_field, more_fields, IsLineEnd, line_feed, EndsField, at_separator, at_line_end, IsRecordThen, IsTable, no_records, BeginsWithField}
use Rattle.mysql_records.specs.declared.fault.Fault.{Fault}
use Rattle.mysql_records.specs.declared.fault.FaultKind.{FaultKind}
use Rattle.mysql_records.specs.declared.fault.FaultKind.TheVariants.{StrayReturn, StrayQuote, OpenQuote, BehindQuote, UnknownEscape}
use Rattle.mysql_records.specs.declared.format.RecordFormat.{RecordFormat}
use Rattle.mysql_records.proofs.PieceLemmas.{special_backslash, special_quote, special_return, none_at, none_at_end, no_doubled_escapes, pieces_same}
use Rattle.mysql_records.proofs.FieldLemmas.{separator_not_quote, separator_not_return, ends_not_backslash, none_bare, heads, pieces_not_quote, pieces_not_null, field_same, enclosed_only, bare_only, inner, no_end}
use Rattle.mysql_records.proofs.RecordLemmas.{first_of, then_others, then_same}
use Rattle.mysql_records.proofs.WrittenLemmas.{table_more}

-- ---- the first field with a fault

-- which fault a byte is behind pieces without quotes
data BareKind : FaultKind → List ℕ → Type 0 where
  bare_return : (rest : List ℕ) → BareKind StrayReturn (carriage_return ∷ rest)
  bare_quote : (rest : List ℕ) → BareKind StrayQuote (quote ∷ rest)
  bare_escape : (rest : List ℕ) → BareKind UnknownEscape (backslash ∷ rest)

bare_kind_same : (k l : FaultKind) (t u : List ℕ) → BareKind k t → BareKind l u → t ≡ u → k ≡ l
bare_kind_same k l t u (bare_return r) (bare_return s) e = refl
bare_kind_same k l t u (bare_return r) (bare_quote s) e = absurd (omega (arith, heads _ _ _ _ e))
bare_kind_same k l t u (bare_return r) (bare_escape s) e = absurd (omega (arith, heads _ _ _ _ e))
bare_kind_same k l t u (bare_quote r) (bare_return s) e = absurd (omega (arith, heads _ _ _ _ e))
bare_kind_same k l t u (bare_quote r) (bare_quote s) e = refl
bare_kind_same k l t u (bare_quote r) (bare_escape s) e = absurd (omega (arith, heads _ _ _ _ e))
bare_kind_same k l t u (bare_escape r) (bare_return s) e = absurd (omega (arith, heads _ _ _ _ e))
bare_kind_same k l t u (bare_escape r) (bare_quote s) e = absurd (omega (arith, heads _ _ _ _ e))
bare_kind_same k l t u (bare_escape r) (bare_escape s) e = refl

-- which fault a byte is behind a field in quotes
data ClosedKind (format : RecordFormat) : FaultKind → List ℕ → Type 0 where
  closed_return : (rest : List ℕ) → has_escapes format ≡ false → ClosedKind format StrayReturn (carriage_return ∷ rest)
  closed_other : (a : ℕ) (rest : List ℕ) → (has_escapes format ≡ false → a ≢ carriage_return) → ClosedKind format BehindQuote (a ∷ rest)

closed_kind_same : (format : RecordFormat) (k l : FaultKind) (t u : List ℕ) → ClosedKind format k t → ClosedKind format l u → t ≡ u → k ≡ l
closed_kind_same format k l t u (closed_return r h) (closed_return s m) e = refl
closed_kind_same format k l t u (closed_return r h) (closed_other b s m) e = absurd (m h (sym (heads _ _ _ _ e)))
closed_kind_same format k l t u (closed_other a r h) (closed_return s m) e = absurd (h m (heads _ _ _ _ e))
closed_kind_same format k l t u (closed_other a r h) (closed_other b s m) e = refl

-- a fault of the field at the front of a text, by the longest row of pieces
data FieldFault (format : RecordFormat) (text back : List ℕ) : FaultKind → Type 0 where
  is_bare : (kind : FaultKind) (bytes : List ℕ) → BareKind kind back →
      ((tail : List ℕ) → has_quotes format ≡ true → text ≢ quote ∷ tail) →
      ((tail : List ℕ) → has_escapes format ≡ true → text ≡ backslash ∷ 78 ∷ tail → EndsField format tail → ⊥) →
      BeginsWithPieces format false text bytes back → (EndsField format back → ⊥) → FieldFault format text back kind
  is_open : (tail bytes : List ℕ) → has_quotes format ≡ true → text ≡ quote ∷ tail → BeginsWithPieces format true tail bytes [] → back ≡ text →
      FieldFault format text back OpenQuote
  is_escape : (tail bytes rest : List ℕ) → has_quotes format ≡ true → text ≡ quote ∷ tail → BeginsWithPieces format true tail bytes back →
      back ≡ backslash ∷ rest → FieldFault format text back UnknownEscape
  is_closed : (kind : FaultKind) (tail bytes : List ℕ) → ClosedKind format kind back → has_quotes format ≡ true → text ≡ quote ∷ tail →
      BeginsWithPieces format true tail bytes (quote ∷ back) → (EndsField format back → ⊥) → FieldFault format text back kind

-- such a text begins with no field
no_field : (format : RecordFormat) (text back : List ℕ) (kind : FaultKind) (x : Option (List ℕ)) (rest : List ℕ) → FieldFault format text back kind →
    BeginsWithField format text x rest → ⊥
no_field format text back kind x rest (is_bare k bytes b no_quote no_null p ends) f =
    ends (subst (EndsField format) (sym (bare_only format text bytes back x rest no_quote no_null f p)) f.ends)
no_field format text back kind x rest (is_open tail bytes h e p same) f =
    let found : [] ≡ quote ∷ rest = (enclosed_only format tail bytes [] x rest h (subst (λ y. BeginsWithField format y x rest) e f) p).0 in cc
no_field format text back kind x rest (is_escape tail bytes more h e p g) f =
    let found : back ≡ quote ∷ rest = (enclosed_only format tail bytes back x rest h (subst (λ y. BeginsWithField format y x rest) e f) p).0 in
    absurd (omega (arith, heads _ _ _ _ (sym g ∙ found)))
no_field format text back kind x rest (is_closed k tail bytes b h e p ends) f =
    let found : quote ∷ back ≡ quote ∷ rest = (enclosed_only format tail bytes (quote ∷ back) x rest h (subst (λ y. BeginsWithField format y x rest) e f) p).0 in
    let same : rest ≡ back = cc in ends (subst (EndsField format) same f.ends)

-- the pieces of a field in quotes end at one place
open_same : (format : RecordFormat) (text tail tail2 bytes bytes2 r s : List ℕ) → text ≡ quote ∷ tail → text ≡ quote ∷ tail2 →
    BeginsWithPieces format true tail bytes r → BeginsWithPieces format true tail2 bytes2 s → r ≡ s
open_same format text tail tail2 bytes bytes2 r s e f p q =
    let same : tail ≡ tail2 = cc in
    (pieces_same format true bytes bytes2 p.front q.front r s p.are_pieces q.are_pieces p.longest q.longest (sym p.whole ∙ same ∙ q.whole)).1

field_fault_same : (format : RecordFormat) (text b c : List ℕ) (k l : FaultKind) → FieldFault format text b k → FieldFault format text c l → (k ≡ l) × (b ≡ c)
field_fault_same format text b c k l (is_bare k2 bytes kb nq nn p n) (is_bare l2 bytes2 kc nq2 nn2 q m) =
    let same : b ≡ c = (pieces_same format false bytes bytes2 p.front q.front b c p.are_pieces q.are_pieces p.longest q.longest (sym p.whole ∙ q.whole)).1 in
    (bare_kind_same k2 l2 b c kb kc same, same)
field_fault_same format text b c k l (is_bare k2 bytes kb nq nn p n) (is_open tail bytes2 h e q same) = absurd (nq tail h e)
field_fault_same format text b c k l (is_bare k2 bytes kb nq nn p n) (is_escape tail bytes2 rest h e q g) = absurd (nq tail h e)
field_fault_same format text b c k l (is_bare k2 bytes kb nq nn p n) (is_closed l2 tail bytes2 kc h e q m) = absurd (nq tail h e)
field_fault_same format text b c k l (is_open tail bytes h e p same) (is_bare l2 bytes2 kc nq nn q m) = absurd (nq tail h e)
field_fault_same format text b c k l (is_open tail bytes h e p same) (is_open tail2 bytes2 h2 f q same2) = (refl, same ∙ sym same2)
field_fault_same format text b c k l (is_open tail bytes h e p same) (is_escape tail2 bytes2 rest h2 f q g) =
    let found = open_same format text tail tail2 bytes bytes2 [] c e f p q in cc
field_fault_same format text b c k l (is_open tail bytes h e p same) (is_closed l2 tail2 bytes2 kc h2 f q m) =
    let found = open_same format text tail tail2 bytes bytes2 [] (quote ∷ c) e f p q in cc
field_fault_same format text b c k l (is_escape tail bytes rest h e p g) (is_bare l2 bytes2 kc nq nn q m) = absurd (nq tail h e)
field_fault_same format text b c k l (is_escape tail bytes rest h e p g) (is_open tail2 bytes2 h2 f q same2) =
    let found = open_same format text tail tail2 bytes bytes2 b [] e f p q in cc
field_fault_same format text b c k l (is_escape tail bytes rest h e p g) (is_escape tail2 bytes2 rest2 h2 f q g2) =
    (refl, open_same format text tail tail2 bytes bytes2 b c e f p q)
field_fault_same format text b c k l (is_escape tail bytes rest h e p g) (is_closed l2 tail2 bytes2 kc h2 f q m) =
    absurd (omega (arith, heads _ _ _ _ (sym g ∙ open_same format text tail tail2 bytes bytes2 b (quote ∷ c) e f p q)))
field_fault_same format text b c k l (is_closed k2 tail bytes kb h e p n) (is_bare l2 bytes2 kc nq nn q m) = absurd (nq tail h e)
field_fault_same format text b c k l (is_closed k2 tail bytes kb h e p n) (is_open tail2 bytes2 h2 f q same2) =
    let found = open_same format text tail tail2 bytes bytes2 (quote ∷ b) [] e f p q in cc
field_fault_same format text b c k l (is_closed k2 tail bytes kb h e p n) (is_escape tail2 bytes2 rest2 h2 f q g2) =
    absurd (omega (arith, heads _ _ _ _ (open_same format text tail tail2 bytes bytes2 (quote ∷ b) c e f p q ∙ g2)))
field_fault_same format text b c k l (is_closed k2 tail bytes kb h e p n) (is_closed l2 tail2 bytes2 kc h2 f q m) =
    let found = open_same format text tail tail2 bytes bytes2 (quote ∷ b) (quote ∷ c) e f p q in
    let same : b ≡ c = cc in
    (closed_kind_same format k2 l2 b c kb kc same, same)

-- ---- the text at a fault

no_escape_is : (text : List ℕ) (c b : ℕ) (rest : List ℕ) → HasNoEscape text → text ≡ c ∷ rest → escape_value c ≡ Some b → ⊥
no_escape_is [] c b rest h e m = cc
no_escape_is (d ∷ text) c b rest h e m = let f : None ≡ Some b = sym h ∙ ap escape_value (heads _ _ _ _ e) ∙ m in cc

no_newline_is : (a : ℕ) (text rest : List ℕ) → BeginsWithNo newline text → a ∷ text ≢ carriage_return ∷ newline ∷ rest
no_newline_is a [] rest h e = cc
no_newline_is a (b ∷ text) rest h e = h (cc)

-- a carriage return ends no field
return_no_end : (format : RecordFormat) (a : ℕ) (text : List ℕ) → a ≡ carriage_return → BeginsWithNo newline text → EndsField format (a ∷ text) → ⊥
return_no_end format a text e h =
    no_end format (a ∷ text) (λ f. cc) (λ rest f. separator_not_return format (sym (heads _ _ _ _ f) ∙ e))
    (λ rest f. absurd (omega (arith, e, heads _ _ _ _ f))) (λ rest m f. no_newline_is a text rest h f)

quote_no_end : (format : RecordFormat) (a : ℕ) (text : List ℕ) → a ≡ quote → EndsField format (a ∷ text) → ⊥
quote_no_end format a text e =
    no_end format (a ∷ text) (λ f. cc) (λ rest f. separator_not_quote format (sym (heads _ _ _ _ f) ∙ e))
    (λ rest f. absurd (omega (arith, e, heads _ _ _ _ f))) (λ rest m f. absurd (omega (arith, e, heads _ _ _ _ f)))

-- a backslash that makes no escape begins no piece
escape_no_piece : (format : RecordFormat) (quoted : Bool) (a : ℕ) (text : List ℕ) → has_escapes format ≡ true → a ≡ backslash → HasNoEscape text →
    StartsNoPiece format quoted (a ∷ text)
escape_no_piece format quoted a text h e none =
    none_at format quoted a text (ap (is_special format quoted) e ∙ special_backslash format quoted h)
    (λ rest k f g. no_doubled_escapes format quoted k h) (λ c b rest k f m g. no_escape_is text c b rest none g m)

-- a quote that ends a field begins no piece
closing_no_piece : (format : RecordFormat) (a : ℕ) (text : List ℕ) → has_quotes format ≡ true → (doubles_quotes format true ≡ true → a ≢ quote) →
    StartsNoPiece format true (quote ∷ a ∷ text)
closing_no_piece format a text h other =
    none_at format true quote (a ∷ text) (special_quote format true h) (λ rest k f g. other k (heads _ _ _ _ g))
    (λ c b rest k f m g. absurd (omega (arith, f)))

field_fault : (format : RecordFormat) (back : List ℕ) (kind : FaultKind) (front : List ℕ) → IsFieldBefore format back kind front → IsFaultAt format kind back →
    FieldFault format (front ++ back) back kind
field_fault format [] kind front before stands = absurd stands
field_fault format (a ∷ back) kind front (return_bare bytes text h p) stands =
    is_bare StrayReturn bytes (subst (λ x. BareKind StrayReturn (x ∷ back)) (sym stands.0) (bare_return back))
    (λ tail k. pieces_not_quote format bytes text (a ∷ back) tail p (λ e f. absurd (omega (arith, stands.0, heads _ _ _ _ f))) k)
    (λ tail k e ends. absurd (true≢false (sym k ∙ h)))
    (record { front = text; whole = refl; are_pieces = p; longest = none_bare format a back (ap (is_special format false) stands.0 ∙ special_return format h) (λ f. absurd (omega (arith, stands.0, f))) })
    (return_no_end format a back stands.0 stands.1)
field_fault format (a ∷ back) kind front (return_enclosed bytes text h q p) stands =
    is_closed StrayReturn (text ++ quote ∷ a ∷ back) bytes (subst (λ x. ClosedKind format StrayReturn (x ∷ back)) (sym stands.0) (closed_return back h)) q (inner text (a ∷ back))
    (record { front = text; whole = refl; are_pieces = p; longest = closing_no_piece format a back q (λ k f. absurd (omega (arith, stands.0, f))) })
    (return_no_end format a back stands.0 stands.1)
field_fault format (a ∷ back) kind front (quote_bare bytes text h p some) stands =
    is_bare StrayQuote bytes (subst (λ x. BareKind StrayQuote (x ∷ back)) (sym stands) (bare_quote back))
    (λ tail k. pieces_not_quote format bytes text (a ∷ back) tail p (λ e. absurd (some e)) k)
    (λ tail k e ends. pieces_not_null format bytes text (a ∷ back) tail p (λ f. absurd (some f)) k e)
    (record { front = text; whole = refl; are_pieces = p; longest = none_bare format a back (ap (is_special format false) stands ∙ special_quote format false h) (λ f. absurd (omega (arith, stands, f))) })
    (quote_no_end format a back stands)
field_fault format (a ∷ back) kind front (open_quote h) stands =
    is_open back stands.1 h (ap (λ x. x ∷ back) stands.0)
    (record { front = back; whole = sym (append-nil back); are_pieces = stands.2; longest = none_at_end format true }) refl
field_fault format (a ∷ back) kind front (behind_quote bytes text h p) stands =
    is_closed BehindQuote (text ++ quote ∷ a ∷ back) bytes (closed_other a back stands.2) h (inner text (a ∷ back))
    (record { front = text; whole = refl; are_pieces = p; longest = closing_no_piece format a back h stands.3 })
    (no_end format (a ∷ back) (λ f. cc) (λ rest f. stands.0 (heads _ _ _ _ f)) (λ rest f. stands.1 (heads _ _ _ _ f)) (λ rest m f. stands.2 m (heads _ _ _ _ f)))
field_fault format (a ∷ back) kind front (escape_bare bytes text h p no_null) stands =
    is_bare UnknownEscape bytes (subst (λ x. BareKind UnknownEscape (x ∷ back)) (sym stands.0) (bare_escape back))
    (λ tail k. pieces_not_quote format bytes text (a ∷ back) tail p (λ e f. absurd (omega (arith, stands.0, heads _ _ _ _ f))) k)
    (λ tail k e ends. no_null tail ends e)
    (record { front = text; whole = refl; are_pieces = p; longest = escape_no_piece format false a back h stands.0 stands.1 })
    (λ ends. ends_not_backslash format (a ∷ back) back ends (ap (λ x. x ∷ back) stands.0))
field_fault format (a ∷ back) kind front (escape_enclosed bytes text h q p) stands =
    is_escape (text ++ a ∷ back) bytes back q refl
    (record { front = text; whole = refl; are_pieces = p; longest = escape_no_piece format true a back h stands.0 stands.1 })
    (ap (λ x. x ∷ back) stands.0)

-- ---- the first record with a fault

-- a field and a separator before a fault
field_before : (format : RecordFormat) (whole_text : List ℕ) (x : Option (List ℕ)) (text rest back : List ℕ) → IsField format x text →
    whole_text ≡ (text ++ separator format ∷ rest) ++ back → BeginsWithField format whole_text x (separator format ∷ (rest ++ back))
field_before format whole_text x text rest back h e =
    record { front = text; whole = e ∙ append_assoc text (separator format ∷ rest) back; is_field = h; ends = at_separator (rest ++ back) }

record_fault_same : (format : RecordFormat) (b c : List ℕ) (k l : FaultKind) (t u : List ℕ) → IsRecordBefore format b k t → IsFaultAt format k b →
    IsRecordBefore format c l u → IsFaultAt format l c → t ++ b ≡ u ++ c → (k ≡ l) × (b ≡ c)
record_fault_same format b c k l t u (in_field text h) hb (in_field text2 m) hc e =
    field_fault_same format (t ++ b) b c k l (field_fault format b k t h hb) (subst (λ x. FieldFault format x c l) (sym e) (field_fault format c l u m hc))
record_fault_same format b c k l t u (in_field text h) hb (behind_field x text2 rest2 f m) hc e =
    absurd (no_field format (t ++ b) b k x _ (field_fault format b k t h hb) (field_before format (t ++ b) x text2 rest2 c f e))
record_fault_same format b c k l t u (behind_field x text rest f h) hb (in_field text2 m) hc e =
    absurd (no_field format (u ++ c) c l x _ (field_fault format c l u m hc) (field_before format (u ++ c) x text rest b f (sym e)))
record_fault_same format b c k l t u (behind_field x text rest f h) hb (behind_field y text2 rest2 g m) hc e =
    let same = field_same format (t ++ b) x y _ _ (field_before format (t ++ b) x text rest b f refl) (field_before format (t ++ b) y text2 rest2 c g e) in
    let rests : separator format ∷ (rest ++ b) ≡ separator format ∷ (rest2 ++ c) = same.1 in
    record_fault_same format b c k l rest rest2 h hb m hc (cc)

-- a text with a fault in its first record begins with no record
pub no_record : (format : RecordFormat) (back : List ℕ) (kind : FaultKind) (front whole_text : List ℕ) (fields : List (Option (List ℕ))) (end : List ℕ) → IsRecordBefore format back kind front →
    IsFaultAt format kind back → whole_text ≡ front ++ back → IsRecordThen format whole_text fields end → ⊥
no_record format back kind front whole_text fields end (in_field text h) stands e r =
    let first = first_of format whole_text fields end r in
    no_field format whole_text back kind first.field first.back (subst (λ x. FieldFault format x back kind) (sym e) (field_fault format back kind front h stands)) first.first
no_record format back kind front whole_text fields end (behind_field x text rest f h) stands e r =
    let next = then_others format whole_text x (rest ++ back) fields end (field_before format whole_text x text rest back f e) r in
    no_record format back kind rest (rest ++ back) next.others end h stands refl next.then

-- ---- the first table with a fault

-- a record and a line end before a fault
pub whole_before : (format : RecordFormat) (whole_text : List ℕ) (fields : List (Option (List ℕ))) (text line rest back : List ℕ) → IsRecord format fields text → IsLineEnd format line →
    whole_text ≡ (text ++ line ++ rest) ++ back → IsRecordThen format whole_text fields (rest ++ back)
whole_before format whole_text fields text line rest back h l e = record {
  front = text;
  back = line ++ (rest ++ back);
  whole = e ∙ append_assoc (text ++ line) rest back ∙ append_assoc text line (rest ++ back);
  is_record = h;
  ends = at_line_end line (rest ++ back) l;
}

rows_fault_same : (format : RecordFormat) (b c : List ℕ) (k l : FaultKind) (t u : List ℕ) → IsTableBefore format b k t → IsFaultAt format k b →
    IsTableBefore format c l u → IsFaultAt format l c → t ++ b ≡ u ++ c → (k ≡ l) × (b ≡ c)
rows_fault_same format b c k l t u (in_record text h) hb (in_record text2 m) hc e = record_fault_same format b c k l t u h hb m hc e
rows_fault_same format b c k l t u (in_record text h) hb (behind_record fields text2 line rest2 r n m) hc e =
    absurd (no_record format b k t (t ++ b) fields _ h hb refl (whole_before format (t ++ b) fields text2 line rest2 c r n e))
rows_fault_same format b c k l t u (behind_record fields text line rest r n h) hb (in_record text2 m) hc e =
    absurd (no_record format c l u (u ++ c) fields _ m hc refl (whole_before format (u ++ c) fields text line rest b r n (sym e)))
rows_fault_same format b c k l t u (behind_record fields text line rest r n h) hb (behind_record fields2 text2 line2 rest2 s o m) hc e =
    rows_fault_same format b c k l rest rest2 h hb m hc
    (then_same format (t ++ b) fields _ fields2 _ (whole_before format (t ++ b) fields text line rest b r n refl)
    (whole_before format (t ++ b) fields2 text2 line2 rest2 c s o e)).1

-- ---- faults

fault_of : ℕ → FaultKind → Fault
fault_of i kind = record { at = i; kind = kind }

-- a fault is its byte and its kind
fault_is : (text : List ℕ) (fault other : Fault) → fault.at < length text → other.at < length text → (fault.kind ≡ other.kind) × (drop fault.at text ≡ drop other.at text) →
    fault ≡ other
unfolding fault_of
fault_is text fault other h k same =
    let at : fault.at ≡ other.at = omega (arith, h, k, length-drop fault.at text, length-drop other.at text, ap length same.1) in
    ap (λ i. fault_of i fault.kind) at ∙ ap (fault_of other.at) same.0

parts : (text : List ℕ) (i j : ℕ) → take i text ++ drop i text ≡ take j text ++ drop j text
parts text i j = take-append-drop i text ∙ sym (take-append-drop j text)

pub fault_same : (format : RecordFormat) (text : List ℕ) (fault other : Fault) → IsFaulty format text fault → IsFaulty format text other → fault ≡ other
fault_same format text fault other h k =
    fault_is text fault other h.within k.within
    (record_fault_same format _ _ fault.kind other.kind _ _ h.before h.stands k.before k.stands (parts text fault.at other.at))

pub table_fault_same : (format : RecordFormat) (text : List ℕ) (fault other : Fault) → IsFaultyTable format text fault → IsFaultyTable format text other → fault ≡ other
table_fault_same format text fault other h k =
    fault_is text fault other h.within k.within
    (rows_fault_same format _ _ fault.kind other.kind _ _ h.before h.stands k.before k.stands (parts text fault.at other.at))

-- ---- the text before a fault

before_field : (format : RecordFormat) (back : List ℕ) (kind : FaultKind) (front : List ℕ) → IsFieldBefore format back kind front →
    (more : List ℕ) × (x : Option (List ℕ)) × IsField format x (front ++ more)
before_field format back kind front (return_bare bytes text h p) = ([], Some bytes, subst (IsField format (Some bytes)) (sym (append-nil text)) (bare bytes text p))
before_field format back kind front (return_enclosed bytes text h q p) =
    ([], Some bytes, subst (IsField format (Some bytes)) (sym (append-nil (quote ∷ text ++ quote ∷ []))) (enclosed bytes text q p))
before_field format back kind front (quote_bare bytes text h p some) = ([], Some bytes, subst (IsField format (Some bytes)) (sym (append-nil text)) (bare bytes text p))
before_field format back kind front (open_quote h) = ([], Some [], bare [] [] no_pieces)
before_field format back kind front (behind_quote bytes text h p) =
    ([], Some bytes, subst (IsField format (Some bytes)) (sym (append-nil (quote ∷ text ++ quote ∷ []))) (enclosed bytes text h p))
before_field format back kind front (escape_bare bytes text h p no_null) = ([], Some bytes, subst (IsField format (Some bytes)) (sym (append-nil text)) (bare bytes text p))
before_field format back kind front (escape_enclosed bytes text h q p) = (quote ∷ [], Some bytes, enclosed bytes text q p)

before_record : (format : RecordFormat) (back : List ℕ) (kind : FaultKind) (front : List ℕ) → IsRecordBefore format back kind front →
    (more : List ℕ) × (fields : List (Option (List ℕ))) × IsRecord format fields (front ++ more)
before_record format back kind front (in_field text h) =
    let found = before_field format back kind text h in (found.0, found.1 ∷ [], one_field found.1 (text ++ found.0) found.2)
before_record format back kind front (behind_field x text rest f h) =
    let found = before_record format back kind rest h in (
      found.0,
      x ∷ found.1,
      subst (IsRecord format (x ∷ found.1)) (sym (append_assoc text (separator format ∷ rest) found.0)) (more_fields x found.1 text (rest ++ found.0) f found.2),
    )

before_table : (format : RecordFormat) (back : List ℕ) (kind : FaultKind) (front : List ℕ) → IsTableBefore format back kind front →
    (more : List ℕ) × (rows : List (List (Option (List ℕ)))) × IsTable format rows (front ++ more)
before_table format back kind front (in_record text h) =
    let found = before_record format back kind text h in (
      found.0 ++ newline ∷ [],
      found.1 ∷ [],
      subst (IsTable format (found.1 ∷ [])) (append_assoc text found.0 (newline ∷ []))
          (table_more format found.1 [] (text ++ found.0) (newline ∷ []) [] found.2 line_feed no_records),
    )
before_table format back kind front (behind_record fields text line rest r l h) =
    let found = before_table format back kind rest h in (
      found.0,
      fields ∷ found.1,
      subst (IsTable format (fields ∷ found.1)) (sym (append_assoc (text ++ line) rest found.0 ∙ append_assoc text line (rest ++ found.0)))
          (table_more format fields found.1 text line (rest ++ found.0) r l found.2),
    )

pub fault_first : (format : RecordFormat) (text : List ℕ) (fault : Fault) → IsFaulty format text fault →
    (more : List ℕ) × (fields : List (Option (List ℕ))) × IsRecord format fields (take fault.at text ++ more)
fault_first format text fault h = before_record format (drop fault.at text) fault.kind (take fault.at text) h.before

pub table_fault_first : (format : RecordFormat) (text : List ℕ) (fault : Fault) → IsFaultyTable format text fault →
    (more : List ℕ) × (rows : List (List (Option (List ℕ)))) × IsTable format rows (take fault.at text ++ more)
table_fault_first format text fault h = before_table format (drop fault.at text) fault.kind (take fault.at text) h.before
