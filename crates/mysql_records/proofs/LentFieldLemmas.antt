-- Which fields are lent, and which ask for memory.
use Rattle.std.proofs.Common.{◌≡◌, ◌≢◌, ◌⊎◌, ℕ, Bool, true, false, true≢false, List, [], ◌∷◌, ◌++◌, Option, inl, inr, length, refl, sym, ap, ◌∙◌, subst, append_assoc, arith}
use Rattle.std.specs.Prelude.{Result, Ok, Err, IfErr, IsErrAnd}
use Rattle.std.specs.List.{list_any}
use Rattle.mysql_records.specs.Fields.{AreHeldPieces, StartsNoPiece}
use Rattle.mysql_records.specs.Formats.{has_quotes, is_special, quote, separator}
use Rattle.mysql_records.specs.LentFields.{HasPair, IsCopied, copied_bare, copied_enclosed, IsHeld, AreFieldsBefore, none_before, more_before, AreHeld, BeginsWithSomeField, AsksForMemory, AreFieldsBeforeError, HasMemoryCause}
use Rattle.mysql_records.specs.Records.{IsPiece, raw, doubled, escape, IsPieces, no_pieces, more_pieces, BeginsWithField, at_separator, BeginsWithRecord}
use Rattle.mysql_records.specs.Seen.{lent_fields_seen}
use Rattle.mysql_records.specs.declared.fields.FieldError.{FieldError}
use Rattle.mysql_records.specs.declared.fault.RecordError.{RecordError}
use Rattle.mysql_records.specs.declared.fault.RecordError.TheVariants.{Fault as FaultError, Memory}
use Rattle.mysql_records.specs.declared.format.RecordFormat.{RecordFormat}
use Rattle.mysql_records.specs.declared.lent.LentField.{LentField}
use Rattle.mysql_records.specs.declared.lent.LentField.TheVariants as lent
use Rattle.mysql_records.proofs.PieceLemmas.{none_starts, one_piece, piece_same, special_backslash, special_doubled}
use Rattle.mysql_records.proofs.RowLemmas.{either_false, raw_pieces}
use Rattle.mysql_records.proofs.FieldLemmas.{heads, pieces_not_quote}
use Rattle.mysql_records.proofs.RecordLemmas.{first_of}

-- ---- pieces of two bytes

-- such a piece begins with a special byte
pair_special : (format : RecordFormat) (quoted : Bool) (b a : ℕ) (pair more text : List ℕ) → IsPiece format quoted b pair → length pair ≡ 2 → a ∷ text ≡ pair ++ more →
    is_special format quoted a ≡ true
pair_special format quoted b a pair more text (raw x h) two e = absurd (omega (arith, two))
pair_special format quoted b a pair more text (doubled h) two e = ap (is_special format quoted) (heads _ _ _ _ e) ∙ special_doubled format quoted h
pair_special format quoted b a pair more text (escape c x h m) two e = ap (is_special format quoted) (heads _ _ _ _ e) ∙ special_backslash format quoted h

-- no such piece is in bytes that stand for themselves, and no piece behind them
no_pair_in : (format : RecordFormat) (quoted : Bool) (raws rest bytes front : List ℕ) (b : ℕ) (pair more : List ℕ) → list_any (is_special format quoted) raws ≡ false →
    StartsNoPiece format quoted rest → IsPieces format quoted bytes front → IsPiece format quoted b pair → length pair ≡ 2 → raws ++ rest ≡ front ++ (pair ++ more) → ⊥
no_pair_in format quoted [] rest bytes front b pair more none longest no_pieces p two e = none_starts format quoted rest longest b pair more p e
no_pair_in format quoted [] rest bytes front b pair more none longest (more_pieces b2 text bytes2 rest2 q ps) p two e =
    none_starts format quoted rest longest b2 text (rest2 ++ (pair ++ more)) q (e ∙ append_assoc text rest2 (pair ++ more))
no_pair_in format quoted (r ∷ raws) rest bytes front b pair more none longest no_pieces p two e =
    true≢false (sym (pair_special format quoted b r pair more (raws ++ rest) p two e) ∙ (either_false (is_special format quoted r) _ none).0)
no_pair_in format quoted (r ∷ raws) rest bytes front b pair more none longest (more_pieces b2 text bytes2 rest2 q ps) p two e =
    let both = either_false (is_special format quoted r) _ none in
    let same = piece_same format quoted r b2 (r ∷ []) text (raws ++ rest) (rest2 ++ (pair ++ more)) (raw r both.0) q (e ∙ append_assoc text rest2 (pair ++ more)) in
    no_pair_in format quoted raws rest bytes2 rest2 b pair more both.1 longest ps p two same.1

pub no_pair : (format : RecordFormat) (quoted : Bool) (text raws rest : List ℕ) → list_any (is_special format quoted) raws ≡ false → StartsNoPiece format quoted rest →
    text ≡ raws ++ rest → HasPair format quoted text → ⊥
no_pair format quoted text raws rest none longest e h =
    no_pair_in format quoted raws rest h.bytes h.front h.byte h.pair h.rest none longest h.are_pieces h.is_piece h.two
    (sym e ∙ h.whole ∙ append_assoc h.front h.pair h.rest)

pub on_error : {A E : Type 0} (r : Result A E) (P : Type 0) → P → IfErr r (λ error. P)
on_error (Ok x) P h = tt
on_error (Err e) P h = h

-- such a piece is behind bytes that stand for themselves
pub has_pair : (format : RecordFormat) (quoted : Bool) (text raws rest : List ℕ) → list_any (is_special format quoted) raws ≡ false → text ≡ raws ++ rest →
    (b : ℕ) (pair more : List ℕ) → IsPiece format quoted b pair → length pair ≡ 2 → rest ≡ pair ++ more → HasPair format quoted text
has_pair format quoted text raws rest none e b pair more p two f = record {
  bytes = raws;
  front = raws;
  byte = b;
  pair = pair;
  rest = more;
  whole = e ∙ ap (λ x. raws ++ x) f ∙ sym (append_assoc raws pair more);
  are_pieces = raw_pieces format quoted raws none;
  is_piece = p;
  two = two;
}

-- ---- fields that are copied

-- a field in quotes is copied only for a piece in quotes
enclosed_pair : (format : RecordFormat) (text tail : List ℕ) → has_quotes format ≡ true → text ≡ quote ∷ tail → IsCopied format text → HasPair format true tail
enclosed_pair format text tail q e (copied_bare t h) =
    absurd (pieces_not_quote format h.bytes h.front (h.pair ++ h.rest) tail h.are_pieces
    (λ nil. pieces_not_quote format (h.byte ∷ []) h.pair h.rest tail (one_piece format false h.byte h.pair h.is_piece) (λ none. absurd (omega (arith, h.two, ap length none))) q)
    q (sym (append_assoc h.front h.pair h.rest) ∙ sym h.whole ∙ e))
enclosed_pair format text tail q e (copied_enclosed t q2 h) = let same : t ≡ tail = cc in subst (HasPair format true) same h

-- a field without quotes is copied only for a piece without quotes
bare_pair : (format : RecordFormat) (text : List ℕ) → ((tail : List ℕ) → has_quotes format ≡ true → text ≢ quote ∷ tail) → IsCopied format text → HasPair format false text
bare_pair format text no_quote (copied_bare t h) = h
bare_pair format text no_quote (copied_enclosed t q h) = absurd (no_quote t q refl)

pub enclosed_copied : (format : RecordFormat) (text tail : List ℕ) → has_quotes format ≡ true → text ≡ quote ∷ tail → HasPair format true tail → IsCopied format text
enclosed_copied format text tail q e h = subst (IsCopied format) (sym e) (copied_enclosed tail q h)

pub bare_copied : (format : RecordFormat) (text : List ℕ) → HasPair format false text → IsCopied format text
bare_copied format text h = copied_bare text h

pub enclosed_held : (format : RecordFormat) (text tail : List ℕ) (field : LentField) → has_quotes format ≡ true → text ≡ quote ∷ tail →
    AreHeldPieces format true tail field → IsHeld format text field
enclosed_held format text tail lent.Null q e h = tt
enclosed_held format text tail (lent.Lent bytes) q e h = λ copied. h (enclosed_pair format text tail q e copied)
enclosed_held format text tail (lent.Made bytes) q e h = enclosed_copied format text tail q e h

pub bare_held : (format : RecordFormat) (text : List ℕ) (field : LentField) → ((tail : List ℕ) → has_quotes format ≡ true → text ≢ quote ∷ tail) →
    AreHeldPieces format false text field → IsHeld format text field
bare_held format text lent.Null no_quote h = tt
bare_held format text (lent.Lent bytes) no_quote h = λ copied. h (bare_pair format text no_quote copied)
bare_held format text (lent.Made bytes) no_quote h = bare_copied format text h

-- an error of a record that is handed on
pub record_error_on : {A : Type 0} (P : RecordError → Type 0) (r : Result A RecordError) (e : RecordError) → IsErrAnd r (λ t. t ≡ e) → P e → IfErr r P
record_error_on P (Ok a) e same h = absurd same
record_error_on P (Err t) e same h = subst P (sym same) h

-- an error of a field that is handed on
pub field_error_on : {A : Type 0} (P : FieldError → Type 0) (r : Result A FieldError) (e : FieldError) → IsErrAnd r (λ t. t ≡ e) → P e → IfErr r P
field_error_on P (Ok a) e same h = absurd same
field_error_on P (Err t) e same h = subst P (sym same) h

-- ---- the fields of a record while they are read

-- one more field before the rest
pub before_more : (format : RecordFormat) (rest : List ℕ) (x : Option (List ℕ)) (more text : List ℕ) (done : List (Option (List ℕ))) →
    AreFieldsBefore format rest done text → BeginsWithField format rest x (separator format ∷ more) → AreFieldsBefore format more (done ++ x ∷ []) text
before_more format rest x more text done none_before f =
    subst (AreFieldsBefore format more (x ∷ [])) (sym f.whole) (more_before x [] f.front more f.is_field none_before)
before_more format rest x more text done (more_before y fields t more2 h k) f =
    more_before y (fields ++ x ∷ []) t more2 h (before_more format rest x more more2 fields k f)

-- a place in a list with one more element: the last one, or one before it
place_of : (done : List LentField) (x : LentField) (before : List LentField) (field : LentField) (after : List LentField) → done ++ x ∷ [] ≡ before ++ field ∷ after →
    ((done ≡ before) × (x ≡ field)) ⊎ ((more : List LentField) × (done ≡ before ++ field ∷ more))
place_of [] x [] field after e = inl (refl, cc)
place_of [] x (b ∷ []) field after e = cc
place_of [] x (b ∷ c ∷ before) field after e = cc
place_of (d ∷ done) x [] field after e = let same : d ≡ field = cc in inr (done, ap (λ y. y ∷ done) same)
place_of (d ∷ done) x (b ∷ before) field after e =
    let first : d ≡ b = cc in
    let others : done ++ x ∷ [] ≡ before ++ field ∷ after = cc in
    elim (place_of done x before field after others) [
      | inl last ↦ inl (cc (first, last.0), last.1)
      | inr within ↦ inr (within.0, cc (first, within.1))
    ]

pub held_none : (format : RecordFormat) (text : List ℕ) → AreHeld format text []
held_none format text [] field after e = cc
held_none format text (b ∷ before) field after e = cc

pub held_more : (format : RecordFormat) (text rest : List ℕ) (done : List LentField) (x : LentField) → AreHeld format text done →
    AreFieldsBefore format rest (lent_fields_seen done) text → IsHeld format rest x → AreHeld format text (done ++ x ∷ [])
held_more format text rest done x h k f before field after e =
    elim (place_of done x before field after e) [
      | inl last ↦ (rest, subst (λ y. AreFieldsBefore format rest (lent_fields_seen y) text) last.0 k, subst (IsHeld format rest) last.1 f)
      | inr within ↦ h before field within.0 within.1
    ]

-- ---- the cause of out of memory

-- a text that has a field before a rest begins with a field
first_before : (format : RecordFormat) (text rest : List ℕ) (fields : List (Option (List ℕ))) → AreFieldsBefore format rest fields text →
    (text ≡ rest) ⊎ BeginsWithSomeField format text
first_before format text rest fields none_before = inl refl
first_before format text rest fields (more_before y fields2 t more h k) =
    inr (y, separator format ∷ more, record { front = t; whole = refl; is_field = h; ends = at_separator more })

asks_without_room : (format : RecordFormat) (room count : ℕ) (text : List ℕ) → AsksForMemory format room count text → AsksForMemory format 0 0 text
asks_without_room format room count text h =
    elim h [
      | inl copied ↦ inl copied
      | inr full ↦ inr (omega arith, full.1)
    ]

pub cause_of : (format : RecordFormat) (text : List ℕ) (room : ℕ) (fields : List (Option (List ℕ))) (error : RecordError) → AreFieldsBeforeError format text room fields error →
    HasMemoryCause format text error
cause_of format text room fields (FaultError fault) h = tt
cause_of format text room fields (Memory error) h =
    elim (first_before format text h.0 fields h.1) [
      | inl same ↦ subst (AsksForMemory format 0 0) (sym same) (asks_without_room format room (length fields) h.0 h.2)
      | inr some ↦ inr (omega arith, some)
    ]

-- a text that begins with a record begins with a field
pub some_of_record : (format : RecordFormat) (text : List ℕ) (fields : List (Option (List ℕ))) (rest : List ℕ) → BeginsWithRecord format text fields rest →
    BeginsWithSomeField format text
some_of_record format text fields rest h =
    let first = first_of format text fields rest h.then in (first.field, first.back, first.first)

pub cause_of_record : (format : RecordFormat) (text : List ℕ) (fields : List (Option (List ℕ))) (rest : List ℕ) → BeginsWithRecord format text fields rest →
    AsksForMemory format 0 0 text
cause_of_record format text fields rest h = inr (omega arith, some_of_record format text fields rest h)

-- the first field of a text, by that of its rest
pub some_first : (format : RecordFormat) (text rest : List ℕ) → (text ≡ rest) ⊎ BeginsWithSomeField format text → BeginsWithSomeField format rest → BeginsWithSomeField format text
some_first format text rest h some =
    elim h [
      | inl same ↦ subst (BeginsWithSomeField format) (sym same) some
      | inr first ↦ first
    ]

pub asks_first : (format : RecordFormat) (text rest : List ℕ) → (text ≡ rest) ⊎ BeginsWithSomeField format text → AsksForMemory format 0 0 rest → AsksForMemory format 0 0 text
asks_first format text rest h asks =
    elim h [
      | inl same ↦ subst (AsksForMemory format 0 0) (sym same) asks
      | inr first ↦ inr (omega arith, first)
    ]
