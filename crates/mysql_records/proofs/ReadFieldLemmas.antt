-- The facts about a field that is read, and about one that is refused.
use Rattle.std.proofs.Common.{◌≡◌, ◌≢◌, ℕ, true, false, eqb, List, [], ◌∷◌, ◌++◌, Option, Some, None, length, refl, sym, ap, ◌∙◌, subst, append-nil, true≢false}
use Rattle.std.specs.Option.{IfSome, IfNone, is_some}
use Rattle.std.proofs.lemmas.Bool.{eqb-true}
use Rattle.std.proofs.lemmas.List.{nil_from_length}
use Rattle.mysql_records.specs.Faults.{BeginsWithNoNull, IsFaultAt, IsFieldBefore, open_quote, escape_enclosed}
use Rattle.mysql_records.specs.Fields.{BeginsWithPieces, IsFieldEnd, IsFaultyField}
use Rattle.mysql_records.specs.Formats.{backslash, has_escapes, has_quotes, quote}
use Rattle.mysql_records.specs.Records.{IsPieces, bare, enclosed, null, EndsField, at_record_end, BeginsWithField}
use Rattle.mysql_records.specs.declared.fault.FaultKind.{FaultKind}
use Rattle.mysql_records.specs.declared.fault.FaultKind.TheVariants.{OpenQuote, UnknownEscape}
use Rattle.mysql_records.specs.declared.fields.FieldEnd.{FieldEnd}
use Rattle.mysql_records.specs.declared.fields.FieldEnd.TheVariants.{Separator, Record}
use Rattle.mysql_records.specs.declared.format.RecordFormat.{RecordFormat}
use Rattle.mysql_records.proofs.FieldLemmas.{ends_separator, enclosed_only, bare_only, fault_in_quotes, inner}

-- ---- options

pub some_of : {A : Type 0} (o : Option A) (P : A → Type 0) → true ≡ is_some o → IfSome o P → (x : A) × P x
some_of None P e h = absurd (true≢false e)
some_of (Some x) P e h = (x, h)

pub none_of : {A : Type 0} (o : Option A) (P : Type 0) → false ≡ is_some o → IfNone o P → P
none_of None P e h = h
none_of (Some x) P e h = absurd (true≢false (sym e))

ends_of : (format : RecordFormat) (text : List ℕ) (end : FieldEnd) → IsFieldEnd format text end → EndsField format text
ends_of format text (Separator rest) h = ends_separator format text rest.now h
ends_of format text (Record rest) h = at_record_end text rest.now h

pub ends_if_some : (format : RecordFormat) (text : List ℕ) (o : Option FieldEnd) → true ≡ is_some o → IfSome o (IsFieldEnd format text) → EndsField format text
ends_if_some format text o e h = let found = some_of o (IsFieldEnd format text) e h in ends_of format text found.0 found.1

pub empty_from : (text : List ℕ) → true ≡ eqb (length text) 0 → text ≡ []
empty_from text e = nil_from_length text (eqb-true (length text) 0 (sym e))

pub some_from : (text : List ℕ) → false ≡ eqb (length text) 0 → text ≢ []
some_from text e f = true≢false (sym (ap (λ x. eqb (length x) 0) f) ∙ sym e)

-- ---- a field in quotes

pub enclosed_read : (format : RecordFormat) (text tail bytes back rest : List ℕ) → has_quotes format ≡ true → text ≡ quote ∷ tail →
    BeginsWithPieces format true tail bytes back → back ≡ quote ∷ rest → EndsField format rest → BeginsWithField format text (Some bytes) rest
enclosed_read format text tail bytes back rest h e k f ends = record {
  front = quote ∷ k.front ++ quote ∷ [];
  whole = e ∙ ap (λ x. quote ∷ x) (k.whole ∙ ap (λ x. k.front ++ x) f) ∙ sym (inner k.front rest);
  is_field = enclosed bytes k.front h k.are_pieces;
  ends = ends;
}

enclosed_none : (format : RecordFormat) (text tail bytes back : List ℕ) → has_quotes format ≡ true → text ≡ quote ∷ tail →
    BeginsWithPieces format true tail bytes back → ((rest : List ℕ) → back ≡ quote ∷ rest → EndsField format rest → ⊥) →
    (x : Option (List ℕ)) (rest : List ℕ) → BeginsWithField format text x rest → ⊥
enclosed_none format text tail bytes back h e k other x rest f =
    other rest (enclosed_only format tail bytes back x rest h (subst (λ y. BeginsWithField format y x rest) e f) k).0 f.ends

pub enclosed_open : (format : RecordFormat) (text tail bytes back : List ℕ) → has_quotes format ≡ true → text ≡ quote ∷ tail →
    BeginsWithPieces format true tail bytes back → back ≡ [] → IsFaultyField format text OpenQuote text
enclosed_open format text tail bytes back h e k f = record {
  none = enclosed_none format text tail bytes back h e k (λ rest g ends. cc);
  front = [];
  whole = refl;
  before = open_quote h;
  stands = subst (IsFaultAt format OpenQuote) (sym e) (refl, bytes, subst (IsPieces format true bytes) (sym all) k.are_pieces);
}
  where
    all : tail ≡ k.front
    all = k.whole ∙ ap (λ x. k.front ++ x) f ∙ append-nil k.front

pub enclosed_escape : (format : RecordFormat) (text tail bytes back : List ℕ) → has_quotes format ≡ true → text ≡ quote ∷ tail →
    BeginsWithPieces format true tail bytes back → back ≢ [] → ((rest : List ℕ) → back ≢ quote ∷ rest) → IsFaultyField format text UnknownEscape back
enclosed_escape format text tail bytes back h e k some other = record {
  none = enclosed_none format text tail bytes back h e k (λ rest g ends. other rest g);
  front = quote ∷ k.front;
  whole = e ∙ ap (λ x. quote ∷ x) k.whole;
  before = escape_enclosed bytes k.front (fault_in_quotes format back h some other k.longest).1 h k.are_pieces;
  stands = (fault_in_quotes format back h some other k.longest).0;
}

pub enclosed_behind : (format : RecordFormat) (text tail bytes back rest : List ℕ) (kind : FaultKind) → has_quotes format ≡ true → text ≡ quote ∷ tail →
    BeginsWithPieces format true tail bytes back → back ≡ quote ∷ rest → (EndsField format rest → ⊥) →
    ((bytes front : List ℕ) → has_quotes format ≡ true → IsPieces format true bytes front → IsFieldBefore format rest kind (quote ∷ front ++ quote ∷ [])) →
    IsFaultAt format kind rest → IsFaultyField format text kind rest
enclosed_behind format text tail bytes back rest kind h e k f no_end before stands = record {
  none = enclosed_none format text tail bytes back h e k
      (λ rest2 g ends. let same : rest2 ≡ rest = cc in no_end (subst (EndsField format) same ends));
  front = quote ∷ k.front ++ quote ∷ [];
  whole = e ∙ ap (λ x. quote ∷ x) (k.whole ∙ ap (λ x. k.front ++ x) f) ∙ sym (inner k.front rest);
  before = before bytes k.front h k.are_pieces;
  stands = stands;
}

-- ---- a field without quotes

pub bare_read : (format : RecordFormat) (text bytes back : List ℕ) → BeginsWithPieces format false text bytes back → EndsField format back →
    BeginsWithField format text (Some bytes) back
bare_read format text bytes back k ends = record { front = k.front; whole = k.whole; is_field = bare bytes k.front k.are_pieces; ends = ends }

pub bare_fault : (format : RecordFormat) (text bytes back : List ℕ) (kind : FaultKind) →
    ((tail : List ℕ) → has_quotes format ≡ true → text ≢ quote ∷ tail) →
    ((tail : List ℕ) → has_escapes format ≡ true → text ≡ backslash ∷ 78 ∷ tail → EndsField format tail → ⊥) →
    BeginsWithPieces format false text bytes back → (EndsField format back → ⊥) →
    ((bytes front : List ℕ) → IsPieces format false bytes front → ((tail : List ℕ) → has_quotes format ≡ true → front ++ back ≢ quote ∷ tail) →
    (has_escapes format ≡ true → BeginsWithNoNull format (front ++ back)) → IsFieldBefore format back kind front) →
    IsFaultAt format kind back → IsFaultyField format text kind back
bare_fault format text bytes back kind no_quote no_null k no_end before stands = record {
  none = λ x rest f. let same : back ≡ rest = bare_only format text bytes back x rest no_quote no_null f k in
      no_end (subst (EndsField format) (sym same) f.ends);
  front = k.front;
  whole = k.whole;
  before = before bytes k.front k.are_pieces (λ tail h e. no_quote tail h (k.whole ∙ e)) (λ h rest ends e. no_null rest h (k.whole ∙ e) ends);
  stands = stands;
}

-- ---- NULL

pub null_read : (format : RecordFormat) (text rest : List ℕ) → has_escapes format ≡ true → text ≡ backslash ∷ 78 ∷ rest → EndsField format rest →
    BeginsWithField format text None rest
null_read format text rest h e ends = record { front = backslash ∷ 78 ∷ []; whole = e; is_field = null h; ends = ends }
