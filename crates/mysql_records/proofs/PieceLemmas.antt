-- The bytes of a field as a text has them: the text's front decides which texts they are.
use Rattle.std.proofs.Common.{◌≡◌, ◌≢◌, ℕ, Bool, true, false, List, [], ◌∷◌, ◌++◌, Some, inl, inr, refl, sym, ap, ◌∙◌, subst, append_assoc, append-nil, true≢false}
use Rattle.mysql_records.specs.Formats.{backslash, carriage_return, doubles_quotes, escape_value, has_escapes, has_quotes, is_special, newline, quote, separator}
use Rattle.mysql_records.specs.Records.{IsPiece, raw, doubled, escape, IsPieces, no_pieces, more_pieces}
use Rattle.std.proofs.lemmas.Bool.{cases_Bool}
use Rattle.mysql_records.specs.Fields.{BeginsSpecial, StartsNoPiece}
use Rattle.mysql_records.specs.declared.format.RecordFormat.{RecordFormat}
use Rattle.mysql_records.specs.declared.format.RecordFormat.TheVariants.{Csv, Tsv, MysqlCsv, MysqlTsv}

-- ---- which bytes are special

pub special_backslash : (format : RecordFormat) (quoted : Bool) → has_escapes format ≡ true → is_special format quoted backslash ≡ true
special_backslash Csv quoted h = cc
special_backslash Tsv quoted h = cc
special_backslash MysqlCsv true h = refl
special_backslash MysqlCsv false h = refl
special_backslash MysqlTsv true h = refl
special_backslash MysqlTsv false h = refl

pub special_doubled : (format : RecordFormat) (quoted : Bool) → doubles_quotes format quoted ≡ true → is_special format quoted quote ≡ true
special_doubled Csv true h = refl
special_doubled Csv false h = cc
special_doubled Tsv quoted h = cc
special_doubled MysqlCsv quoted h = cc
special_doubled MysqlTsv quoted h = cc

pub special_quote : (format : RecordFormat) (quoted : Bool) → has_quotes format ≡ true → is_special format quoted quote ≡ true
special_quote Csv true h = refl
special_quote Csv false h = refl
special_quote Tsv quoted h = cc
special_quote MysqlCsv true h = refl
special_quote MysqlCsv false h = refl
special_quote MysqlTsv quoted h = cc

pub special_separator : (format : RecordFormat) → is_special format false (separator format) ≡ true
special_separator Csv = refl
special_separator Tsv = refl
special_separator MysqlCsv = refl
special_separator MysqlTsv = refl

pub special_newline : (format : RecordFormat) → is_special format false newline ≡ true
special_newline Csv = refl
special_newline Tsv = refl
special_newline MysqlCsv = refl
special_newline MysqlTsv = refl

pub special_return : (format : RecordFormat) → has_escapes format ≡ false → is_special format false carriage_return ≡ true
special_return Csv h = refl
special_return Tsv h = refl
special_return MysqlCsv h = cc
special_return MysqlTsv h = cc

pub no_doubled_escapes : (format : RecordFormat) (quoted : Bool) → doubles_quotes format quoted ≡ true → has_escapes format ≡ true → ⊥
no_doubled_escapes Csv quoted h k = cc
no_doubled_escapes Tsv quoted h k = cc
no_doubled_escapes MysqlCsv quoted h k = cc
no_doubled_escapes MysqlTsv quoted h k = cc

pub none_doubled_bare : (format : RecordFormat) → doubles_quotes format false ≡ true → ⊥
none_doubled_bare Csv h = cc
none_doubled_bare Tsv h = cc
none_doubled_bare MysqlCsv h = cc
none_doubled_bare MysqlTsv h = cc

-- ---- one piece

-- a text begins with one piece at most
pub piece_same : (format : RecordFormat) (quoted : Bool) (b c : ℕ) (t u r s : List ℕ) → IsPiece format quoted b t → IsPiece format quoted c u →
    t ++ r ≡ u ++ s → (b ≡ c) × (r ≡ s)
piece_same format quoted b c t u r s (raw x h) (raw y k) e = (cc, cc)
piece_same format quoted b c t u r s (raw x h) (doubled k) e =
    let f : x ≡ quote = cc in absurd (true≢false (sym (special_doubled format quoted k) ∙ ap (is_special format quoted) (sym f) ∙ h))
piece_same format quoted b c t u r s (raw x h) (escape d y k m) e =
    let f : x ≡ backslash = cc in absurd (true≢false (sym (special_backslash format quoted k) ∙ ap (is_special format quoted) (sym f) ∙ h))
piece_same format quoted b c t u r s (doubled h) (raw y k) e =
    let f : quote ≡ y = cc in absurd (true≢false (sym (special_doubled format quoted h) ∙ ap (is_special format quoted) f ∙ k))
piece_same format quoted b c t u r s (doubled h) (doubled k) e = (refl, cc)
piece_same format quoted b c t u r s (doubled h) (escape d y k m) e = absurd (no_doubled_escapes format quoted h k)
piece_same format quoted b c t u r s (escape d x h m) (raw y k) e =
    let f : backslash ≡ y = cc in absurd (true≢false (sym (special_backslash format quoted h) ∙ ap (is_special format quoted) f ∙ k))
piece_same format quoted b c t u r s (escape d x h m) (doubled k) e = absurd (no_doubled_escapes format quoted k h)
piece_same format quoted b c t u r s (escape d x h m) (escape d2 y k n) e =
    let f : d ≡ d2 = cc in
    let g : Some x ≡ Some y = sym m ∙ ap escape_value f ∙ n in
    (cc, cc)

pub starts_none : (format : RecordFormat) (quoted : Bool) (text : List ℕ) → ((b : ℕ) (t rest : List ℕ) → IsPiece format quoted b t → text ≢ t ++ rest) → StartsNoPiece format quoted text
unfolding StartsNoPiece
starts_none format quoted text h = h

pub none_starts : (format : RecordFormat) (quoted : Bool) (text : List ℕ) → StartsNoPiece format quoted text → (b : ℕ) (t rest : List ℕ) → IsPiece format quoted b t → text ≢ t ++ rest
unfolding StartsNoPiece
none_starts format quoted text h = h

-- an empty text
pub none_at_end : (format : RecordFormat) (quoted : Bool) → StartsNoPiece format quoted []
unfolding StartsNoPiece
none_at_end format quoted b t rest (raw x h) e = cc
none_at_end format quoted b t rest (doubled h) e = cc
none_at_end format quoted b t rest (escape c x h m) e = cc

-- a special byte that begins neither a doubled quote nor an escape
pub none_at : (format : RecordFormat) (quoted : Bool) (a : ℕ) (text : List ℕ) → is_special format quoted a ≡ true →
    ((rest : List ℕ) → doubles_quotes format quoted ≡ true → a ≡ quote → text ≢ quote ∷ rest) →
    ((c b : ℕ) (rest : List ℕ) → has_escapes format ≡ true → a ≡ backslash → escape_value c ≡ Some b → text ≢ c ∷ rest) →
    StartsNoPiece format quoted (a ∷ text)
unfolding StartsNoPiece
none_at format quoted a text special no_doubled no_escape b t rest (raw x h) e =
    let f : a ≡ x = cc in true≢false (sym special ∙ ap (is_special format quoted) f ∙ h)
none_at format quoted a text special no_doubled no_escape b t rest (doubled h) e =
    let f : a ≡ quote = cc in let g : text ≡ quote ∷ rest = cc in no_doubled rest h f g
none_at format quoted a text special no_doubled no_escape b t rest (escape c x h m) e =
    let f : a ≡ backslash = cc in let g : text ≡ c ∷ rest = cc in no_escape c x rest h f m g

-- ---- pieces in a row

pub pieces-append : (format : RecordFormat) (quoted : Bool) (bytes more t u : List ℕ) → IsPieces format quoted bytes t → IsPieces format quoted more u →
    IsPieces format quoted (bytes ++ more) (t ++ u)
pieces-append format quoted bytes more t u no_pieces k = k
pieces-append format quoted bytes more t u (more_pieces b text bytes2 rest p h) k =
    subst (λ x. IsPieces format quoted (b ∷ (bytes2 ++ more)) x) (sym (append_assoc text rest u))
    (more_pieces b text (bytes2 ++ more) (rest ++ u) p (pieces-append format quoted bytes2 more rest u h k))

pub one_piece : (format : RecordFormat) (quoted : Bool) (b : ℕ) (t : List ℕ) → IsPiece format quoted b t → IsPieces format quoted (b ∷ []) t
one_piece format quoted b t p = subst (λ x. IsPieces format quoted (b ∷ []) x) (append-nil t) (more_pieces b t [] [] p no_pieces)

-- a text begins with one longest row of pieces
pub pieces_same : (format : RecordFormat) (quoted : Bool) (bytes more t u r s : List ℕ) → IsPieces format quoted bytes t → IsPieces format quoted more u →
    StartsNoPiece format quoted r → StartsNoPiece format quoted s → t ++ r ≡ u ++ s → (bytes ≡ more) × (r ≡ s)
pieces_same format quoted bytes more t u r s no_pieces no_pieces hr hs e = (refl, e)
pieces_same format quoted bytes more t u r s no_pieces (more_pieces b text bytes2 rest p h) hr hs e =
    absurd (none_starts format quoted r hr b text (rest ++ s) p (e ∙ append_assoc text rest s))
pieces_same format quoted bytes more t u r s (more_pieces b text bytes2 rest p h) no_pieces hr hs e =
    absurd (none_starts format quoted s hs b text (rest ++ r) p (sym e ∙ append_assoc text rest r))
pieces_same format quoted bytes more t u r s (more_pieces b text bytes2 rest p h) (more_pieces c text2 bytes3 rest2 q k) hr hs e =
    let first = piece_same format quoted b c text text2 (rest ++ r) (rest2 ++ s) p q (sym (append_assoc text rest r) ∙ e ∙ append_assoc text2 rest2 s) in
    let others = pieces_same format quoted bytes2 bytes3 rest rest2 r s h k hr hs first.1 in
    (cc (first.0, others.0), others.1)

-- ---- a doubled quote and an escape, by the front of a text

none_special : (format : RecordFormat) (quoted : Bool) (text : List ℕ) → BeginsSpecial format quoted text →
    ((rest : List ℕ) → doubles_quotes format quoted ≡ true → text ≢ quote ∷ quote ∷ rest) →
    ((c b : ℕ) (rest : List ℕ) → has_escapes format ≡ true → escape_value c ≡ Some b → text ≢ backslash ∷ c ∷ rest) → StartsNoPiece format quoted text
none_special format quoted [] special no_doubled no_escape = none_at_end format quoted
none_special format quoted (a ∷ text) special no_doubled no_escape =
    none_at format quoted a text special (λ rest h e f. let g : a ∷ text ≡ quote ∷ quote ∷ rest = cc in no_doubled rest h g)
    (λ c b rest h e m f. let g : a ∷ text ≡ backslash ∷ c ∷ rest = cc in no_escape c b rest h m g)

-- not two quotes
pub none_doubled : (format : RecordFormat) (quoted : Bool) (text : List ℕ) → BeginsSpecial format quoted text → doubles_quotes format quoted ≡ true →
    ((rest : List ℕ) → text ≢ quote ∷ quote ∷ rest) → StartsNoPiece format quoted text
none_doubled format quoted text special h other =
    none_special format quoted text special (λ rest k e. other rest e) (λ c b rest k m e. no_doubled_escapes format quoted h k)

-- no escape
pub none_escape : (format : RecordFormat) (quoted : Bool) (text : List ℕ) → BeginsSpecial format quoted text → doubles_quotes format quoted ≡ false →
    ((c b : ℕ) (rest : List ℕ) → has_escapes format ≡ true → escape_value c ≡ Some b → text ≢ backslash ∷ c ∷ rest) → StartsNoPiece format quoted text
none_escape format quoted text special h other =
    none_special format quoted text special (λ rest k e. true≢false (sym k ∙ h)) other

-- a byte that isn't special is a piece
pub starts_special : (format : RecordFormat) (quoted : Bool) (a : ℕ) (text : List ℕ) → StartsNoPiece format quoted (a ∷ text) → is_special format quoted a ≡ true
starts_special format quoted a text h =
    elim (cases_Bool (is_special format quoted a)) [
      | inl e ↦ e
      | inr e ↦ absurd (none_starts format quoted (a ∷ text) h a (a ∷ []) text (raw a e) refl)
    ]
