-- A text begins with one field at most.
use Rattle.std.proofs.Common.{◌≡◌, ◌≢◌, ◌⊎◌, ℕ, Bool, true, false, ◌||◌, eqb, List, [], ◌∷◌, ◌++◌, Option, Some, None, inl, inr, refl, sym, ap, ◌∙◌, subst, append_assoc, arith, true≢false}
use Rattle.std.proofs.lemmas.Bool.{eqb-true}
use Rattle.mysql_records.specs.Faults.{HasNoEscape, BeginsWithNo, IsFaultAt}
use Rattle.mysql_records.specs.declared.fault.FaultKind.TheVariants.{StrayReturn, BehindQuote, UnknownEscape}
use Rattle.mysql_records.specs.Formats.{backslash, carriage_return, escape_value, has_escapes, has_quotes, is_special, newline, quote, separator}
use Rattle.mysql_records.specs.Records.{raw, doubled, escape, IsPieces, no_pieces, more_pieces, IsField, bare, enclosed, null, line_feed, return_line_feed, EndsRecord, at_line_end, at_text_end, EndsField, at_separator, at_record_end, BeginsWithField}
use Rattle.mysql_records.specs.Fields.{StartsNoPiece, BeginsWithPieces}
use Rattle.mysql_records.specs.declared.format.RecordFormat.{RecordFormat}
use Rattle.mysql_records.specs.declared.format.RecordFormat.TheVariants.{Csv, Tsv, MysqlCsv, MysqlTsv}
use Rattle.mysql_records.proofs.PieceLemmas.{special_backslash, special_quote, special_separator, special_newline, special_return, none_doubled_bare, none_at, none_at_end, none_starts, starts_special, pieces_same}

-- b'N'
pub letter_n : ℕ
letter_n = 78

-- ---- the texts that may follow a field

pub separator_not_backslash : (format : RecordFormat) → separator format ≢ backslash
separator_not_backslash Csv e = absurd (omega (arith, e))
separator_not_backslash Tsv e = absurd (omega (arith, e))
separator_not_backslash MysqlCsv e = absurd (omega (arith, e))
separator_not_backslash MysqlTsv e = absurd (omega (arith, e))

pub separator_not_quote : (format : RecordFormat) → separator format ≢ quote
separator_not_quote Csv e = absurd (omega (arith, e))
separator_not_quote Tsv e = absurd (omega (arith, e))
separator_not_quote MysqlCsv e = absurd (omega (arith, e))
separator_not_quote MysqlTsv e = absurd (omega (arith, e))

pub separator_not_newline : (format : RecordFormat) → separator format ≢ newline
separator_not_newline Csv e = absurd (omega (arith, e))
separator_not_newline Tsv e = absurd (omega (arith, e))
separator_not_newline MysqlCsv e = absurd (omega (arith, e))
separator_not_newline MysqlTsv e = absurd (omega (arith, e))

pub separator_not_return : (format : RecordFormat) → separator format ≢ carriage_return
separator_not_return Csv e = absurd (omega (arith, e))
separator_not_return Tsv e = absurd (omega (arith, e))
separator_not_return MysqlCsv e = absurd (omega (arith, e))
separator_not_return MysqlTsv e = absurd (omega (arith, e))

pub heads : (b c : ℕ) (x y : List ℕ) → b ∷ x ≡ c ∷ y → b ≡ c
heads b c x y e = cc

-- the first byte is neither of two others
pub ends_not : (format : RecordFormat) (a : ℕ) (text rest : List ℕ) → separator format ≢ a → newline ≢ a → carriage_return ≢ a →
    EndsField format text → text ≢ a ∷ rest
ends_not format a text rest s n r (at_separator more) e = s (heads _ _ _ _ e)
ends_not format a text rest s n r (at_record_end t more (at_line_end line more2 line_feed)) e = n (heads _ _ _ _ e)
ends_not format a text rest s n r (at_record_end t more (at_line_end line more2 (return_line_feed h))) e = r (heads _ _ _ _ e)
ends_not format a text rest s n r (at_record_end t more at_text_end) e = cc

pub ends_not_quote : (format : RecordFormat) (text rest : List ℕ) → EndsField format text → text ≢ quote ∷ rest
ends_not_quote format text rest = ends_not format quote text rest (separator_not_quote format) (λ e. absurd (omega (arith, e))) (λ e. absurd (omega (arith, e)))

pub ends_not_backslash : (format : RecordFormat) (text rest : List ℕ) → EndsField format text → text ≢ backslash ∷ rest
ends_not_backslash format text rest = ends_not format backslash text rest (separator_not_backslash format) (λ e. absurd (omega (arith, e))) (λ e. absurd (omega (arith, e)))

-- a special byte other than a backslash begins no piece of a field without quotes
pub none_bare : (format : RecordFormat) (a : ℕ) (text : List ℕ) → is_special format false a ≡ true → a ≢ backslash → StartsNoPiece format false (a ∷ text)
none_bare format a text special n =
    none_at format false a text special (λ rest h e f. none_doubled_bare format h) (λ c b rest h e m f. n e)

pub ends_no_piece : (format : RecordFormat) (text : List ℕ) → EndsField format text → StartsNoPiece format false text
ends_no_piece format text (at_separator more) = none_bare format (separator format) more (special_separator format) (separator_not_backslash format)
ends_no_piece format text (at_record_end t more (at_line_end line more2 line_feed)) =
    none_bare format newline more2 (special_newline format) (λ e. absurd (omega (arith, e)))
ends_no_piece format text (at_record_end t more (at_line_end line more2 (return_line_feed h))) =
    none_bare format carriage_return (newline ∷ more2) (special_return format h) (λ e. absurd (omega (arith, e)))
ends_no_piece format text (at_record_end t more at_text_end) = none_at_end format false

-- a closing quote begins no piece
pub quote_no_piece : (format : RecordFormat) (text : List ℕ) → has_quotes format ≡ true → EndsField format text → StartsNoPiece format true (quote ∷ text)
quote_no_piece format text h ends =
    none_at format true quote text (special_quote format true h) (λ rest k e f. ends_not_quote format text rest ends f)
    (λ c b rest k e m f. absurd (omega (arith, e)))

-- ---- a field without quotes begins as no other

pub pieces_not_quote : (format : RecordFormat) (bytes t rest tail : List ℕ) → IsPieces format false bytes t → (t ≡ [] → rest ≢ quote ∷ tail) →
    has_quotes format ≡ true → t ++ rest ≢ quote ∷ tail
pieces_not_quote format bytes t rest tail no_pieces other h e = other refl e
pieces_not_quote format bytes t rest tail (more_pieces b text bytes2 rest2 (raw x k) m) other h e =
    true≢false (sym (special_quote format false h) ∙ ap (is_special format false) (sym (heads _ _ _ _ e)) ∙ k)
pieces_not_quote format bytes t rest tail (more_pieces b text bytes2 rest2 (doubled k) m) other h e = none_doubled_bare format k
pieces_not_quote format bytes t rest tail (more_pieces b text bytes2 rest2 (escape c x k n) m) other h e =
    absurd (omega (arith, heads _ _ _ _ e))

pub bare_not_quote : (format : RecordFormat) (bytes t rest tail : List ℕ) → IsPieces format false bytes t → EndsField format rest →
    has_quotes format ≡ true → t ++ rest ≢ quote ∷ tail
bare_not_quote format bytes t rest tail p ends = pieces_not_quote format bytes t rest tail p (λ e. ends_not_quote format rest tail ends)

no_null_escape : (c b : ℕ) → c ≡ 78 → escape_value c ≡ Some b → ⊥
no_null_escape c b e h = let k : None ≡ Some b = ap escape_value (sym e) ∙ h in cc

pub pieces_not_null : (format : RecordFormat) (bytes t rest tail : List ℕ) → IsPieces format false bytes t → (t ≡ [] → rest ≢ backslash ∷ 78 ∷ tail) →
    has_escapes format ≡ true → t ++ rest ≢ backslash ∷ 78 ∷ tail
pieces_not_null format bytes t rest tail no_pieces other h e = other refl e
pieces_not_null format bytes t rest tail (more_pieces b text bytes2 rest2 (raw x k) m) other h e =
    true≢false (sym (special_backslash format false h) ∙ ap (is_special format false) (sym (heads _ _ _ _ e)) ∙ k)
pieces_not_null format bytes t rest tail (more_pieces b text bytes2 rest2 (doubled k) m) other h e = none_doubled_bare format k
pieces_not_null format bytes t rest tail (more_pieces b text bytes2 rest2 (escape c x k n) m) other h e =
    let f : c ≡ 78 = cc in no_null_escape c x f n

pub bare_not_null : (format : RecordFormat) (bytes t rest tail : List ℕ) → IsPieces format false bytes t → EndsField format rest →
    has_escapes format ≡ true → t ++ rest ≢ backslash ∷ 78 ∷ tail
bare_not_null format bytes t rest tail p ends = pieces_not_null format bytes t rest tail p (λ e. ends_not_backslash format rest (78 ∷ tail) ends)

-- ---- one field

pub inner : (text r : List ℕ) → (quote ∷ text ++ quote ∷ []) ++ r ≡ quote ∷ (text ++ quote ∷ r)
inner text r = ap (λ x. quote ∷ x) (append_assoc text (quote ∷ []) r)

pub fields_same : (format : RecordFormat) (x y : Option (List ℕ)) (t u r s : List ℕ) → IsField format x t → IsField format y u →
    EndsField format r → EndsField format s → t ++ r ≡ u ++ s → (x ≡ y) × (r ≡ s)
fields_same format x y t u r s (bare bytes text p) (bare bytes2 text2 q) hr hs e =
    let same = pieces_same format false bytes bytes2 text text2 r s p q (ends_no_piece format r hr) (ends_no_piece format s hs) e in
    (ap Some same.0, same.1)
fields_same format x y t u r s (bare bytes text p) (enclosed bytes2 text2 h q) hr hs e = absurd (bare_not_quote format bytes text r _ p hr h e)
fields_same format x y t u r s (bare bytes text p) (null h) hr hs e = absurd (bare_not_null format bytes text r _ p hr h e)
fields_same format x y t u r s (enclosed bytes text h p) (bare bytes2 text2 q) hr hs e = absurd (bare_not_quote format bytes2 text2 s _ q hs h (sym e))
fields_same format x y t u r s (enclosed bytes text h p) (enclosed bytes2 text2 k q) hr hs e =
    let whole : quote ∷ (text ++ quote ∷ r) ≡ quote ∷ (text2 ++ quote ∷ s) = sym (inner text r) ∙ e ∙ inner text2 s in
    let within : text ++ quote ∷ r ≡ text2 ++ quote ∷ s = cc in
    let same = pieces_same format true bytes bytes2 text text2 (quote ∷ r) (quote ∷ s) p q (quote_no_piece format r h hr) (quote_no_piece format s h hs) within in
    let rests : quote ∷ r ≡ quote ∷ s = same.1 in
    (ap Some same.0, cc)
fields_same format x y t u r s (enclosed bytes text h p) (null k) hr hs e = absurd (omega (arith, heads _ _ _ _ e))
fields_same format x y t u r s (null h) (bare bytes2 text2 q) hr hs e = absurd (bare_not_null format bytes2 text2 s _ q hs h (sym e))
fields_same format x y t u r s (null h) (enclosed bytes2 text2 k q) hr hs e = absurd (omega (arith, heads _ _ _ _ e))
fields_same format x y t u r s (null h) (null k) hr hs e = (refl, cc)

pub field_same : (format : RecordFormat) (text : List ℕ) (x y : Option (List ℕ)) (r s : List ℕ) → BeginsWithField format text x r →
    BeginsWithField format text y s → (x ≡ y) × (r ≡ s)
field_same format text x y r s h k = fields_same format x y h.front k.front r s h.is_field k.is_field h.ends k.ends (sym h.whole ∙ k.whole)

-- ---- the field at the front of a text

-- a field that begins with a quote
enclosed_is : (format : RecordFormat) (tail bytes rest0 : List ℕ) (x : Option (List ℕ)) (t rest : List ℕ) → has_quotes format ≡ true →
    IsField format x t → EndsField format rest → quote ∷ tail ≡ t ++ rest → BeginsWithPieces format true tail bytes rest0 →
    (rest0 ≡ quote ∷ rest) × (x ≡ Some bytes)
enclosed_is format tail bytes rest0 x t rest h (bare bytes2 text p) ends e k = absurd (bare_not_quote format bytes2 text rest tail p ends h (sym e))
enclosed_is format tail bytes rest0 x t rest h (null m) ends e k = absurd (omega (arith, heads _ _ _ _ e))
enclosed_is format tail bytes rest0 x t rest h (enclosed bytes2 text m p) ends e k =
    let whole : quote ∷ tail ≡ quote ∷ (text ++ quote ∷ rest) = e ∙ inner text rest in
    let within : tail ≡ text ++ quote ∷ rest = cc in
    let same = pieces_same format true bytes bytes2 k.front text rest0 (quote ∷ rest) k.are_pieces p k.longest (quote_no_piece format rest h ends) (sym k.whole ∙ within) in
    (same.1, ap Some (sym same.0))

pub enclosed_only : (format : RecordFormat) (tail bytes rest0 : List ℕ) (x : Option (List ℕ)) (rest : List ℕ) → has_quotes format ≡ true →
    BeginsWithField format (quote ∷ tail) x rest → BeginsWithPieces format true tail bytes rest0 → (rest0 ≡ quote ∷ rest) × (x ≡ Some bytes)
enclosed_only format tail bytes rest0 x rest h f k = enclosed_is format tail bytes rest0 x f.front rest h f.is_field f.ends f.whole k

bare_is : (format : RecordFormat) (text bytes rest0 : List ℕ) (x : Option (List ℕ)) (t rest : List ℕ) →
    ((tail : List ℕ) → has_quotes format ≡ true → text ≢ quote ∷ tail) →
    ((tail : List ℕ) → has_escapes format ≡ true → text ≡ backslash ∷ 78 ∷ tail → EndsField format tail → ⊥) →
    IsField format x t → EndsField format rest → text ≡ t ++ rest → BeginsWithPieces format false text bytes rest0 → rest0 ≡ rest
bare_is format text bytes rest0 x t rest no_quote no_null (bare bytes2 text2 p) ends e k =
    (pieces_same format false bytes bytes2 k.front text2 rest0 rest k.are_pieces p k.longest (ends_no_piece format rest ends) (sym k.whole ∙ e)).1
bare_is format text bytes rest0 x t rest no_quote no_null (enclosed bytes2 text2 m p) ends e k = absurd (no_quote _ m e)
bare_is format text bytes rest0 x t rest no_quote no_null (null m) ends e k = absurd (no_null rest m e ends)

pub bare_only : (format : RecordFormat) (text bytes rest0 : List ℕ) (x : Option (List ℕ)) (rest : List ℕ) →
    ((tail : List ℕ) → has_quotes format ≡ true → text ≢ quote ∷ tail) →
    ((tail : List ℕ) → has_escapes format ≡ true → text ≡ backslash ∷ 78 ∷ tail → EndsField format tail → ⊥) →
    BeginsWithField format text x rest → BeginsWithPieces format false text bytes rest0 → rest0 ≡ rest
bare_only format text bytes rest0 x rest no_quote no_null f k = bare_is format text bytes rest0 x f.front rest no_quote no_null f.is_field f.ends f.whole k

-- ---- the texts that may not follow a field

pub no_end : (format : RecordFormat) (text : List ℕ) → text ≢ [] → ((rest : List ℕ) → text ≢ separator format ∷ rest) →
    ((rest : List ℕ) → text ≢ newline ∷ rest) → ((rest : List ℕ) → has_escapes format ≡ false → text ≢ carriage_return ∷ newline ∷ rest) →
    EndsField format text → ⊥
no_end format text empty separated ended returned (at_separator more) = separated more refl
no_end format text empty separated ended returned (at_record_end t more (at_line_end line more2 line_feed)) = ended more2 refl
no_end format text empty separated ended returned (at_record_end t more (at_line_end line more2 (return_line_feed h))) = returned more2 h refl
no_end format text empty separated ended returned (at_record_end t more at_text_end) = empty refl

pub ends_separator : (format : RecordFormat) (text rest : List ℕ) → text ≡ separator format ∷ rest → EndsField format text
ends_separator format text rest e = subst (EndsField format) (sym e) (at_separator rest)

pub ends_empty : (format : RecordFormat) (text : List ℕ) → text ≡ [] → EndsField format text
ends_empty format text e = subst (EndsField format) (sym e) (at_record_end [] [] at_text_end)

pub record_ends_line : (format : RecordFormat) (text rest : List ℕ) → text ≡ newline ∷ rest → EndsRecord format text rest
record_ends_line format text rest e = subst (λ x. EndsRecord format x rest) (sym e) (at_line_end (newline ∷ []) rest line_feed)

pub record_ends_return : (format : RecordFormat) (text rest : List ℕ) → has_escapes format ≡ false → text ≡ carriage_return ∷ newline ∷ rest → EndsRecord format text rest
record_ends_return format text rest h e =
    subst (λ x. EndsRecord format x rest) (sym e) (at_line_end (carriage_return ∷ newline ∷ []) rest (return_line_feed h))

pub record_ends_empty : (format : RecordFormat) (text : List ℕ) → text ≡ [] → EndsRecord format text text
record_ends_empty format text e = subst (λ x. EndsRecord format x x) (sym e) at_text_end

either_true : (a b : Bool) → (a || b) ≡ true → (a ≡ true) ⊎ (b ≡ true)
either_true true b h = inl refl
either_true false b h = inr h

value_cases : (o : Option ℕ) → (o ≡ None) ⊎ ((b : ℕ) × (o ≡ Some b))
value_cases None = inl refl
value_cases (Some b) = inr (b, refl)

-- a backslash that begins no piece is before no byte that makes an escape
no_escape_at : (format : RecordFormat) (quoted : Bool) (a : ℕ) (text : List ℕ) → has_escapes format ≡ true → a ≡ backslash →
    StartsNoPiece format quoted (a ∷ text) → HasNoEscape text
no_escape_at format quoted a [] h e longest = tt
no_escape_at format quoted a (c ∷ text) h e longest =
    elim (value_cases (escape_value c)) [
      | inl none ↦ none
      | inr some ↦ absurd (none_starts format quoted (a ∷ c ∷ text) longest some.0 (backslash ∷ c ∷ []) text
          (escape c some.0 h some.1) (ap (λ x. x ∷ c ∷ text) e))
    ]

-- a quote after the pieces of a field in quotes is the only other byte than an escape
pub fault_in_quotes : (format : RecordFormat) (text : List ℕ) → has_quotes format ≡ true → text ≢ [] → ((rest : List ℕ) → text ≢ quote ∷ rest) →
    StartsNoPiece format true text → IsFaultAt format UnknownEscape text × (has_escapes format ≡ true)
fault_in_quotes format [] h some other longest = absurd (some refl)
fault_in_quotes Csv (a ∷ text) h some other longest =
    let special : (eqb a quote || false) ≡ true = starts_special Csv true a text longest in
    absurd (elim (either_true (eqb a quote) false special) [
      | inl e ↦ other text (ap (λ x. x ∷ text) (eqb-true a quote e))
      | inr e ↦ true≢false (sym e)
    ])
fault_in_quotes Tsv (a ∷ text) h some other longest = cc
fault_in_quotes MysqlCsv (a ∷ text) h some other longest =
    let special : (eqb a quote || (eqb a backslash || false)) ≡ true = starts_special MysqlCsv true a text longest in
    elim (either_true (eqb a quote) _ special) [
      | inl e ↦ absurd (other text (ap (λ x. x ∷ text) (eqb-true a quote e)))
      | inr e ↦ elim (either_true (eqb a backslash) false e) [
        | inl f ↦ ((eqb-true a backslash f, no_escape_at MysqlCsv true a text refl (eqb-true a backslash f) longest), refl)
        | inr f ↦ absurd (true≢false (sym f))
      ]
    ]
fault_in_quotes MysqlTsv (a ∷ text) h some other longest = cc

-- a text that follows no field, behind a carriage return
no_newline : (format : RecordFormat) (a : ℕ) (text : List ℕ) → has_escapes format ≡ false → a ≡ carriage_return → (EndsField format (a ∷ text) → ⊥) →
    BeginsWithNo newline text
no_newline format a [] h e ends = tt
no_newline format a (b ∷ text) h e ends =
    λ f. let whole : a ∷ b ∷ text ≡ carriage_return ∷ newline ∷ text = cc in
    ends (at_record_end (a ∷ b ∷ text) text (record_ends_return format (a ∷ b ∷ text) text h whole))

-- one of four bytes, which may follow a field unless it is the first or the second
one_of_four : (a b c d e : ℕ) (P : Type 0) → (a ≡ b → P) → (a ≡ c → P) → (a ≡ d → P) → (a ≡ e → P) →
    (eqb a b || (eqb a c || (eqb a d || (eqb a e || false)))) ≡ true → P
one_of_four a b c d e P p q r s h =
    elim (either_true (eqb a b) _ h) [
      | inl f ↦ p (eqb-true a b f)
      | inr f ↦ elim (either_true (eqb a c) _ f) [
        | inl g ↦ q (eqb-true a c g)
        | inr g ↦ elim (either_true (eqb a d) _ g) [
          | inl k ↦ r (eqb-true a d k)
          | inr k ↦ elim (either_true (eqb a e) _ k) [
            | inl l ↦ s (eqb-true a e l)
            | inr l ↦ absurd (true≢false (sym l))
          ]
        ]
      ]
    ]

one_of_three : (a b c d : ℕ) (P : Type 0) → (a ≡ b → P) → (a ≡ c → P) → (a ≡ d → P) →
    (eqb a b || (eqb a c || (eqb a d || false))) ≡ true → P
one_of_three a b c d P p q r h =
    elim (either_true (eqb a b) _ h) [
      | inl f ↦ p (eqb-true a b f)
      | inr f ↦ elim (either_true (eqb a c) _ f) [
        | inl g ↦ q (eqb-true a c g)
        | inr g ↦ elim (either_true (eqb a d) _ g) [
          | inl k ↦ r (eqb-true a d k)
          | inr k ↦ absurd (true≢false (sym k))
        ]
      ]
    ]

-- the first byte after the pieces of a field without quotes, in a format without escapes
pub fault_bare : (format : RecordFormat) (text : List ℕ) → (EndsField format text → ⊥) → ((rest : List ℕ) → text ≢ quote ∷ rest) →
    ((rest : List ℕ) → text ≢ backslash ∷ rest) → StartsNoPiece format false text → IsFaultAt format StrayReturn text × (has_escapes format ≡ false)
fault_bare format [] ends quoted escaped longest = absurd (ends (ends_empty format [] refl))
fault_bare Csv (a ∷ text) ends quoted escaped longest =
    one_of_four a quote 44 carriage_return newline (IsFaultAt Csv StrayReturn (a ∷ text) × (has_escapes Csv ≡ false))
    (λ e. absurd (quoted text (ap (λ x. x ∷ text) e)))
    (λ e. absurd (ends (ends_separator Csv (a ∷ text) text (ap (λ x. x ∷ text) e))))
    (λ e. ((e, no_newline Csv a text refl e ends), refl))
    (λ e. absurd (ends (at_record_end (a ∷ text) text (record_ends_line Csv (a ∷ text) text (ap (λ x. x ∷ text) e)))))
    (starts_special Csv false a text longest)
fault_bare Tsv (a ∷ text) ends quoted escaped longest =
    one_of_three a 9 carriage_return newline (IsFaultAt Tsv StrayReturn (a ∷ text) × (has_escapes Tsv ≡ false))
    (λ e. absurd (ends (ends_separator Tsv (a ∷ text) text (ap (λ x. x ∷ text) e))))
    (λ e. ((e, no_newline Tsv a text refl e ends), refl))
    (λ e. absurd (ends (at_record_end (a ∷ text) text (record_ends_line Tsv (a ∷ text) text (ap (λ x. x ∷ text) e)))))
    (starts_special Tsv false a text longest)
fault_bare MysqlCsv (a ∷ text) ends quoted escaped longest =
    absurd (one_of_four a quote backslash 44 newline ⊥
    (λ e. quoted text (ap (λ x. x ∷ text) e))
    (λ e. escaped text (ap (λ x. x ∷ text) e))
    (λ e. ends (ends_separator MysqlCsv (a ∷ text) text (ap (λ x. x ∷ text) e)))
    (λ e. ends (at_record_end (a ∷ text) text (record_ends_line MysqlCsv (a ∷ text) text (ap (λ x. x ∷ text) e))))
    (starts_special MysqlCsv false a text longest))
fault_bare MysqlTsv (a ∷ text) ends quoted escaped longest =
    absurd (one_of_three a backslash 9 newline ⊥
    (λ e. escaped text (ap (λ x. x ∷ text) e))
    (λ e. ends (ends_separator MysqlTsv (a ∷ text) text (ap (λ x. x ∷ text) e)))
    (λ e. ends (at_record_end (a ∷ text) text (record_ends_line MysqlTsv (a ∷ text) text (ap (λ x. x ∷ text) e))))
    (starts_special MysqlTsv false a text longest))

-- a backslash is special only where it escapes
backslash_escapes : (format : RecordFormat) → is_special format false backslash ≡ true → has_escapes format ≡ true
backslash_escapes Csv h = cc
backslash_escapes Tsv h = cc
backslash_escapes MysqlCsv h = refl
backslash_escapes MysqlTsv h = refl

-- a quote is special only where there are quotes
quote_encloses : (format : RecordFormat) → is_special format false quote ≡ true → has_quotes format ≡ true
quote_encloses Csv h = refl
quote_encloses Tsv h = cc
quote_encloses MysqlCsv h = refl
quote_encloses MysqlTsv h = cc

pub has_quotes_at : (format : RecordFormat) (text rest : List ℕ) → text ≡ quote ∷ rest → StartsNoPiece format false text → has_quotes format ≡ true
has_quotes_at format text rest e longest =
    quote_encloses format (starts_special format false quote rest (subst (StartsNoPiece format false) e longest))

pub has_escapes_at : (format : RecordFormat) (text rest : List ℕ) → text ≡ backslash ∷ rest → StartsNoPiece format false text → has_escapes format ≡ true
has_escapes_at format text rest e longest =
    backslash_escapes format (starts_special format false backslash rest (subst (StartsNoPiece format false) e longest))

pub fault_escape : (format : RecordFormat) (text rest : List ℕ) → text ≡ backslash ∷ rest → StartsNoPiece format false text → IsFaultAt format UnknownEscape text
fault_escape format text rest e longest =
    subst (IsFaultAt format UnknownEscape) (sym e)
    (refl, no_escape_at format false backslash rest (has_escapes_at format text rest e longest) refl (subst (StartsNoPiece format false) e longest))

-- the text after a closing quote
pub fault_behind : (format : RecordFormat) (text : List ℕ) → (EndsField format text → ⊥) →
    ((rest : List ℕ) → has_escapes format ≡ false → text ≢ carriage_return ∷ rest) → StartsNoPiece format true (quote ∷ text) →
    IsFaultAt format BehindQuote text
fault_behind format [] ends other longest = absurd (ends (ends_empty format [] refl))
fault_behind format (a ∷ text) ends other longest = (
  λ e. ends (ends_separator format (a ∷ text) text (ap (λ x. x ∷ text) e)),
  λ e. ends (at_record_end (a ∷ text) text (record_ends_line format (a ∷ text) text (ap (λ x. x ∷ text) e))),
  λ h e. other text h (ap (λ x. x ∷ text) e),
  λ h e. none_starts format true (quote ∷ a ∷ text) longest quote (quote ∷ quote ∷ []) text (doubled h) (ap (λ x. quote ∷ x ∷ text) e),
)

pub fault_return : (format : RecordFormat) (text rest : List ℕ) → has_escapes format ≡ false → text ≡ carriage_return ∷ rest → (EndsField format text → ⊥) →
    IsFaultAt format StrayReturn text
fault_return format text rest h e ends =
    subst (IsFaultAt format StrayReturn) (sym e)
    (refl, no_newline format carriage_return rest h refl (subst (λ x. EndsField format x → ⊥) e ends))
