-- A literal, known only by its shape: its first bytes, which open nothing with the byte before
-- them, and its tokens. None of them is a place. They end at its end and are portable, whatever
-- follows.
use Rattle.std.specs.Prelude.{⊤}
use Rattle.std.proofs.Common.{◌≡◌, ◌++◌, ◌==◌, ◌&&◌, ◌||◌, not, ℕ, Bool, true, false, List, [], ◌∷◌, None, arith, inl, inr, refl, ap, ◌∙◌, sym, append-nil, append_assoc, true≢false}
use Rattle.std.specs.Char.{is_ascii_digit}
use Rattle.std.specs.List.{list_all}
use Rattle.std.proofs.lemmas.Bool.{and_parts, and_from, cases_Bool, eqb-true}
use Rattle.std.proofs.lemmas.Bool.Decides.{nat_tests}
use Rattle.mysql_sql_text.specs.StringUnits.{AreUnits}
use Rattle.mysql_sql_text.specs.ReadLiteral.{is_hexadecimal_digit}
use Rattle.mysql_sql_text.specs.LiteralEnd.{is_letter}
use Rattle.mysql_sql_text.specs.LiteralShape.{AreDigits, AreHexadecimalPairs, IsClosedString, closed_string, AreClosedStrings, one_string, more_strings, IsQuoted, IsLiteral, null_literal, natural_literal, negative_literal, hexadecimal_literal, quoted_literal}
use Rattle.mysql_named_params.specs.Bytes.{backquote, colon, dash, double_quote, hash, question_mark, single_quote, slash, begins, is_start_byte, bracket, dollar, point}
use Rattle.mysql_named_params.specs.Tokens.{Token, IsToken, text_of, text_then, AreTokensBefore, QuotedString, Plain}
use Rattle.mysql_named_params.specs.Tokens.{closed_string as closed_tail}
use Rattle.mysql_named_params.specs.Places.{place_count}
use Rattle.mysql_named_params.specs.TokensOf.{dash_comment}
use Rattle.mysql_named_params.proofs.TokenRowLemmas.{text_then-append, text_of-append, AreTokensBefore-append, place_count-append}
use Rattle.mysql_named_params.proofs.TokenEnds.{plain_at}
use Rattle.mysql_portable.specs.Portable.{may_open_line}
use Rattle.mysql_portable.proofs.PortableLemmas.{is_alike_on_all}
use Rattle.mysql_binding.proofs.UpToSpliceLemmas.{joins_nothing, opens_nothing_after}

-- a digit or a letter
abbrev pub is_alphanumeric : ℕ → Bool
is_alphanumeric b = is_ascii_digit b || is_letter b

-- no dash before another
abbrev pub no_double : Token → List ℕ → Bool
no_double (Plain b) rest = not (b == dash && begins (λ c. c == dash) rest)
no_double t rest = true

-- read alike on every server, and no part of an empty comment
abbrev pub AreSettledBefore : List ℕ → List Token → Type 0
AreSettledBefore rest [] = ⊤
AreSettledBefore rest (t ∷ ts) =
    (is_alike_on_all t (text_then rest ts) ≡ true) × (no_double t (text_then rest ts) ≡ true)
    × AreSettledBefore rest ts

pub AreSettledBefore-append : (xs ys : List Token) (rest : List ℕ) → AreSettledBefore (text_then rest ys) xs →
    AreSettledBefore rest ys → AreSettledBefore rest (xs ++ ys)
AreSettledBefore-append [] ys rest b h = h
AreSettledBefore-append (x ∷ xs) ys rest b h = (rw (text_then-append xs ys rest) b.0, rw (text_then-append xs ys rest) b.1, AreSettledBefore-append xs ys rest b.2 h)

-- this text is these tokens, whatever follows
pub record IsCutBefore (mode : Bool) (text : List ℕ) (ts : List Token) : Type 0 where
  pub cut_text : text_of ts ≡ text
  pub cut_tokens : (rest : List ℕ) → AreTokensBefore mode rest ts
  pub cut_settled : (rest : List ℕ) → AreSettledBefore rest ts
  pub cut_places : place_count ts ≡ 0

abbrev pub plain_tokens : List ℕ → List Token
plain_tokens [] = []
plain_tokens (b ∷ rest) = Plain b ∷ plain_tokens rest

-- a byte that passes a test is none that fails it
pub other : (test : ℕ → Bool) (b k : ℕ) → test b ≡ true → test k ≡ false → (b == k) ≡ false
other test b k h f =
    elim (cases_Bool (b == k)) [
      | inl e ↦ absurd (true≢false (sym h ∙ ap test (eqb-true b k e) ∙ f))
      | inr e ↦ e
    ]

-- a digit or a letter is plain before any rest
pub is_alphanumeric-plain : (mode : Bool) (b : ℕ) → is_alphanumeric b ≡ true → (rest : List ℕ) →
    IsToken mode (Plain b) rest
is_alphanumeric-plain mode b h rest =
    plain_at mode b rest (rw (not_k single_quote refl, not_k double_quote refl, not_k backquote refl, not_k hash refl, not_k dash refl, not_k slash refl, not_k colon refl, not_k question_mark refl) refl)
  where
    not_k : (k : ℕ) → is_alphanumeric k ≡ false → (b == k) ≡ false
    not_k k f = other is_alphanumeric b k h f

pub alphanumeric_portable : (b : ℕ) → is_alphanumeric b ≡ true → (rest : List ℕ) →
    is_alike_on_all (Plain b) rest ≡ true
alphanumeric_portable b h rest = rw (other is_alphanumeric b slash h refl, other is_alphanumeric b dash h refl, other is_alphanumeric b bracket h refl, other is_alphanumeric b dollar h refl, other is_alphanumeric b point h refl) refl

pub alphanumeric_single : (b : ℕ) → is_alphanumeric b ≡ true → (rest : List ℕ) → no_double (Plain b) rest ≡ true
alphanumeric_single b h rest = rw (other is_alphanumeric b dash h refl) refl

pub plain_text : (bytes : List ℕ) → text_of (plain_tokens bytes) ≡ bytes
plain_text [] = refl
plain_text (b ∷ bytes) = ap (λ x. b ∷ x) (plain_text bytes)

pub plain_places : (bytes : List ℕ) → place_count (plain_tokens bytes) ≡ 0
plain_places [] = refl
plain_places (b ∷ bytes) = plain_places bytes

pub plain_before : (mode : Bool) (bytes : List ℕ) → list_all is_alphanumeric bytes ≡ true → (rest : List ℕ) →
    AreTokensBefore mode rest (plain_tokens bytes)
plain_before mode [] h rest = tt
plain_before mode (b ∷ bytes) h rest = let p = and_parts (is_alphanumeric b) (list_all is_alphanumeric bytes) h in (is_alphanumeric-plain mode b p.0 _, plain_before mode bytes p.1 rest)

pub plain_settled : (bytes : List ℕ) → list_all is_alphanumeric bytes ≡ true → (rest : List ℕ) →
    AreSettledBefore rest (plain_tokens bytes)
plain_settled [] h rest = tt
plain_settled (b ∷ bytes) h rest = let p = and_parts (is_alphanumeric b) (list_all is_alphanumeric bytes) h in (alphanumeric_portable b p.0 (text_then rest (plain_tokens bytes)), alphanumeric_single b p.0 (text_then rest (plain_tokens bytes)), plain_settled bytes p.1 rest)

pub alphanumeric_cut : (mode : Bool) (bytes : List ℕ) → list_all is_alphanumeric bytes ≡ true →
    (ts : List Token) × IsCutBefore mode bytes ts
alphanumeric_cut mode bytes h = (plain_tokens bytes, record { cut_text = plain_text bytes; cut_tokens = plain_before mode bytes h; cut_settled = plain_settled bytes h; cut_places = plain_places bytes })

digit_alphanumeric : (b : ℕ) → is_ascii_digit b ≡ true → is_alphanumeric b ≡ true
digit_alphanumeric b h = rw h refl

hexadecimal_alphanumeric : (b : ℕ) → is_hexadecimal_digit b ≡ true → is_alphanumeric b ≡ true
hexadecimal_alphanumeric b h = grind (arith, nat_tests)

pub digits_alphanumeric : (bytes : List ℕ) → list_all is_ascii_digit bytes ≡ true → list_all is_alphanumeric bytes ≡ true
digits_alphanumeric [] h = refl
digits_alphanumeric (b ∷ bytes) h = let p = and_parts (is_ascii_digit b) (list_all is_ascii_digit bytes) h in and_from _ _ (digit_alphanumeric b p.0) (digits_alphanumeric bytes p.1)

pub AreDigits-alphanumeric : (bytes : List ℕ) → AreDigits bytes → list_all is_alphanumeric bytes ≡ true
AreDigits-alphanumeric [] h = absurd h
AreDigits-alphanumeric (b ∷ bytes) h = and_from _ _ (digit_alphanumeric b h.0) (digits_alphanumeric bytes h.1)

pub AreHexadecimalPairs-alphanumeric : (bytes : List ℕ) → AreHexadecimalPairs bytes →
    list_all is_alphanumeric bytes ≡ true
AreHexadecimalPairs-alphanumeric [] h = absurd h
AreHexadecimalPairs-alphanumeric (a ∷ []) h = absurd h
AreHexadecimalPairs-alphanumeric (a ∷ b ∷ []) h = and_from _ _ (hexadecimal_alphanumeric a h.0) (and_from _ _ (hexadecimal_alphanumeric b h.1) refl)
AreHexadecimalPairs-alphanumeric (a ∷ b ∷ c ∷ bytes) h = and_from _ _ (hexadecimal_alphanumeric a h.0) (and_from _ _ (hexadecimal_alphanumeric b h.1) (AreHexadecimalPairs-alphanumeric (c ∷ bytes) h.2))

-- a dash before a digit is plain
pub minus_plain : (mode : Bool) (d : ℕ) (rest : List ℕ) → is_ascii_digit d ≡ true →
    IsToken mode (Plain dash) (d ∷ rest)
minus_plain mode d rest h = plain_at mode dash (d ∷ rest) (none_there rest)
  where
    none_there : (rest : List ℕ) → dash_comment (d ∷ rest) ≡ None
    none_there [] = refl
    none_there (w ∷ rest) = rw (other is_ascii_digit d dash h refl) refl

pub minus_portable : (d : ℕ) (rest : List ℕ) → is_ascii_digit d ≡ true → is_alike_on_all (Plain dash) (d ∷ rest) ≡ true
minus_portable d rest h = rw (no_line rest) refl
  where
    no_line : (rest : List ℕ) → may_open_line (d ∷ rest) ≡ false
    no_line [] = refl
    no_line (w ∷ rest) = rw (other is_ascii_digit d dash h refl) refl

pub minus_single : (d : ℕ) (rest : List ℕ) → is_ascii_digit d ≡ true → no_double (Plain dash) (d ∷ rest) ≡ true
minus_single d rest h = rw (other is_ascii_digit d dash h refl) refl

minus_cut : (mode : Bool) (digits : List ℕ) → AreDigits digits →
    (ts : List Token) × IsCutBefore mode (dash ∷ digits) ts
minus_cut mode [] h = absurd h
minus_cut mode (d ∷ digits) h = (
  plain_tokens (dash ∷ d ∷ digits),
  record {
    cut_text = plain_text (dash ∷ d ∷ digits);
    cut_tokens = λ rest. (minus_plain mode d _ h.0, plain_before mode (d ∷ digits) (AreDigits-alphanumeric (d ∷ digits) h) rest);
    cut_settled = λ rest. (minus_portable d (text_then rest (plain_tokens digits)) h.0, minus_single d (text_then rest (plain_tokens digits)) h.0, plain_settled (d ∷ digits) (AreDigits-alphanumeric (d ∷ digits) h) rest);
    cut_places = plain_places digits;
  },
)

string_before : (mode : Bool) (body rest : List ℕ) → AreUnits mode single_quote body →
    IsToken mode (QuotedString single_quote (body ++ single_quote ∷ [])) rest
string_before mode body rest u = (refl, closed_tail body u refl)

pub string_cut : (mode : Bool) {string : List ℕ} → IsClosedString mode string →
    (ts : List Token) × IsCutBefore mode string ts
string_cut mode (closed_string body u) = (
  QuotedString single_quote (body ++ single_quote ∷ []) ∷ [],
  record {
    cut_text = append-nil (single_quote ∷ (body ++ single_quote ∷ []));
    cut_tokens = λ rest. (string_before mode body _ u, tt);
    cut_settled = λ rest. (refl, refl, tt);
    cut_places = refl;
  },
)

-- tokens of one text and then of another
pub cut_both : (mode : Bool) (text more : List ℕ) (ts us : List Token) → IsCutBefore mode text ts →
    IsCutBefore mode more us → IsCutBefore mode (text ++ more) (ts ++ us)
cut_both mode text more ts us h k = record {
  cut_text = text_of-append ts us ∙ (ap (λ x. x ++ text_of us) h.cut_text ∙ ap (λ x. text ++ x) k.cut_text);
  cut_tokens = λ rest. AreTokensBefore-append mode ts us rest (h.cut_tokens _) (k.cut_tokens rest);
  cut_settled = λ rest. AreSettledBefore-append ts us rest (h.cut_settled _) (k.cut_settled rest);
  cut_places = rw (place_count-append ts us, h.cut_places, k.cut_places) refl;
}

strings_cut : (mode : Bool) {literal : List ℕ} → AreClosedStrings mode literal →
    (ts : List Token) × IsCutBefore mode literal ts
strings_cut mode (one_string string h) = string_cut mode h
strings_cut mode (more_strings string rest h hs) =
    let a = string_cut mode h in
    let b = strings_cut mode hs in
    (a.0 ++ b.0, cut_both mode string rest a.0 b.0 a.1 b.1)

quoted_cut : (mode : Bool) (literal : List ℕ) → IsQuoted mode literal →
    (ts : List Token) × IsCutBefore mode literal ts
quoted_cut false literal h = string_cut false h
quoted_cut true literal h = strings_cut true h

pub IsLiteral-cut : (mode : Bool) {literal : List ℕ} → IsLiteral mode literal →
    (ts : List Token) × IsCutBefore mode literal ts
IsLiteral-cut mode null_literal = alphanumeric_cut mode _ refl
IsLiteral-cut mode (natural_literal digits h) = alphanumeric_cut mode _ (AreDigits-alphanumeric digits h)
IsLiteral-cut mode (negative_literal digits h) = minus_cut mode _ h
IsLiteral-cut mode (hexadecimal_literal pairs h) = alphanumeric_cut mode _ (AreHexadecimalPairs-alphanumeric pairs h)
IsLiteral-cut mode (quoted_literal literal h) = quoted_cut mode literal h

-- ---- its first bytes

-- a byte that opens nothing, whatever comes before it
first_byte : (b : ℕ) (bs : List ℕ) (before : ℕ) → joins_nothing b ≡ true → is_start_byte b ≡ false →
    opens_nothing_after before (b ∷ bs) ≡ true
first_byte b bs before j n = rw (j, n) refl

digit_first : (d : ℕ) (bs : List ℕ) (before : ℕ) → is_ascii_digit d ≡ true → opens_nothing_after before (d ∷ bs) ≡ true
digit_first d bs before h = first_byte d bs before (grind (arith, nat_tests)) (grind (arith, nat_tests))

pub digits_open_nothing : (digits : List ℕ) → AreDigits digits → (before : ℕ) (rest : List ℕ) →
    opens_nothing_after before (digits ++ rest) ≡ true
digits_open_nothing [] h before rest = absurd h
digits_open_nothing (d ∷ digits) h before rest = digit_first d (digits ++ rest) before h.0

pub minus_opens_nothing : (digits : List ℕ) → AreDigits digits → (before : ℕ) (rest : List ℕ) →
    opens_nothing_after before (dash ∷ (digits ++ rest)) ≡ true
minus_opens_nothing [] h before rest = absurd h
minus_opens_nothing (d ∷ digits) h before rest = rw h.0 refl

string_opens_nothing : {mode : Bool} {string : List ℕ} → IsClosedString mode string → (before : ℕ) (rest : List ℕ) →
    opens_nothing_after before (string ++ rest) ≡ true
string_opens_nothing (closed_string body u) before rest = refl

strings_open_nothing : {mode : Bool} {literal : List ℕ} → AreClosedStrings mode literal → (before : ℕ) (rest : List ℕ) →
    opens_nothing_after before (literal ++ rest) ≡ true
strings_open_nothing (one_string string h) before rest = string_opens_nothing h before rest
strings_open_nothing (more_strings string more h hs) before rest = rw (append_assoc string more rest) (string_opens_nothing h before (more ++ rest))

quoted_opens_nothing : (mode : Bool) (literal : List ℕ) → IsQuoted mode literal → (before : ℕ) (rest : List ℕ) →
    opens_nothing_after before (literal ++ rest) ≡ true
quoted_opens_nothing false literal h before rest = string_opens_nothing h before rest
quoted_opens_nothing true literal h before rest = strings_open_nothing h before rest

pub IsLiteral-opens_nothing : (mode : Bool) {literal : List ℕ} → IsLiteral mode literal → (before : ℕ) (rest : List ℕ) →
    opens_nothing_after before (literal ++ rest) ≡ true
IsLiteral-opens_nothing mode null_literal before rest = refl
IsLiteral-opens_nothing mode (natural_literal digits h) before rest = digits_open_nothing digits h before rest
IsLiteral-opens_nothing mode (negative_literal digits h) before rest = minus_opens_nothing digits h before rest
IsLiteral-opens_nothing mode (hexadecimal_literal pairs h) before rest = refl
IsLiteral-opens_nothing mode (quoted_literal literal h) before rest = quoted_opens_nothing mode literal h before rest
