-- A double, by its shape only. Its first bytes open nothing with the byte before them. Its tokens
-- are plain bytes, which end where it ends and are portable before any text.
use Rattle.std.specs.Prelude.{codes}
use Rattle.std.proofs.Common.{map, sym, subst, arith, ◌≡◌, ◌++◌, not, ℕ, Bool, true, false, List, [], ◌∷◌, refl, ap, ◌∙◌, append_assoc}
use Rattle.std.specs.Char.{is_ascii_digit}
use Rattle.std.specs.List.{list_all}
use Rattle.std.specs.Str.{byte}
use Rattle.std.proofs.lemmas.Bool.{and_parts}
use Rattle.mysql_sql_text.specs.LiteralShape.{AreDigits}
use Rattle.mysql_named_params.specs.Bytes.{colon, dash, point, question_mark, plus}
use Rattle.mysql_named_params.specs.Tokens.{AreTokensBefore, Token, text_of, text_then, Plain}
use Rattle.mysql_named_params.proofs.TokenEnds.{plain_at}
use Rattle.mysql_named_params.proofs.TokenRowLemmas.{text_then-text_of, text_of-append, AreTokensBefore-append, place_count-append}
use Rattle.mysql_portable.specs.Server.{begins_dashes, begins_exponent_dashes, begins_fraction}
use Rattle.mysql_portable.specs.Portable.{AreReadAlikeBefore}
use Rattle.mysql_binding.proofs.LiteralTokenLemmas.{IsCutBefore, AreSettledBefore, AreSettledBefore-append, other, plain_tokens, plain_text, plain_places, plain_before, plain_settled, is_alphanumeric-plain, alphanumeric_portable, alphanumeric_single, AreDigits-alphanumeric, minus_plain, minus_portable, minus_single, digits_open_nothing, minus_opens_nothing}
use Rattle.mysql_binding.proofs.BoundStatementLemmas.{StayWithin, StayWithin-append, plain_within}
use Rattle.mysql_binding.proofs.UpToSpliceLemmas.{opens_nothing_after}
use Rattle.mysql_float_literal.specs.DoubleShape.{IsSign, no_sign, minus_sign, IsFraction, no_fraction, point_and_digits, IsDouble, double_shape}
use Rattle.mysql_sql_text.proofs.DigitLemmas.{digits_all}

-- ---- its first bytes

pub double_opens_nothing : {text : List ℕ} → IsDouble text → (before : ℕ) (rest : List ℕ) → opens_nothing_after before (text ++ rest) ≡ true
double_opens_nothing (double_shape _ whole fraction exponent_sign exponent no_sign w f es e) before rest =
    let more : List ℕ = fraction ++ (codes "e" ++ (exponent_sign ++ exponent)) in
    ap (opens_nothing_after before) (append_assoc whole more rest) ∙ digits_open_nothing whole w before (more ++ rest)
double_opens_nothing (double_shape _ whole fraction exponent_sign exponent minus_sign w f es e) before rest =
    let more : List ℕ = fraction ++ (codes "e" ++ (exponent_sign ++ exponent)) in
    ap (λ x. opens_nothing_after before (dash ∷ x)) (append_assoc whole more rest) ∙ minus_opens_nothing whole w before (more ++ rest)

-- ---- plain bytes before any text

-- the tokens of this text are its bytes, before any text
abbrev pub IsPlainText : Bool → List ℕ → Type 0
IsPlainText mode text = IsCutBefore mode text (plain_tokens text)

plain_tokens-append : (xs ys : List ℕ) → plain_tokens (xs ++ ys) ≡ plain_tokens xs ++ plain_tokens ys
plain_tokens-append [] ys = refl
plain_tokens-append (x ∷ xs) ys = ap (λ ts. Plain x ∷ ts) (plain_tokens-append xs ys)

digits_plain : (mode : Bool) (digits : List ℕ) → AreDigits digits → IsPlainText mode digits
digits_plain mode digits h =
    let all = AreDigits-alphanumeric digits h in
    record { cut_text = plain_text digits; cut_tokens = plain_before mode digits all; cut_settled = plain_settled digits all; cut_places = plain_places digits }

digits_then : (mode : Bool) (digits text : List ℕ) → AreDigits digits → IsPlainText mode text → IsPlainText mode (digits ++ text)
digits_then mode digits text h c =
    let all = AreDigits-alphanumeric digits h in
    let ts : List Token = plain_tokens text in
    subst (IsCutBefore mode (digits ++ text)) (sym (plain_tokens-append digits text)) (record {
      cut_text = text_of-append (plain_tokens digits) ts ∙ (ap (λ x. x ++ text_of ts) (plain_text digits) ∙ ap (λ x. digits ++ x) c.cut_text);
      cut_tokens = λ rest. AreTokensBefore-append mode (plain_tokens digits) ts rest (plain_before mode digits all _) (c.cut_tokens rest);
      cut_settled = λ rest. AreSettledBefore-append (plain_tokens digits) ts rest (plain_settled digits all _) (c.cut_settled rest);
      cut_places = omega (arith, place_count-append (plain_tokens digits) ts, plain_places digits, c.cut_places);
    })

minus_then : (mode : Bool) (d : ℕ) (text : List ℕ) → is_ascii_digit d ≡ true → IsPlainText mode (d ∷ text) → IsPlainText mode (dash ∷ d ∷ text)
minus_then mode d text h c = record {
  cut_text = ap (λ x. dash ∷ x) c.cut_text;
  cut_tokens = λ rest. (minus_plain mode d _ h, c.cut_tokens rest);
  cut_settled = λ rest. (minus_portable d (text_then rest (plain_tokens text)) h, minus_single d (text_then rest (plain_tokens text)) h, c.cut_settled rest);
  cut_places = c.cut_places;
}

-- an optional minus before a digit
sign_then : (mode : Bool) {sign : List ℕ} (d : ℕ) (text : List ℕ) → IsSign sign → is_ascii_digit d ≡ true → IsPlainText mode (d ∷ text) → IsPlainText mode (sign ++ d ∷ text)
sign_then mode d text no_sign h c = c
sign_then mode d text minus_sign h c = minus_then mode d text h c

sign_digits_then : (mode : Bool) {sign : List ℕ} (digits text : List ℕ) → IsSign sign → AreDigits digits → IsPlainText mode text → IsPlainText mode (sign ++ (digits ++ text))
sign_digits_then mode [] text s h c = absurd h
sign_digits_then mode (d ∷ digits) text s h c = sign_then mode d (digits ++ text) s h.0 (digits_then mode (d ∷ digits) text h c)

sign_digits : (mode : Bool) {sign : List ℕ} (digits : List ℕ) → IsSign sign → AreDigits digits → IsPlainText mode (sign ++ digits)
sign_digits mode [] s h = absurd h
sign_digits mode (d ∷ digits) s h = sign_then mode d digits s h.0 (digits_plain mode (d ∷ digits) h)

-- an `e` before the rest of an exponent
e_then : (mode : Bool) (text : List ℕ) → IsPlainText mode text → IsPlainText mode (byte "e" ∷ text)
e_then mode text c = record {
  cut_text = ap (λ x. byte "e" ∷ x) c.cut_text;
  cut_tokens = λ rest. (is_alphanumeric-plain mode (byte "e") refl _, c.cut_tokens rest);
  cut_settled = λ rest. (alphanumeric_portable (byte "e") refl (text_then rest (plain_tokens text)), alphanumeric_single (byte "e") refl (text_then rest (plain_tokens text)), c.cut_settled rest);
  cut_places = c.cut_places;
}

-- ---- the point

no_dashes : (d : ℕ) (bs : List ℕ) → is_ascii_digit d ≡ true → begins_dashes (d ∷ bs) ≡ false
no_dashes d [] h = refl
no_dashes d (b ∷ []) h = refl
no_dashes d (b ∷ c ∷ bs) h = rw (other is_ascii_digit d dash h refl) refl

no_dashes_after_minus : (d : ℕ) (bs : List ℕ) → is_ascii_digit d ≡ true → begins_dashes (dash ∷ d ∷ bs) ≡ false
no_dashes_after_minus d [] h = refl
no_dashes_after_minus d (b ∷ bs) h = rw (other is_ascii_digit d dash h refl) refl

-- of an exponent with digits
no_exponent_dashes : {sign : List ℕ} (digits rest : List ℕ) → IsSign sign → AreDigits digits → begins_exponent_dashes ((sign ++ digits) ++ rest) ≡ false
no_exponent_dashes [] rest s h = absurd h
no_exponent_dashes (d ∷ digits) rest no_sign h =
    rw (no_dashes d (digits ++ rest) h.0, other is_ascii_digit d plus h.0 refl, other is_ascii_digit d dash h.0 refl) refl
no_exponent_dashes (d ∷ digits) rest minus_sign h =
    rw (no_dashes_after_minus d (digits ++ rest) h.0, no_dashes d (digits ++ rest) h.0) refl

no_fraction_dashes : {sign : List ℕ} (fraction exponent rest : List ℕ) → list_all is_ascii_digit fraction ≡ true → IsSign sign → AreDigits exponent →
    begins_fraction ((fraction ++ (byte "e" ∷ (sign ++ exponent))) ++ rest) ≡ false
no_fraction_dashes [] exponent rest all s e = rw (no_exponent_dashes exponent rest s e) refl
no_fraction_dashes (d ∷ fraction) exponent rest all s e =
    let p = and_parts (is_ascii_digit d) (list_all is_ascii_digit fraction) all in
    rw (other is_ascii_digit d question_mark p.0 refl, other is_ascii_digit d colon p.0 refl, no_fraction_dashes fraction exponent rest p.1 s e, other is_ascii_digit d (byte "e") p.0 refl, other is_ascii_digit d (byte "E") p.0 refl, p.0) refl

-- a point and digits before an exponent
point_then : (mode : Bool) {sign : List ℕ} (fraction exponent : List ℕ) → AreDigits fraction → IsSign sign → AreDigits exponent →
    IsPlainText mode (byte "e" ∷ (sign ++ exponent)) → IsPlainText mode (point ∷ (fraction ++ (byte "e" ∷ (sign ++ exponent))))
point_then mode {sign} fraction exponent f s e c =
    let text : List ℕ = fraction ++ (byte "e" ∷ (sign ++ exponent)) in
    let d = digits_then mode fraction (byte "e" ∷ (sign ++ exponent)) f c in
    record {
      cut_text = ap (λ x. point ∷ x) d.cut_text;
      cut_tokens = λ rest. (plain_at mode point _ refl, d.cut_tokens rest);
      cut_settled = λ rest. (
        ap not (ap begins_fraction (text_then-text_of (plain_tokens text) rest ∙ ap (λ x. x ++ rest) d.cut_text) ∙ no_fraction_dashes fraction exponent rest (digits_all fraction f) s e),
        refl,
        d.cut_settled rest,
      );
      cut_places = d.cut_places;
    }

after_whole : (mode : Bool) {fraction sign : List ℕ} (exponent : List ℕ) → IsFraction fraction → IsSign sign → AreDigits exponent →
    IsPlainText mode (fraction ++ (byte "e" ∷ (sign ++ exponent)))
after_whole mode {sign = sign} exponent no_fraction s e = e_then mode (sign ++ exponent) (sign_digits mode exponent s e)
after_whole mode {sign = sign} exponent (point_and_digits fraction f) s e =
    point_then mode fraction exponent f s e (e_then mode (sign ++ exponent) (sign_digits mode exponent s e))

-- each byte of a double is a token of its own, a plain byte, before any text
pub IsDouble-plain : (mode : Bool) {text : List ℕ} → IsDouble text → IsPlainText mode text
IsDouble-plain mode (double_shape sign whole fraction exponent_sign exponent s w f es e) =
    sign_digits_then mode whole (fraction ++ (byte "e" ∷ (exponent_sign ++ exponent))) s w (after_whole mode exponent f es e)

-- ---- it holds no comment and no `;`

within_both : (xs ys : List ℕ) → StayWithin (plain_tokens xs) → StayWithin (plain_tokens ys) → StayWithin (plain_tokens (xs ++ ys))
within_both xs ys a b = subst StayWithin (sym (plain_tokens-append xs ys)) (StayWithin-append (plain_tokens xs) (plain_tokens ys) a b)

sign_within : {sign : List ℕ} → IsSign sign → StayWithin (plain_tokens sign)
sign_within no_sign = tt
sign_within minus_sign = (refl, tt)

digits_within : (digits : List ℕ) → AreDigits digits → StayWithin (plain_tokens digits)
digits_within digits h = plain_within digits (AreDigits-alphanumeric digits h)

fraction_within : {fraction : List ℕ} → IsFraction fraction → StayWithin (plain_tokens fraction)
fraction_within no_fraction = tt
fraction_within (point_and_digits digits h) = (refl, digits_within digits h)

pub double_within : {text : List ℕ} → IsDouble text → StayWithin (plain_tokens text)
double_within (double_shape sign whole fraction exponent_sign exponent s w f es e) =
    let last : List ℕ = exponent_sign ++ exponent in
    within_both sign (whole ++ (fraction ++ (codes "e" ++ last))) (sign_within s)
    (within_both whole (fraction ++ (codes "e" ++ last)) (digits_within whole w)
    (within_both fraction (codes "e" ++ last) (fraction_within f)
    (refl, within_both exponent_sign exponent (sign_within es) (digits_within exponent e))))

-- ---- as a law

plain_tokens_map : (text : List ℕ) → plain_tokens text ≡ map Plain text
plain_tokens_map [] = refl
plain_tokens_map (b ∷ text) = ap (λ ts. Plain b ∷ ts) (plain_tokens_map text)

settled_alike : (text rest : List ℕ) → AreSettledBefore rest (plain_tokens text) → AreReadAlikeBefore rest (plain_tokens text)
settled_alike [] rest h = tt
settled_alike (b ∷ text) rest h = (rw h.0 refl, settled_alike text rest h.2)

pub IsDouble-tokens : (mode : Bool) (text rest : List ℕ) → IsDouble text → AreTokensBefore mode rest (map Plain text)
IsDouble-tokens mode text rest h = subst (AreTokensBefore mode rest) (plain_tokens_map text) ((IsDouble-plain mode h).cut_tokens rest)

pub IsDouble-alike : (text rest : List ℕ) → IsDouble text → AreReadAlikeBefore rest (map Plain text)
IsDouble-alike text rest h = subst (AreReadAlikeBefore rest) (plain_tokens_map text) (settled_alike text rest ((IsDouble-plain true h).cut_settled rest))
