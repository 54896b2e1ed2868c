-- The client `mysql` finds no word `delimiter` ahead in a text in which nothing is found.
use Rattle.std.specs.Prelude.{Bool, not}
use Rattle.std.proofs.Common.{◌≡◌, ◌⊎◌, ℕ, true, false, cond, ◌==◌, ◌&&◌, List, [], ◌∷◌, ◌++◌, drop, None, refl, sym, ap, ◌∙◌, subst, inl, inr, true≢false}
use Rattle.std.specs.Str.{byte}
use Rattle.std.proofs.lemmas.Bool.{cases_Bool, and_parts, or_cases, or_right, not-false, eqb-true}
use Rattle.mysql_named_params.specs.Bytes.{asterisk, exclamation_mark, newline, plus, slash, single_quote, double_quote, is_extension, begins}
use Rattle.mysql_named_params.specs.Tokens.{Token, bytes_of, text_of, IsToken, AreTokensBefore, QuotedString, QuotedIdentifier, HashComment, DashComment, BlockComment, Name, Mark, Plain}
use Rattle.mysql_portable.specs.ServerTokens.{begins_special}
use Rattle.mysql_portable.specs.Quiet.{stands_apart, is_quiet}
use Rattle.mysql_portable.specs.Portable.{is_read_alike}
use Rattle.mysql_portable.specs.FoundInClient.{begins_statement, begins_line, found_at_byte}
use Rattle.mysql_portable.proofs.FrontLemmas.{quote_is}
use Rattle.mysql_client.specs.Outgoing.{is_space}
use Rattle.mysql_client.specs.ClientState.{mysql, ends_here, begins_slash_star, begins_close, Look, past, in_plain, in_special, at_slash, begins_line_word, look_in, finds_word}
use Rattle.mysql_client.proofs.StepLemmas.{and_no}
use Rattle.mysql_client.proofs.EndLemmas.{UpToClose, up_to_close}
use Rattle.mysql_client.proofs.PlainStepLemmas.{space_is_no_word}
use Rattle.mysql_client.proofs.PlainFactLemmas.{found_not, word_not, delimiter_not, plain_extension}
use Rattle.mysql_client.proofs.ClearLemmas.{IsClear, zero_not}
use Rattle.mysql_client.proofs.QuietLemmas.{quiet_byte, quiet_token, second_false}
use Rattle.mysql_client.proofs.HintLemmas.{text_at_close, slash_token}
use Rattle.mysql_client.proofs.TokenLemmas.{special_none}

-- ---- the front of a line

line_at_space : (b : ℕ) → is_space b ≡ true → begins_line true (Plain b) ≡ true
line_at_space b s =
    or_right (b == byte ";") _ (or_right (b == newline) _ (or_right (b == slash) _ (rw (space_is_no_word b s) refl)))

line_word_none : (mode st : Bool) (ts : List Token) → AreTokensBefore mode [] ts → IsClear st true ts →
    begins_line_word mysql (text_of ts) ≡ false
line_word_none mode st [] h e = refl
line_word_none mode st (QuotedString q tail ∷ ts) h e = go (quote_is q h.0.0)
  where
    go : (q ≡ single_quote) ⊎ (q ≡ double_quote) → begins_line_word mysql (q ∷ (tail ++ text_of ts)) ≡ false
    go (inl x) = ap (λ y. begins_line_word mysql (y ∷ (tail ++ text_of ts))) x
    go (inr x) = ap (λ y. begins_line_word mysql (y ∷ (tail ++ text_of ts))) x
line_word_none mode st (QuotedIdentifier tail ∷ ts) h e = refl
line_word_none mode st (HashComment tail ∷ ts) h e = refl
line_word_none mode st (DashComment gap tail ∷ ts) h e = refl
line_word_none mode st (BlockComment tail ∷ ts) h e = refl
line_word_none mode st (Name name ∷ ts) h e = refl
line_word_none mode st (Mark ∷ ts) h e = refl
line_word_none mode st (Plain b ∷ ts) h e =
    let word = delimiter_not st b (text_of ts) (word_not st true b (text_of ts) (zero_not st true (Plain b) (text_of ts) e.1).1) in
    elim (cases_Bool (is_space b)) [
      | inl s ↦ rw (word, s) (line_word_none mode (begins_statement st (Plain b)) ts h.1 (subst (λ y. IsClear (begins_statement st (Plain b)) y ts) (line_at_space b s) e.2))
      | inr n ↦ rw (word, n) refl
    ]

-- ---- the look

-- a block comment up to its `*/`
block_passed : (tail rest : List ℕ) → UpToClose tail rest → finds_word mysql past rest ≡ false → finds_word mysql in_plain (tail ++ rest) ≡ false
block_passed [] rest u h = ap (finds_word mysql in_plain) u
block_passed (b ∷ []) rest u h =
    elim (cases_Bool (begins_close b [])) [
      | inl c ↦ absurd (true≢false (sym c ∙ and_no (b == asterisk)))
      | inr n ↦ rw (u.1 n) refl
    ]
block_passed (b ∷ c ∷ cs) rest u h =
    elim (cases_Bool (begins_close b (c ∷ cs))) [
      | inl e ↦ step e ∙ (ap (λ x. finds_word mysql at_slash (x ++ rest)) (u.0 e) ∙ h)
      | inr n ↦ step n ∙ block_passed (c ∷ cs) rest (u.1 n) h
    ]
  where
    step : {x : Bool} → begins_close b (c ∷ cs) ≡ x → finds_word mysql in_plain (b ∷ c ∷ (cs ++ rest)) ≡ finds_word mysql (cond x at_slash in_plain) (c ∷ (cs ++ rest))
    step e = ap (λ y. finds_word mysql (cond y at_slash in_plain) (c ∷ (cs ++ rest))) e

-- where the look is between two tokens
data IsAt (look : Look) (line : Bool) (text : List ℕ) : Type 0 where
  it_is_past : look ≡ past → line ≡ true → IsAt look line text
  it_is_in : look ≡ in_special → is_quiet text ≡ true → IsAt look line text
  it_is_at_slash : (after : List ℕ) → look ≡ at_slash → text ≡ slash ∷ after → stands_apart after ≡ true → IsAt look line text

-- the sign of a special comment
sign_passed : (mode : Bool) (b : ℕ) (ts : List Token) → AreTokensBefore mode [] (Plain b ∷ ts) → is_read_alike (Plain b) (text_of ts) ≡ true →
    begins_slash_star (b ∷ text_of ts) ≡ true → (look_in mysql (text_of ts) ≡ in_special) × (is_quiet (text_of ts) ≡ true)
sign_passed mode b ts h alike s = go (text_of ts) h.0 alike s
  where
    star : (text : List ℕ) → begins is_extension text ≡ true → is_quiet text ≡ true →
        (look_in mysql (asterisk ∷ text) ≡ in_special) × (is_quiet (asterisk ∷ text) ≡ true)
    star [] e q = absurd (true≢false (sym e))
    star (x ∷ xs) e q =
        let parts = or_cases (x == exclamation_mark) (x == plus) e in
        elim parts [
          | inl t ↦ rw (eqb-true x exclamation_mark t) (refl, subst (λ y. is_quiet (y ∷ xs) ≡ true) (eqb-true x exclamation_mark t) q)
          | inr t ↦ rw (eqb-true x plus t) (refl, subst (λ y. is_quiet (y ∷ xs) ≡ true) (eqb-true x plus t) q)
        ]

    go : (rest : List ℕ) → IsToken mode (Plain b) rest → is_read_alike (Plain b) rest ≡ true → begins_slash_star (b ∷ rest) ≡ true →
        (look_in mysql rest ≡ in_special) × (is_quiet rest ≡ true)
    go [] h alike s = absurd (true≢false (sym (and_parts (b == slash) false s).1))
    go (c ∷ text) h alike s =
        let both = and_parts (b == slash) (c == asterisk) s in
        let slash_is : b ≡ slash = eqb-true b slash both.0 in
        let star_is : c ≡ asterisk = eqb-true c asterisk both.1 in
        let token = subst (λ x. IsToken mode (Plain x) (asterisk ∷ text)) slash_is (subst (λ x. IsToken mode (Plain b) (x ∷ text)) star_is h) in
        let quiet : (begins_special text && is_quiet text) ≡ true = subst (λ x. is_read_alike (Plain x) (asterisk ∷ text) ≡ true) slash_is (subst (λ x. is_read_alike (Plain b) (x ∷ text) ≡ true) star_is alike) in
        subst (λ x. (look_in mysql (x ∷ text) ≡ in_special) × (is_quiet (x ∷ text) ≡ true)) (sym star_is)
        (star text (plain_extension mode text token) (and_parts (begins_special text) (is_quiet text) quiet).1)

-- a backslash outside of quotes is before `N`, at no end of a line
no_line_end : (st ln : Bool) (b : ℕ) (rest : List ℕ) → found_at_byte st ln b rest ≡ None → (b == byte "\\" && ends_here rest) ≡ false
no_line_end st ln b rest h =
    let c1 = (found_not (b == byte "\\" && not (begins (λ c. c == byte "N") rest)) _ _ h).0 in
    elim (cases_Bool (b == byte "\\")) [
      | inr n ↦ rw n refl
      | inl t ↦ rw t (go rest (not-false _ (second_false _ _ c1 t)))
    ]
  where
    go : (rest : List ℕ) → begins (λ c. c == byte "N") rest ≡ true → ends_here rest ≡ false
    go [] e = absurd (true≢false (sym e))
    go (c ∷ cs) e = rw (eqb-true c (byte "N") e) refl

string_passed : (q : ℕ) (text : List ℕ) → (q ≡ single_quote) ⊎ (q ≡ double_quote) → finds_word mysql past (q ∷ text) ≡ false
string_passed q text (inl x) = ap (λ y. finds_word mysql past (y ∷ text)) x
string_passed q text (inr x) = ap (λ y. finds_word mysql past (y ∷ text)) x

-- outside of comments
past_token : (mode st : Bool) (t : Token) (ts : List Token) → AreTokensBefore mode [] (t ∷ ts) → IsClear st true (t ∷ ts) →
    (begins_line true t ≡ true → finds_word mysql past (text_of ts) ≡ false) →
    (is_quiet (text_of ts) ≡ true → finds_word mysql in_special (text_of ts) ≡ false) → finds_word mysql past (text_of (t ∷ ts)) ≡ false
past_token mode st (QuotedString q tail) ts h e out in_it = string_passed q (tail ++ text_of ts) (quote_is q h.0.0)
past_token mode st (QuotedIdentifier tail) ts h e out in_it = refl
past_token mode st (HashComment tail) ts h e out in_it = refl
past_token mode st (DashComment gap tail) ts h e out in_it = refl
past_token mode st (Name name) ts h e out in_it = refl
past_token mode st Mark ts h e out in_it = refl
past_token mode st (BlockComment tail) ts h e out in_it =
    let up = up_to_close tail (text_of ts) h.0.1 in
    rw (special_none mysql tail (text_of ts) h.0.0 up (and_no (begins_special tail))) (block_passed tail (text_of ts) up (out refl))
past_token mode st (Plain b) ts h e out in_it =
    let found = (zero_not st true (Plain b) (text_of ts) e.1).1 in
    let word = delimiter_not st b (text_of ts) (word_not st true b (text_of ts) found) in
    let no_end = no_line_end st true b (text_of ts) found in
    elim (cases_Bool (is_space b)) [
      | inl s ↦ rw (word, s) (out (line_at_space b s))
      | inr n ↦ elim (cases_Bool (begins_slash_star (b ∷ text_of ts))) [
        | inr m ↦ rw (word, n, no_end, m) refl
        | inl m ↦
            let sign = sign_passed mode b ts h e.0 m in
            rw (word, n, no_end, m, sign.0) (in_it sign.1)
      ]
    ]

-- in a special comment
special_token : (mode st ln : Bool) (b : ℕ) (ts : List Token) → AreTokensBefore mode [] ts →
    IsClear (begins_statement st (Plain b)) (begins_line ln (Plain b)) ts → is_quiet (b ∷ text_of ts) ≡ true →
    (is_quiet (text_of ts) ≡ true → finds_word mysql in_special (text_of ts) ≡ false) →
    ((after : List ℕ) → text_of ts ≡ slash ∷ after → stands_apart after ≡ true → finds_word mysql at_slash (text_of ts) ≡ false) →
    finds_word mysql in_special (b ∷ text_of ts) ≡ false
special_token mode st ln b ts h e q in_it end =
    let byte_is = quiet_byte b (text_of ts) q in
    elim (cases_Bool (begins_close b (text_of ts))) [
      | inl c ↦
          let text = text_at_close b (text_of ts) c in
          rw (line, c) (end text.0 text.1 (ap (λ y. stands_apart (drop 1 y)) (sym text.1) ∙ byte_is.apart c))
      | inr n ↦ rw (line, n) (in_it (byte_is.more n))
    ]
  where
    line : (b == newline && begins_line_word mysql (text_of ts)) ≡ false
    line = elim (cases_Bool (b == newline)) [
      | inr n ↦ rw n refl
      | inl n ↦
          let is : b ≡ newline = eqb-true b newline n in
          rw (n, line_word_none mode (begins_statement st (Plain newline)) ts h (subst (λ x. IsClear (begins_statement st (Plain x)) (begins_line ln (Plain x)) ts) is e)) refl
    ]

looked : (mode st ln : Bool) (look : Look) (ts : List Token) → IsAt look ln (text_of ts) → AreTokensBefore mode [] ts → IsClear st ln ts →
    finds_word mysql look (text_of ts) ≡ false
looked mode st ln look [] k h e = refl
looked mode st ln look (t ∷ ts) (it_is_past l y) h e =
    ap (λ x. finds_word mysql x (text_of (t ∷ ts))) l
    ∙ past_token mode st t ts h (subst (λ x. IsClear st x (t ∷ ts)) y e)
    (λ z. looked mode (begins_statement st t) (begins_line ln t) past ts (it_is_past refl (ap (λ x. begins_line x t) y ∙ z)) h.1 e.2)
    (λ q. looked mode (begins_statement st t) (begins_line ln t) in_special ts (it_is_in refl q) h.1 e.2)
looked mode st ln look (t ∷ ts) (it_is_in l q) h e =
    let plain = quiet_token mode t (text_of ts) h.0 q in
    ap (λ x. finds_word mysql x (text_of (t ∷ ts))) l
    ∙ subst (λ x. finds_word mysql in_special (text_of (x ∷ ts)) ≡ false) (sym plain.1)
    (special_token mode st ln plain.0 ts h.1 (subst (λ x. IsClear (begins_statement st x) (begins_line ln x) ts) plain.1 e.2)
    (subst (λ x. is_quiet (bytes_of x ++ text_of ts) ≡ true) plain.1 q)
    (λ r. looked mode (begins_statement st t) (begins_line ln t) in_special ts (it_is_in refl r) h.1 e.2)
    (λ after x apart. looked mode (begins_statement st t) (begins_line ln t) at_slash ts (it_is_at_slash after refl x apart) h.1 e.2))
looked mode st ln look (t ∷ ts) (it_is_at_slash after l x apart) h e =
    let plain = (slash_token mode t (text_of ts) after h.0 x apart).0 in
    ap (λ y. finds_word mysql y (text_of (t ∷ ts))) l
    ∙ subst (λ y. finds_word mysql at_slash (text_of (y ∷ ts)) ≡ false) (sym plain)
    (looked mode (begins_statement st t) (begins_line ln t) past ts (it_is_past refl (ap (begins_line ln) plain)) h.1 e.2)

pub nothing_ahead : (mode st : Bool) (ts : List Token) → AreTokensBefore mode [] ts → IsClear st true ts → finds_word mysql past (text_of ts) ≡ false
nothing_ahead mode st ts h e = looked mode st true past ts (it_is_past refl refl) h e
