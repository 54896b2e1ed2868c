-- Literals without a byte 0 and a newline are sent as they are, wherever a place stands alone.
use Rattle.std.specs.Prelude.{Bool, nat_lt}
use Rattle.std.proofs.Common.{◌≡◌, ◌++◌, ◌==◌, ◌&&◌, ℕ, true, false, List, [], ◌∷◌, codes, None, arith, refl, ap, ◌∙◌, sym, subst, append-nil, append_assoc}
use Rattle.std.specs.Char.{is_ascii_digit, to_ascii_lowercase}
use Rattle.std.specs.List.{list_all, list_any}
use Rattle.std.specs.Str.{byte}
use Rattle.std.proofs.lemmas.Bool.{and_parts, or_from}
use Rattle.std.proofs.lemmas.Bool.Decides.{nat_tests}
use Rattle.mysql_sql_text.specs.LiteralShape.{AreDigits, IsClosedString, closed_string, AreClosedStrings, one_string, more_strings, IsQuoted, IsLiteral, null_literal, natural_literal, negative_literal, hexadecimal_literal, quoted_literal}
use Rattle.mysql_named_params.specs.Bytes.{asterisk, carriage_return, colon, dash, newline, question_mark, single_quote, slash, begins}
use Rattle.mysql_named_params.specs.Tokens.{closed_string as closed_tail}
use Rattle.mysql_named_params.specs.Tokens.{Token, IsTokens, text_of, text_then, AreTokensBefore, QuotedString, Mark, Plain}
use Rattle.mysql_named_params.proofs.TokenListLemmas.{one_token_list}
use Rattle.mysql_named_params.proofs.TokenRowLemmas.{text_then-append, text_then-text_of, text_of-append, AreTokensBefore-append}
use Rattle.mysql_portable.specs.FoundInClient.{begins_statement, begins_line, begins_no_word, letter_of, is_client_word, drops_line, stand_before_comment, ends_line, escapes_newline, begins_delimiter_line, found_in_quotes, found_word, found_in_client}
use Rattle.mysql_portable.proofs.OtherModeLemmas.{all_parts}
use Rattle.mysql_sql_text.specs.InLine.{is_in_line}
use Rattle.mysql_binding.proofs.LiteralTokenLemmas.{is_alphanumeric, other, plain_tokens, plain_text, plain_before, minus_plain, AreDigits-alphanumeric, AreHexadecimalPairs-alphanumeric}
use Rattle.mysql_portable.proofs.ClientWordLemmas.{is_word_letter}
use Rattle.mysql_binding.proofs.SentTextLemmas.{is_sent_first, begins_as_sent, no_word_found, AreSentBefore, AreSentExceptMarksBefore, statement_after, line_after, IsSentAt}
use Rattle.mysql_binding.proofs.SpliceLemmas.{HoldsAlone}

pub and_none : (a : Bool) → (a && false) ≡ false
and_none true = refl
and_none false = refl

-- ---- rows of tokens

pub AreSentBefore-append : (xs ys : List Token) (rest : List ℕ) (statement line : Bool) →
    AreSentBefore (text_then rest ys) statement line xs →
    AreSentBefore rest (statement_after statement xs) (line_after line xs) ys → AreSentBefore rest statement line (xs ++ ys)
AreSentBefore-append [] ys rest statement line h k = k
AreSentBefore-append (x ∷ xs) ys rest statement line h k =
    (rw (text_then-append xs ys rest) h.0, AreSentBefore-append xs ys rest (begins_statement statement x) (begins_line line x) h.1 k)

except_marks-append : (xs ys : List Token) (rest : List ℕ) (statement line : Bool) →
    AreSentExceptMarksBefore (text_then rest ys) statement line xs →
    AreSentExceptMarksBefore rest (statement_after statement xs) (line_after line xs) ys → AreSentExceptMarksBefore rest statement line (xs ++ ys)
except_marks-append [] ys rest statement line h k = k
except_marks-append (Mark ∷ xs) ys rest statement line h k = except_marks-append xs ys rest false false h k
except_marks-append (x ∷ xs) ys rest statement line h k =
    (subst (λ z. found_in_client statement line x z ≡ None) (sym (text_then-append xs ys rest)) h.0, except_marks-append xs ys rest (begins_statement statement x) (begins_line line x) h.1 k)

pub statement_after-append : (xs ys : List Token) (statement : Bool) →
    statement_after statement (xs ++ ys) ≡ statement_after (statement_after statement xs) ys
statement_after-append [] ys statement = refl
statement_after-append (x ∷ xs) ys statement = statement_after-append xs ys (begins_statement statement x)

pub line_after-append : (xs ys : List Token) (line : Bool) → line_after line (xs ++ ys) ≡ line_after (line_after line xs) ys
line_after-append [] ys line = refl
line_after-append (x ∷ xs) ys line = line_after-append xs ys (begins_line line x)

-- a text in a place, behind its front
pub record SentPart (mode : Bool) (text : List ℕ) : Type 0 where
  pub part : List Token
  pub part_text : text_of part ≡ text
  pub part_each : (rest : List ℕ) → AreTokensBefore mode rest part
  pub part_sent : (rest : List ℕ) → AreSentExceptMarksBefore rest false false part
  pub part_statement : statement_after false part ≡ false
  pub part_line : line_after false part ≡ false

-- .. or at its front
pub record SentText (mode : Bool) (text : List ℕ) : Type 0 where
  pub list : List Token
  pub list_text : text_of list ≡ text
  pub list_each : (rest : List ℕ) → AreTokensBefore mode rest list
  pub list_front : (rest : List ℕ) → begins_as_sent (text ++ rest) ≡ true
  pub list_sent : (rest : List ℕ) (statement line : Bool) → AreSentExceptMarksBefore rest statement line list
  pub list_statement : (statement : Bool) → statement_after statement list ≡ false
  pub list_line : (line : Bool) → line_after line list ≡ false

pub part_of : (mode : Bool) (text : List ℕ) → SentText mode text → SentPart mode text
part_of mode text s = record {
  part = s.list;
  part_text = s.list_text;
  part_each = s.list_each;
  part_sent = λ rest. s.list_sent rest false false;
  part_statement = s.list_statement false;
  part_line = s.list_line false;
}

pub both_parts : (mode : Bool) (a b : List ℕ) → SentPart mode a → SentPart mode b → SentPart mode (a ++ b)
both_parts mode a b x y = record {
  part = x.part ++ y.part;
  part_text = text_of-append x.part y.part ∙ (ap (λ z. z ++ text_of y.part) x.part_text ∙ ap (λ z. a ++ z) y.part_text);
  part_each = λ rest. AreTokensBefore-append mode x.part y.part rest (x.part_each _) (y.part_each rest);
  part_sent = λ rest. except_marks-append x.part y.part rest false false (x.part_sent _)
      (subst (λ s. AreSentExceptMarksBefore rest s (line_after false x.part) y.part) (sym x.part_statement)
      (subst (λ l. AreSentExceptMarksBefore rest false l y.part) (sym x.part_line) (y.part_sent rest)));
  part_statement = statement_after-append x.part y.part false ∙ (ap (λ s. statement_after s y.part) x.part_statement ∙ y.part_statement);
  part_line = line_after-append x.part y.part false ∙ (ap (λ l. line_after l y.part) x.part_line ∙ y.part_line);
}

pub front_and_part : (mode : Bool) (a b : List ℕ) → SentText mode a → SentPart mode b → SentText mode (a ++ b)
front_and_part mode a b x y = record {
  list = x.list ++ y.part;
  list_text = text_of-append x.list y.part ∙ (ap (λ z. z ++ text_of y.part) x.list_text ∙ ap (λ z. a ++ z) y.part_text);
  list_each = λ rest. AreTokensBefore-append mode x.list y.part rest (x.list_each _) (y.part_each rest);
  list_front = λ rest. ap begins_as_sent (append_assoc a b rest) ∙ x.list_front (b ++ rest);
  list_sent = λ rest statement line. except_marks-append x.list y.part rest statement line (x.list_sent _ statement line)
      (subst (λ s. AreSentExceptMarksBefore rest s (line_after line x.list) y.part) (sym (x.list_statement statement))
      (subst (λ l. AreSentExceptMarksBefore rest false l y.part) (sym (x.list_line line)) (y.part_sent rest)));
  list_statement = λ statement. statement_after-append x.list y.part statement ∙ (ap (λ s. statement_after s y.part) (x.list_statement statement) ∙ y.part_statement);
  list_line = λ line. line_after-append x.list y.part line ∙ (ap (λ l. line_after l y.part) (x.list_line line) ∙ y.part_line);
}

-- in a place that stands alone
pub sent_alone : (mode : Bool) (text : List ℕ) (list : List Token) → SentText mode text → IsTokens mode text list →
    HoldsAlone IsSentAt list
sent_alone mode text list s a before rest b n =
    let same : s.list ≡ list = one_token_list mode text s.list list (record { text = s.list_text; each = s.list_each [] }) a in
    subst (λ z. IsSentAt before z rest) same (record {
      stands = b;
      front = ap begins_as_sent (text_then-text_of s.list rest ∙ ap (λ z. z ++ rest) s.list_text) ∙ s.list_front rest;
      sent = s.list_sent rest;
      no_statement = s.list_statement;
      no_line = s.list_line;
    })

-- ---- digits and letters

alphanumeric_word : (b : ℕ) → is_alphanumeric b ≡ true → begins_no_word b ≡ false
alphanumeric_word b h = grind (arith, nat_tests)

alphanumeric_statement : (statement : Bool) (b : ℕ) → is_alphanumeric b ≡ true → begins_statement statement (Plain b) ≡ false
alphanumeric_statement statement b h = rw (other is_alphanumeric b (byte ";") h refl, alphanumeric_word b h) refl

alphanumeric_line : (line : Bool) (b : ℕ) → is_alphanumeric b ≡ true → begins_line line (Plain b) ≡ false
alphanumeric_line line b h = rw (other is_alphanumeric b (byte ";") h refl, other is_alphanumeric b newline h refl, other is_alphanumeric b slash h refl, alphanumeric_word b h) refl

alphanumeric_found : (statement line : Bool) (b : ℕ) (rest : List ℕ) → is_alphanumeric b ≡ true →
    found_word statement line (letter_of b) rest ≡ None → found_in_client statement line (Plain b) rest ≡ None
alphanumeric_found statement line b rest h w =
    rw (other is_alphanumeric b 0 h refl, other is_alphanumeric b (byte "\\") h refl, other is_alphanumeric b asterisk h refl, other is_alphanumeric b dash h refl) w

run_sent : (bytes rest : List ℕ) → list_all is_alphanumeric bytes ≡ true → AreSentExceptMarksBefore rest false false (plain_tokens bytes)
run_sent [] rest h = tt
run_sent (b ∷ bytes) rest h =
    let p = and_parts (is_alphanumeric b) (list_all is_alphanumeric bytes) h in
    (alphanumeric_found false false b (text_then rest (plain_tokens bytes)) p.0 refl, rw (alphanumeric_statement false b p.0, alphanumeric_line false b p.0) (run_sent bytes rest p.1))

run_statement : (bytes : List ℕ) → list_all is_alphanumeric bytes ≡ true → statement_after false (plain_tokens bytes) ≡ false
run_statement [] h = refl
run_statement (b ∷ bytes) h =
    let p = and_parts (is_alphanumeric b) (list_all is_alphanumeric bytes) h in
    ap (λ s. statement_after s (plain_tokens bytes)) (alphanumeric_statement false b p.0) ∙ run_statement bytes p.1

run_line : (bytes : List ℕ) → list_all is_alphanumeric bytes ≡ true → line_after false (plain_tokens bytes) ≡ false
run_line [] h = refl
run_line (b ∷ bytes) h =
    let p = and_parts (is_alphanumeric b) (list_all is_alphanumeric bytes) h in
    ap (λ l. line_after l (plain_tokens bytes)) (alphanumeric_line false b p.0) ∙ run_line bytes p.1

pub run_part : (mode : Bool) (bytes : List ℕ) → list_all is_alphanumeric bytes ≡ true → SentPart mode bytes
run_part mode bytes h = record {
  part = plain_tokens bytes;
  part_text = plain_text bytes;
  part_each = plain_before mode bytes h;
  part_sent = λ rest. run_sent bytes rest h;
  part_statement = run_statement bytes h;
  part_line = run_line bytes h;
}

sent_first_alphanumeric : (b : ℕ) → is_alphanumeric b ≡ true → is_sent_first b ≡ true
unfolding is_sent_first
sent_first_alphanumeric b h = rw h refl

sent_front : (b : ℕ) (bytes : List ℕ) → is_sent_first b ≡ true → begins_as_sent (b ∷ bytes) ≡ true
sent_front b bytes h = rw h refl

-- a run whose first byte begins no word of a client
run_text : (mode : Bool) (b : ℕ) (bytes : List ℕ) → list_all is_alphanumeric (b ∷ bytes) ≡ true →
    ((rest : List ℕ) (statement line : Bool) → found_word statement line (letter_of b) (text_then rest (plain_tokens bytes)) ≡ None) →
    SentText mode (b ∷ bytes)
run_text mode b bytes h w =
    let p = and_parts (is_alphanumeric b) (list_all is_alphanumeric bytes) h in
    record {
      list = plain_tokens (b ∷ bytes);
      list_text = plain_text (b ∷ bytes);
      list_each = plain_before mode (b ∷ bytes) h;
      list_front = λ rest. sent_front b (bytes ++ rest) (sent_first_alphanumeric b p.0);
      list_sent = λ rest statement line. (
        alphanumeric_found statement line b (text_then rest (plain_tokens bytes)) p.0 (w rest statement line),
        rw (alphanumeric_statement statement b p.0, alphanumeric_line line b p.0) (run_sent bytes rest p.1),
      );
      list_statement = λ statement. ap (λ s. statement_after s (plain_tokens bytes)) (alphanumeric_statement statement b p.0) ∙ run_statement bytes p.1;
      list_line = λ line. ap (λ l. line_after l (plain_tokens bytes)) (alphanumeric_line line b p.0) ∙ run_line bytes p.1;
    }

digit_below : (d : ℕ) → is_ascii_digit d ≡ true → nat_lt d 192 ≡ true
digit_below d h = grind (arith, nat_tests)

digit_small : (d : ℕ) → is_ascii_digit d ≡ true → to_ascii_lowercase d ≡ d
digit_small d h = grind (arith, nat_tests)

digit_no_letter : (d : ℕ) → is_ascii_digit d ≡ true → is_word_letter d ≡ false
digit_no_letter d h = grind (arith, nat_tests)

digit_letter : (d : ℕ) → is_ascii_digit d ≡ true → is_word_letter (letter_of d) ≡ false
digit_letter d h = rw (digit_below d h, digit_small d h) (digit_no_letter d h)

pub digits_text : (mode : Bool) (digits : List ℕ) → AreDigits digits → SentText mode digits
digits_text mode [] h = absurd h
digits_text mode (d ∷ digits) h =
    run_text mode d digits (AreDigits-alphanumeric (d ∷ digits) h) (λ rest statement line. no_word_found statement line (letter_of d) (text_then rest (plain_tokens digits)) (digit_letter d h.0))

-- `NULL` is no word of a client
null_found : (rest : List ℕ) (statement line : Bool) → found_word statement line (letter_of (byte "N")) (text_then rest (plain_tokens (codes "ULL"))) ≡ None
unfolding is_client_word
null_found rest statement line = rw (and_none line, and_none statement) refl

-- ---- a sign

digit_stays : (d : ℕ) (rest : List ℕ) → is_ascii_digit d ≡ true → drops_line (d ∷ rest) ≡ false
digit_stays d rest h = rw (other is_ascii_digit d question_mark h refl, other is_ascii_digit d colon h refl, other is_ascii_digit d dash h refl) refl

digit_stands : (d : ℕ) (rest : List ℕ) → is_ascii_digit d ≡ true → stand_before_comment (d ∷ rest) ≡ false
digit_stands d rest h = rw (other is_ascii_digit d dash h refl) refl

minus_found : (statement line : Bool) (d : ℕ) (rest : List ℕ) → is_ascii_digit d ≡ true →
    found_in_client statement line (Plain dash) (d ∷ rest) ≡ None
minus_found statement line d rest h =
    rw (digit_stays d rest h, digit_stands d rest h, and_none statement) (no_word_found statement line dash (d ∷ rest) refl)

minus_front : (d : ℕ) (rest : List ℕ) → is_ascii_digit d ≡ true → begins_as_sent (dash ∷ d ∷ rest) ≡ true
unfolding is_sent_first
minus_front d rest h = rw h refl

pub minus_text : (mode : Bool) (digits : List ℕ) → AreDigits digits → SentText mode (dash ∷ digits)
unfolding run_part
minus_text mode [] h = absurd h
minus_text mode (d ∷ digits) h =
    let r = run_part mode (d ∷ digits) (AreDigits-alphanumeric (d ∷ digits) h) in
    record {
      list = Plain dash ∷ r.part;
      list_text = ap (λ z. dash ∷ z) r.part_text;
      list_each = λ rest. (minus_plain mode d (text_then rest (plain_tokens digits)) h.0, r.part_each rest);
      list_front = λ rest. minus_front d (digits ++ rest) h.0;
      list_sent = λ rest statement line. (minus_found statement line d (text_then rest (plain_tokens digits)) h.0, r.part_sent rest);
      list_statement = λ statement. r.part_statement;
      list_line = λ line. r.part_line;
    }

-- ---- a text in quotes

no_newline_first : (bytes : List ℕ) → list_all is_in_line bytes ≡ true → begins (λ c. c == newline) bytes ≡ false
no_newline_first [] h = refl
no_newline_first (b ∷ bytes) h = other is_in_line b newline (and_parts (is_in_line b) (list_all is_in_line bytes) h).0 refl

no_line_end : (b : ℕ) (bytes : List ℕ) → list_all is_in_line (b ∷ bytes) ≡ true → ends_line (b ∷ bytes) ≡ false
no_line_end b bytes h =
    let p = and_parts (is_in_line b) (list_all is_in_line bytes) h in
    or_from (b == newline) _ (other is_in_line b newline p.0 refl) (rw (no_newline_first bytes p.1) (and_none (b == carriage_return)))

no_escaped_line : (quote : ℕ) → (quote == byte "\\") ≡ false → (body : List ℕ) → list_all is_in_line (body ++ quote ∷ []) ≡ true →
    escapes_newline (body ++ quote ∷ []) ≡ false
no_escaped_line quote n [] h = rw n refl
no_escaped_line quote n (b ∷ []) h =
    let p = and_parts (is_in_line b) (list_all is_in_line (quote ∷ [])) h in
    or_from (b == byte "\\" && ends_line (quote ∷ [])) _ (rw (no_line_end quote [] p.1) (and_none (b == byte "\\"))) (no_escaped_line quote n [] p.1)
no_escaped_line quote n (b ∷ c ∷ body) h =
    let p = and_parts (is_in_line b) (list_all is_in_line (c ∷ (body ++ quote ∷ []))) h in
    or_from (b == byte "\\" && ends_line (c ∷ (body ++ quote ∷ []))) _ (rw (no_line_end c (body ++ quote ∷ []) p.1) (and_none (b == byte "\\"))) (no_escaped_line quote n (c ∷ body) p.1)

no_delimiter_line : (bytes : List ℕ) → list_all is_in_line bytes ≡ true → begins_delimiter_line bytes ≡ false
no_delimiter_line [] h = refl
no_delimiter_line (b ∷ bytes) h =
    let p = and_parts (is_in_line b) (list_all is_in_line bytes) h in
    rw (other is_in_line b newline p.0 refl) (no_delimiter_line bytes p.1)

pub no_zero : (bytes : List ℕ) → list_all is_in_line bytes ≡ true → list_any (λ b. b == 0) bytes ≡ false
no_zero [] h = refl
no_zero (b ∷ bytes) h =
    let p = and_parts (is_in_line b) (list_all is_in_line bytes) h in
    rw (other is_in_line b 0 p.0 refl) (no_zero bytes p.1)

-- a text in a line, and the quote that ends it
pub quotes_found : (body : List ℕ) (quote : ℕ) → (quote == byte "\\") ≡ false → list_all is_in_line (body ++ quote ∷ []) ≡ true →
    found_in_quotes (body ++ quote ∷ []) ≡ None
quotes_found body quote n h = rw (no_escaped_line quote n body h, no_delimiter_line (body ++ quote ∷ []) h) refl

quote_sent_first : is_sent_first single_quote ≡ true
unfolding is_sent_first
quote_sent_first = refl

string_text : (mode : Bool) {string : List ℕ} → IsClosedString mode string → list_all is_in_line string ≡ true → SentText mode string
string_text mode (closed_string body u) h =
    let tail : List ℕ = body ++ single_quote ∷ [] in
    record {
      list = QuotedString single_quote tail ∷ [];
      list_text = append-nil (single_quote ∷ tail);
      list_each = λ rest. ((refl, closed_tail body u refl), tt);
      list_front = λ rest. sent_front single_quote (tail ++ rest) quote_sent_first;
      list_sent = λ rest statement line. (rw (no_zero tail h) (quotes_found body single_quote refl h), tt);
      list_statement = λ statement. refl;
      list_line = λ line. refl;
    }

strings_text : (mode : Bool) {literal : List ℕ} → AreClosedStrings mode literal → list_all is_in_line literal ≡ true → SentText mode literal
strings_text mode (one_string string h) p = string_text mode h p
strings_text mode (more_strings string rest h hs) p =
    let q = all_parts is_in_line string rest p in
    front_and_part mode string rest (string_text mode h q.0) (part_of mode rest (strings_text mode hs q.1))

pub quoted_text : (mode : Bool) (literal : List ℕ) → IsQuoted mode literal → list_all is_in_line literal ≡ true → SentText mode literal
quoted_text false literal h p = string_text false h p
quoted_text true literal h p = strings_text true h p

-- ---- literals

pub literal_sent : (mode : Bool) {literal : List ℕ} → IsLiteral mode literal → list_all is_in_line literal ≡ true → SentText mode literal
literal_sent mode null_literal p = run_text mode (byte "N") (codes "ULL") refl null_found
literal_sent mode (natural_literal digits h) p = digits_text mode digits h
literal_sent mode (negative_literal digits h) p = minus_text mode digits h
literal_sent mode (hexadecimal_literal pairs h) p =
    run_text mode (byte "0") (byte "x" ∷ pairs) (AreHexadecimalPairs-alphanumeric pairs h) (λ rest statement line. no_word_found statement line (letter_of (byte "0")) (text_then rest (plain_tokens (byte "x" ∷ pairs))) refl)
literal_sent mode (quoted_literal literal h) p = quoted_text mode literal h p
