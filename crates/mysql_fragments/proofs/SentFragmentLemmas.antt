-- A client sends a fragment whose text is in one line as it is, if it begins with no keyword or
-- isn't the first of a list.
use Rattle.std.specs.Prelude.{Bool, codes, nat_le, nat_lt}
use Rattle.std.proofs.Common.{◌≡◌, ◌++◌, ◌==◌, ◌&&◌, ◌||◌, not, ℕ, true, false, List, [], ◌∷◌, None, arith, inl, inr, refl, ap, ◌∙◌, sym, subst, true≢false}
use Rattle.std.specs.Char.{is_ascii_alphabetic, to_ascii_lowercase}
use Rattle.std.specs.List.{list_all}
use Rattle.std.specs.Str.{byte}
use Rattle.std.proofs.lemmas.Bool.{and_parts, and_from, cases_Bool}
use Rattle.std.proofs.lemmas.Bool.Decides.{nat_tests}
use Rattle.mysql_sql_text.specs.LiteralShape.{AreDigits}
use Rattle.mysql_named_params.specs.Bytes.{asterisk, newline, slash, backquote, dash, point, underscore}
use Rattle.mysql_named_params.specs.Tokens.{IsToken, Mark, Plain}
use Rattle.mysql_named_params.proofs.TokenEnds.{plain_at}
use Rattle.mysql_portable.specs.FoundInClient.{begins_statement, begins_line, begins_no_word, found_in_client, is_client_word}
use Rattle.mysql_portable.specs.SteadyBytes.{IsSteady}
use Rattle.mysql_portable.specs.Steady.{is_steady}
use Rattle.mysql_portable.proofs.OtherModeLemmas.{all_parts, tokens_before_other}
use Rattle.mysql_portable.proofs.SteadyLemmas.{steady_tokens}
use Rattle.mysql_steady_text.proofs.SteadySentLemmas.{steady_sent}
use Rattle.mysql_binding.proofs.LiteralTokenLemmas.{other, AreDigits-alphanumeric}
use Rattle.mysql_sql_text.specs.InLine.{is_in_line}
use Rattle.mysql_binding.proofs.SentLiteralLemmas.{and_none, SentPart, SentText, both_parts, digits_text, front_and_part, literal_sent, minus_text, part_of, run_part}
use Rattle.mysql_binding.proofs.SentTextLemmas.{is_sent_first, no_word_found}
use Rattle.mysql_float_literal.specs.DoubleShape.{IsSign, no_sign, minus_sign, IsFraction, no_fraction, point_and_digits, IsDouble, double_shape}
use Rattle.mysql_fragments.specs.FragmentFaults.{escapes_end, is_keyword}
use Rattle.mysql_fragments.specs.FragmentShape.{IsIdentifier, one_name, more_names, IsFragment, mark_fragment, literal_fragment, steady_fragment, decimal_fragment, negative_decimal_fragment, double_fragment, identifier_fragment, keyword_fragment, assignment_fragment, list_fragment, row_fragment}
use Rattle.mysql_fragments.specs.FragmentText.{doubled, identifier_text}
use Rattle.mysql_fragments.specs.SentFragments.{begins_no_word_of_client}
use Rattle.mysql_fragments.proofs.FragmentLemmas.{doubled_other, doubled_quote, identifier_tokens, is_word_byte, keyword_bytes, keyword_first, quoted_run, word_plain}

undoubled : (name : List ℕ) → list_all is_in_line (doubled name) ≡ true → list_all is_in_line name ≡ true
undoubled [] k = refl
undoubled (b ∷ bs) k =
    elim (cases_Bool (b == backquote)) [
      | inl e ↦
          let p = and_parts (is_in_line b) (list_all is_in_line (b ∷ doubled bs)) (subst (λ x. list_all is_in_line x ≡ true) (doubled_quote b bs e) k) in
          and_from _ _ p.0 (undoubled bs (and_parts (is_in_line b) (list_all is_in_line (doubled bs)) p.1).1)
      | inr e ↦
          let p = and_parts (is_in_line b) (list_all is_in_line (doubled bs)) (subst (λ x. list_all is_in_line x ≡ true) (doubled_other b bs e) k) in
          and_from _ _ p.0 (undoubled bs p.1)
    ]

backquote_sent_first : is_sent_first backquote ≡ true
unfolding is_sent_first
backquote_sent_first = refl

name_sent : (mode : Bool) (name : List ℕ) → escapes_end name ≡ false → list_all is_in_line (identifier_text name) ≡ true →
    SentText mode (identifier_text name)
name_sent mode name plain k =
    let h = quoted_run mode [] name refl plain in
    let inside = undoubled name (all_parts is_in_line (doubled name) (backquote ∷ []) k).0 in
    record {
      list = identifier_tokens [] name;
      list_text = h.run_text;
      list_each = h.run_tokens;
      list_front = λ rest. rw backquote_sent_first refl;
      list_sent = h.run_sent inside;
      list_statement = h.run_statement;
      list_line = h.run_line;
    }

byte_part : (mode : Bool) (b : ℕ) → ((rest : List ℕ) → IsToken mode (Plain b) rest) →
    ((rest : List ℕ) → found_in_client false false (Plain b) rest ≡ None) → begins_statement false (Plain b) ≡ false →
    begins_line false (Plain b) ≡ false → SentPart mode (b ∷ [])
byte_part mode b is none s l = record {
  part = Plain b ∷ [];
  part_text = refl;
  part_each = λ rest. (is rest, tt);
  part_sent = λ rest. (none rest, tt);
  part_statement = s;
  part_line = l;
}

point_part : (mode : Bool) → SentPart mode (codes ".")
point_part mode = byte_part mode point (λ rest. plain_at mode point rest refl) (λ rest. refl) refl refl

separator_part : (mode : Bool) → SentPart mode (codes ", ")
separator_part mode =
    both_parts mode (codes ",") (codes " ")
    (byte_part mode (byte ",") (λ rest. plain_at mode (byte ",") rest refl) (λ rest. refl) refl refl)
    (byte_part mode (byte " ") (λ rest. plain_at mode (byte " ") rest refl) (λ rest. refl) refl refl)

equals_part : (mode : Bool) → SentPart mode (codes " = ")
equals_part mode =
    both_parts mode (codes " ") (codes "= ")
    (byte_part mode (byte " ") (λ rest. plain_at mode (byte " ") rest refl) (λ rest. refl) refl refl)
    (both_parts mode (codes "=") (codes " ")
    (byte_part mode (byte "=") (λ rest. plain_at mode (byte "=") rest refl) (λ rest. refl) refl refl)
    (byte_part mode (byte " ") (λ rest. plain_at mode (byte " ") rest refl) (λ rest. refl) refl refl))

closing_part : (mode : Bool) → SentPart mode (codes ")")
closing_part mode = byte_part mode (byte ")") (λ rest. plain_at mode (byte ")") rest refl) (λ rest. refl) refl refl

bracket_text : (mode : Bool) → SentText mode (codes "(")
unfolding is_sent_first is_client_word
bracket_text mode = record {
  list = Plain (byte "(") ∷ [];
  list_text = refl;
  list_each = λ rest. (plain_at mode (byte "(") rest refl, tt);
  list_front = λ rest. refl;
  list_sent = λ rest statement line. (no_word_found statement line (byte "(") rest refl, tt);
  list_statement = λ statement. refl;
  list_line = λ line. refl;
}

mark_text : (mode : Bool) → SentText mode (codes "?")
unfolding is_sent_first
mark_text mode = record {
  list = Mark ∷ [];
  list_text = refl;
  list_each = λ rest. (tt, tt);
  list_front = λ rest. refl;
  list_sent = λ rest statement line. tt;
  list_statement = λ statement. refl;
  list_line = λ line. refl;
}

identifier_sent : (mode : Bool) {text : List ℕ} → IsIdentifier text → list_all is_in_line text ≡ true → SentText mode text
identifier_sent mode (one_name name plain) k = name_sent mode name plain k
identifier_sent mode (more_names name more plain h) k =
    let p = all_parts is_in_line (identifier_text name) (codes "." ++ more) k in
    front_and_part mode (identifier_text name) (codes "." ++ more) (name_sent mode name plain p.0)
    (both_parts mode (codes ".") more (point_part mode) (part_of mode more (identifier_sent mode h (all_parts is_in_line (codes ".") more p.1).1)))

decimal_sent : (mode : Bool) (whole fraction : List ℕ) → AreDigits whole → AreDigits fraction → SentText mode (whole ++ (codes "." ++ fraction))
decimal_sent mode whole fraction w f =
    front_and_part mode whole (codes "." ++ fraction) (digits_text mode whole w)
    (both_parts mode (codes ".") fraction (point_part mode) (run_part mode fraction (AreDigits-alphanumeric fraction f)))

negative_sent : (mode : Bool) (whole fraction : List ℕ) → AreDigits whole → AreDigits fraction → SentText mode (codes "-" ++ (whole ++ (codes "." ++ fraction)))
negative_sent mode whole fraction w f =
    front_and_part mode (dash ∷ whole) (codes "." ++ fraction) (minus_text mode whole w)
    (both_parts mode (codes ".") fraction (point_part mode) (run_part mode fraction (AreDigits-alphanumeric fraction f)))

-- a double: after its whole part a point with digits or none, and its exponent
exponent_part : (mode : Bool) {sign : List ℕ} (digits : List ℕ) → IsSign sign → AreDigits digits → SentPart mode (codes "e" ++ (sign ++ digits))
exponent_part mode digits no_sign e =
    both_parts mode (codes "e") digits (run_part mode (codes "e") refl) (run_part mode digits (AreDigits-alphanumeric digits e))
exponent_part mode digits minus_sign e =
    both_parts mode (codes "e") (dash ∷ digits) (run_part mode (codes "e") refl) (part_of mode (dash ∷ digits) (minus_text mode digits e))

after_whole_part : (mode : Bool) {fraction sign : List ℕ} (exponent : List ℕ) → IsFraction fraction → IsSign sign → AreDigits exponent →
    SentPart mode (fraction ++ (codes "e" ++ (sign ++ exponent)))
after_whole_part mode exponent no_fraction s e = exponent_part mode exponent s e
after_whole_part mode {sign = sign} exponent (point_and_digits digits f) s e =
    both_parts mode (codes ".") (digits ++ (codes "e" ++ (sign ++ exponent))) (point_part mode)
    (both_parts mode digits (codes "e" ++ (sign ++ exponent)) (run_part mode digits (AreDigits-alphanumeric digits f)) (exponent_part mode exponent s e))

double_sent : (mode : Bool) {text : List ℕ} → IsDouble text → SentText mode text
double_sent mode (double_shape _ whole fraction sign exponent no_sign w f s e) =
    front_and_part mode whole (fraction ++ (codes "e" ++ (sign ++ exponent))) (digits_text mode whole w) (after_whole_part mode exponent f s e)
double_sent mode (double_shape _ whole fraction sign exponent minus_sign w f s e) =
    front_and_part mode (dash ∷ whole) (fraction ++ (codes "e" ++ (sign ++ exponent))) (minus_text mode whole w) (after_whole_part mode exponent f s e)

-- a keyword behind the front of a list
word_found : (b : ℕ) (rest : List ℕ) → is_word_byte b ≡ true → found_in_client false false (Plain b) rest ≡ None
unfolding is_word_byte
word_found b rest h = rw (other is_word_byte b 0 h refl, other is_word_byte b (byte "\\") h refl, other is_word_byte b asterisk h refl, other is_word_byte b dash h refl) refl

word_statement : (b : ℕ) → is_word_byte b ≡ true → begins_statement false (Plain b) ≡ false
unfolding is_word_byte
word_statement b h = rw (other is_word_byte b (byte ";") h refl, and_none (begins_no_word b)) refl

word_line : (b : ℕ) → is_word_byte b ≡ true → begins_line false (Plain b) ≡ false
unfolding is_word_byte
word_line b h = rw (other is_word_byte b (byte ";") h refl, other is_word_byte b newline h refl, other is_word_byte b slash h refl, and_none (begins_no_word b)) refl

words_part : (mode : Bool) (bytes : List ℕ) → list_all is_word_byte bytes ≡ true → SentPart mode bytes
words_part mode [] h = record { part = []; part_text = refl; part_each = λ rest. tt; part_sent = λ rest. tt; part_statement = refl; part_line = refl }
words_part mode (b ∷ bytes) h =
    let p = and_parts (is_word_byte b) (list_all is_word_byte bytes) h in
    both_parts mode (b ∷ []) bytes (byte_part mode b (word_plain mode b p.0) (λ rest. word_found b rest p.0) (word_statement b p.0) (word_line b p.0)) (words_part mode bytes p.1)

-- a steady text has the same tokens in each mode
steady_in_mode : (mode : Bool) (text : List ℕ) → IsSteady text → SentText true text → SentText mode text
steady_in_mode mode text s t = record {
  list = t.list;
  list_text = t.list_text;
  list_each = λ rest. tokens_before_other true mode rest t.list (steady_tokens t.list (subst (λ x. list_all is_steady x ≡ true) (sym t.list_text) s)) (t.list_each rest);
  list_front = t.list_front;
  list_sent = t.list_sent;
  list_statement = t.list_statement;
  list_line = t.list_line;
}

pub fragment_part : (mode : Bool) {n : ℕ} {text : List ℕ} → IsFragment mode n text → list_all is_in_line text ≡ true → SentPart mode text
fragment_part mode mark_fragment k = part_of mode (codes "?") (mark_text mode)
fragment_part mode (literal_fragment literal h) k = part_of mode literal (literal_sent mode h k)
fragment_part mode (steady_fragment literal h s) k = part_of mode literal (steady_in_mode mode literal s (steady_sent h k))
fragment_part mode (decimal_fragment whole fraction w f) k = part_of mode (whole ++ (codes "." ++ fraction)) (decimal_sent mode whole fraction w f)
fragment_part mode (negative_decimal_fragment whole fraction w f) k = part_of mode (codes "-" ++ (whole ++ (codes "." ++ fraction))) (negative_sent mode whole fraction w f)
fragment_part mode (double_fragment text h) k = part_of mode text (double_sent mode h)
fragment_part mode (identifier_fragment text h) k = part_of mode text (identifier_sent mode h k)
fragment_part mode (keyword_fragment text h) k = words_part mode text (keyword_bytes false text h)
fragment_part mode (assignment_fragment n column value c v) k =
    let p = all_parts is_in_line column (codes " = " ++ value) k in
    both_parts mode column (codes " = " ++ value) (part_of mode column (identifier_sent mode c p.0))
    (both_parts mode (codes " = ") value (equals_part mode) (fragment_part mode v (all_parts is_in_line (codes " = ") value p.1).1))
fragment_part mode (list_fragment n m first more a b) k =
    let p = all_parts is_in_line first (codes ", " ++ more) k in
    both_parts mode first (codes ", " ++ more) (fragment_part mode a p.0)
    (both_parts mode (codes ", ") more (separator_part mode) (fragment_part mode b (all_parts is_in_line (codes ", ") more p.1).1))
fragment_part mode (row_fragment n inner a) k =
    let p = all_parts is_in_line inner (codes ")") k in
    both_parts mode (codes "(") (inner ++ codes ")") (part_of mode (codes "(") (bracket_text mode))
    (both_parts mode inner (codes ")") (fragment_part mode a p.0) (closing_part mode))

-- a keyword begins with a letter of a client's words
alphabetic_below : (b : ℕ) → is_ascii_alphabetic b ≡ true → nat_lt b 192 ≡ true
alphabetic_below b h = grind (arith, nat_tests)

alphabetic_letter : (b : ℕ) → is_ascii_alphabetic b ≡ true →
    ((nat_le (byte "a") (to_ascii_lowercase b) && nat_le (to_ascii_lowercase b) (byte "z")) || to_ascii_lowercase b == underscore) ≡ true
alphabetic_letter b h = grind (arith, nat_tests)

keyword_begins : (text : List ℕ) → is_keyword text ≡ true → begins_no_word_of_client text ≡ true → ⊥
keyword_begins [] h k = true≢false (sym h)
keyword_begins (b ∷ bytes) h k =
    let a = keyword_first b bytes h in
    let t : begins_no_word_of_client (b ∷ bytes) ≡ false = rw (alphabetic_below b a) (ap not (alphabetic_letter b a)) in
    true≢false (sym k ∙ t)

first_of_front : (mode : Bool) {n : ℕ} {first : List ℕ} (more : List ℕ) → IsFragment mode n first →
    begins_no_word_of_client (first ++ more) ≡ true → begins_no_word_of_client first ≡ true
first_of_front mode {first = []} more h k = refl
first_of_front mode {first = b ∷ bs} more h k = k

pub fragment_sent : (mode : Bool) {n : ℕ} {text : List ℕ} → IsFragment mode n text → list_all is_in_line text ≡ true →
    begins_no_word_of_client text ≡ true → SentText mode text
fragment_sent mode mark_fragment k w = mark_text mode
fragment_sent mode (literal_fragment literal h) k w = literal_sent mode h k
fragment_sent mode (steady_fragment literal h s) k w = steady_in_mode mode literal s (steady_sent h k)
fragment_sent mode (decimal_fragment whole fraction d f) k w = decimal_sent mode whole fraction d f
fragment_sent mode (negative_decimal_fragment whole fraction d f) k w = negative_sent mode whole fraction d f
fragment_sent mode (double_fragment text h) k w = double_sent mode h
fragment_sent mode (identifier_fragment text h) k w = identifier_sent mode h k
fragment_sent mode (keyword_fragment text h) k w = absurd (keyword_begins text h w)
fragment_sent mode (assignment_fragment n column value c v) k w =
    let p = all_parts is_in_line column (codes " = " ++ value) k in
    front_and_part mode column (codes " = " ++ value) (identifier_sent mode c p.0)
    (both_parts mode (codes " = ") value (equals_part mode) (fragment_part mode v (all_parts is_in_line (codes " = ") value p.1).1))
fragment_sent mode (list_fragment n m first more a b) k w =
    let p = all_parts is_in_line first (codes ", " ++ more) k in
    front_and_part mode first (codes ", " ++ more) (fragment_sent mode a p.0 (first_of_front mode (codes ", " ++ more) a w))
    (both_parts mode (codes ", ") more (separator_part mode) (fragment_part mode b (all_parts is_in_line (codes ", ") more p.1).1))
fragment_sent mode (row_fragment n inner a) k w =
    let p = all_parts is_in_line inner (codes ")") k in
    front_and_part mode (codes "(") (inner ++ codes ")") (bracket_text mode)
    (both_parts mode inner (codes ")") (fragment_part mode a p.0) (closing_part mode))
