-- The statements of a bound text, and that a client of Client.antt reads it as its server.
use Rattle.std.specs.Prelude.{Bool, ⊤}
use Rattle.std.proofs.Common.{◌≡◌, ◌+◌, ◌++◌, ◌==◌, ℕ, suc, true, false, not, cond, List, [], ◌∷◌, length, drop, refl, sym, ap, ◌∙◌, subst, add-one, append-nil}
use Rattle.std.proofs.Math.Seq.{drop-nil}
use Rattle.std.specs.Str.{byte}
use Rattle.std.specs.List.{list_all}
use Rattle.std.proofs.lemmas.Bool.{and_parts, not-true}
use Rattle.mysql_sql_text.specs.LiteralShape.{AreDigits, IsClosedString, closed_string, AreClosedStrings, one_string, more_strings, IsQuoted, IsLiteral, null_literal, natural_literal, negative_literal, hexadecimal_literal, quoted_literal}
use Rattle.mysql_named_params.specs.Bytes.{dash, single_quote}
use Rattle.mysql_named_params.specs.Tokens.{closed_string as closed_tail}
use Rattle.mysql_named_params.proofs.TokenRowLemmas.{text_of-append, AreTokensBefore-append}
use Rattle.mysql_named_params.specs.Tokens.{Token, text_of, AreTokensBefore, IsTokens, QuotedString, QuotedIdentifier, HashComment, DashComment, BlockComment, Name, Mark, Plain}
use Rattle.mysql_named_params.specs.Places.{place_count}
use Rattle.mysql_named_params.proofs.TokenListLemmas.{one_token_list}
use Rattle.mysql_portable.specs.Client.{HoldNoOpener}
use Rattle.mysql_portable.specs.Statements.{in_first, statements}
use Rattle.mysql_binding.specs.Replaced.{AreLiterals, AreTokensOf, with_literal_tokens}
use Rattle.mysql_binding.specs.BoundStatements.{statements_with_literals}
use Rattle.mysql_binding.proofs.LiteralTokenLemmas.{is_alphanumeric, other, plain_tokens, plain_text, plain_before, minus_plain, AreDigits-alphanumeric, AreHexadecimalPairs-alphanumeric}
use Rattle.mysql_binding.proofs.SpliceLemmas.{Each}

-- ---- no literal has a comment or a `;`

abbrev pub stays_within : Token → Bool
stays_within (Plain b) = not (b == byte ";")
stays_within (BlockComment tail) = false
stays_within t = true

abbrev pub StayWithin : List Token → Type 0
StayWithin [] = ⊤
StayWithin (t ∷ ts) = (stays_within t ≡ true) × StayWithin ts

pub StayWithin-append : (xs ys : List Token) → StayWithin xs → StayWithin ys → StayWithin (xs ++ ys)
StayWithin-append [] ys h k = k
StayWithin-append (x ∷ xs) ys h k = (h.0, StayWithin-append xs ys h.1 k)

pub plain_within : (bytes : List ℕ) → list_all is_alphanumeric bytes ≡ true → StayWithin (plain_tokens bytes)
plain_within [] h = tt
plain_within (b ∷ bytes) h =
    let p = and_parts (is_alphanumeric b) (list_all is_alphanumeric bytes) h in
    (rw (other is_alphanumeric b (byte ";") p.0 refl) refl, plain_within bytes p.1)

-- a literal has tokens that stay within it
pub record WithinLiteral (mode : Bool) (literal : List ℕ) : Type 0 where
  pub tokens : List Token
  pub text : text_of tokens ≡ literal
  pub each : (rest : List ℕ) → AreTokensBefore mode rest tokens
  pub stay : StayWithin tokens

-- two texts, one after the other
pub both_within : (mode : Bool) (first more : List ℕ) → WithinLiteral mode first → WithinLiteral mode more →
    WithinLiteral mode (first ++ more)
both_within mode first more a b = record {
  tokens = a.tokens ++ b.tokens;
  text = text_of-append a.tokens b.tokens ∙ (ap (λ x. x ++ text_of b.tokens) a.text ∙ ap (λ x. first ++ x) b.text);
  each = λ rest. AreTokensBefore-append mode a.tokens b.tokens rest (a.each _) (b.each rest);
  stay = StayWithin-append a.tokens b.tokens a.stay b.stay;
}

-- its tokens, read by itself, are these
pub list_within : (mode : Bool) (literal : List ℕ) (list : List Token) → WithinLiteral mode literal →
    IsTokens mode literal list → StayWithin list
list_within mode literal list w a =
    subst StayWithin (one_token_list mode literal w.tokens list (record { text = w.text; each = w.each [] }) a) w.stay

pub plain_literal : (mode : Bool) (bytes : List ℕ) → list_all is_alphanumeric bytes ≡ true → WithinLiteral mode bytes
plain_literal mode bytes h = record { tokens = plain_tokens bytes; text = plain_text bytes; each = plain_before mode bytes h; stay = plain_within bytes h }

minus_literal : (mode : Bool) (digits : List ℕ) → AreDigits digits → WithinLiteral mode (dash ∷ digits)
minus_literal mode [] h = absurd h
minus_literal mode (d ∷ digits) h = record {
  tokens = plain_tokens (dash ∷ d ∷ digits);
  text = plain_text (dash ∷ d ∷ digits);
  each = λ rest. (minus_plain mode d _ h.0, plain_before mode (d ∷ digits) (AreDigits-alphanumeric (d ∷ digits) h) rest);
  stay = (refl, plain_within (d ∷ digits) (AreDigits-alphanumeric (d ∷ digits) h));
}

string_literal : (mode : Bool) {string : List ℕ} → IsClosedString mode string → WithinLiteral mode string
string_literal mode (closed_string body u) = record {
  tokens = QuotedString single_quote (body ++ single_quote ∷ []) ∷ [];
  text = append-nil (single_quote ∷ (body ++ single_quote ∷ []));
  each = λ rest. ((refl, closed_tail body u refl), tt);
  stay = (refl, tt);
}

strings_literal : (mode : Bool) {literal : List ℕ} → AreClosedStrings mode literal → WithinLiteral mode literal
strings_literal mode (one_string string h) = string_literal mode h
strings_literal mode (more_strings string rest h hs) = both_within mode string rest (string_literal mode h) (strings_literal mode hs)

quoted_within : (mode : Bool) (literal : List ℕ) → IsQuoted mode literal → WithinLiteral mode literal
quoted_within false literal h = string_literal false h
quoted_within true literal h = strings_literal true h

pub within : (mode : Bool) {literal : List ℕ} → IsLiteral mode literal → WithinLiteral mode literal
within mode null_literal = plain_literal mode _ refl
within mode (natural_literal digits h) = plain_literal mode digits (AreDigits-alphanumeric digits h)
within mode (negative_literal digits h) = minus_literal mode digits h
within mode (hexadecimal_literal pairs h) = plain_literal mode _ (AreHexadecimalPairs-alphanumeric pairs h)
within mode (quoted_literal literal h) = quoted_within mode literal h

pub literals_within : (mode : Bool) (literals : List (List ℕ)) (lists : List (List Token)) → AreLiterals mode literals →
    AreTokensOf mode literals lists → Each StayWithin lists
literals_within mode [] [] s a = tt
literals_within mode [] (list ∷ lists) s a = absurd a
literals_within mode (literal ∷ literals) [] s a = absurd a
literals_within mode (literal ∷ literals) (list ∷ lists) s a =
    (list_within mode literal list (within mode s.0) a.0, literals_within mode literals lists s.1 a.1)

-- ---- comments

HoldNoOpener-append : (xs ys : List Token) → StayWithin xs → HoldNoOpener ys → HoldNoOpener (xs ++ ys)
HoldNoOpener-append [] ys h k = k
HoldNoOpener-append (BlockComment tail ∷ xs) ys h k = cc
HoldNoOpener-append (QuotedString quote tail ∷ xs) ys h k = HoldNoOpener-append xs ys h.1 k
HoldNoOpener-append (QuotedIdentifier tail ∷ xs) ys h k = HoldNoOpener-append xs ys h.1 k
HoldNoOpener-append (HashComment tail ∷ xs) ys h k = HoldNoOpener-append xs ys h.1 k
HoldNoOpener-append (DashComment gap tail ∷ xs) ys h k = HoldNoOpener-append xs ys h.1 k
HoldNoOpener-append (Name name ∷ xs) ys h k = HoldNoOpener-append xs ys h.1 k
HoldNoOpener-append (Mark ∷ xs) ys h k = HoldNoOpener-append xs ys h.1 k
HoldNoOpener-append (Plain b ∷ xs) ys h k = HoldNoOpener-append xs ys h.1 k

-- no comment of the text holds an opener, if none of the query does
pub replaced_no_opener : (ts : List Token) (lists : List (List Token)) → Each StayWithin lists → HoldNoOpener ts →
    HoldNoOpener (with_literal_tokens ts lists)
replaced_no_opener [] lists e h = tt
replaced_no_opener (Name name ∷ ts) [] e h = replaced_no_opener ts [] e h
replaced_no_opener (Name name ∷ ts) (list ∷ lists) e h = HoldNoOpener-append list _ e.0 (replaced_no_opener ts lists e.1 h)
replaced_no_opener (Mark ∷ ts) [] e h = replaced_no_opener ts [] e h
replaced_no_opener (Mark ∷ ts) (list ∷ lists) e h = HoldNoOpener-append list _ e.0 (replaced_no_opener ts lists e.1 h)
replaced_no_opener (BlockComment tail ∷ ts) lists e h = (h.0, replaced_no_opener ts lists e h.1)
replaced_no_opener (QuotedString quote tail ∷ ts) lists e h = replaced_no_opener ts lists e h
replaced_no_opener (QuotedIdentifier tail ∷ ts) lists e h = replaced_no_opener ts lists e h
replaced_no_opener (HashComment tail ∷ ts) lists e h = replaced_no_opener ts lists e h
replaced_no_opener (DashComment gap tail ∷ ts) lists e h = replaced_no_opener ts lists e h
replaced_no_opener (Plain b ∷ ts) lists e h = replaced_no_opener ts lists e h

-- ---- statements

-- the lists with these tokens in front of the first
abbrev pub in_front : List Token → List (List Token) → List (List Token)
in_front [] lists = lists
in_front (t ∷ ts) lists = in_first t (in_front ts lists)

in_front-cons : (ts first : List Token) (more : List (List Token)) → in_front ts (first ∷ more) ≡ (ts ++ first) ∷ more
in_front-cons [] first more = refl
in_front-cons (t ∷ ts) first more = ap (in_first t) (in_front-cons ts first more)

in_front-none : (ts : List Token) → in_front ts [] ≡ []
in_front-none [] = refl
in_front-none (t ∷ ts) = ap (in_first t) (in_front-none ts)

statements-append : (xs ys : List Token) → StayWithin xs → statements (xs ++ ys) ≡ in_front xs (statements ys)
statements-append [] ys h = refl
statements-append (Plain b ∷ xs) ys h = rw (not-true _ h.0) (ap (in_first (Plain b)) (statements-append xs ys h.1))
statements-append (BlockComment tail ∷ xs) ys h = cc
statements-append (QuotedString quote tail ∷ xs) ys h = ap (in_first (QuotedString quote tail)) (statements-append xs ys h.1)
statements-append (QuotedIdentifier tail ∷ xs) ys h = ap (in_first (QuotedIdentifier tail)) (statements-append xs ys h.1)
statements-append (HashComment tail ∷ xs) ys h = ap (in_first (HashComment tail)) (statements-append xs ys h.1)
statements-append (DashComment gap tail ∷ xs) ys h = ap (in_first (DashComment gap tail)) (statements-append xs ys h.1)
statements-append (Name name ∷ xs) ys h = ap (in_first (Name name)) (statements-append xs ys h.1)
statements-append (Mark ∷ xs) ys h = ap (in_first Mark) (statements-append xs ys h.1)

-- a place more in the first statement
place_more : (n : ℕ) (list : List Token) (lists : List (List Token)) → drop (n + 1) (list ∷ lists) ≡ drop n lists
place_more n list lists = rw add-one refl

-- the first place of the first statement
name_first : (name : List ℕ) (list : List Token) (ss lists : List (List Token)) →
    statements_with_literals (in_first (Name name) ss) (list ∷ lists) ≡ in_front list (statements_with_literals ss lists)
name_first name list [] lists = sym (in_front-none list)
name_first name list (first ∷ more) lists =
    ap (λ x. (list ++ with_literal_tokens first lists) ∷ statements_with_literals more x) (place_more (place_count first) list lists)
    ∙ sym (in_front-cons list (with_literal_tokens first lists) (statements_with_literals more (drop (place_count first) lists)))

mark_first : (list : List Token) (ss lists : List (List Token)) →
    statements_with_literals (in_first Mark ss) (list ∷ lists) ≡ in_front list (statements_with_literals ss lists)
mark_first list [] lists = sym (in_front-none list)
mark_first list (first ∷ more) lists =
    ap (λ x. (list ++ with_literal_tokens first lists) ∷ statements_with_literals more x) (place_more (place_count first) list lists)
    ∙ sym (in_front-cons list (with_literal_tokens first lists) (statements_with_literals more (drop (place_count first) lists)))

-- if no list is left, a place is a token as any other
nothing_left : (m n : ℕ) (t : Token) (first : List Token) (more : List (List Token)) →
    (t ∷ with_literal_tokens first []) ∷ statements_with_literals more (drop m []) ≡ (t ∷ with_literal_tokens first []) ∷ statements_with_literals more (drop n [])
nothing_left m n t first more = ap (λ x. (t ∷ with_literal_tokens first []) ∷ statements_with_literals more x) (drop-nil m ∙ sym (drop-nil n))

name_left : (name : List ℕ) (ss : List (List Token)) → statements_with_literals (in_first (Name name) ss) [] ≡ in_first (Name name) (statements_with_literals ss [])
name_left name [] = refl
name_left name (first ∷ more) = nothing_left (place_count first + 1) (place_count first) (Name name) first more

mark_left : (ss : List (List Token)) → statements_with_literals (in_first Mark ss) [] ≡ in_first Mark (statements_with_literals ss [])
mark_left [] = refl
mark_left (first ∷ more) = nothing_left (place_count first + 1) (place_count first) Mark first more

abbrev pub IsNoPlace : Token → Type 0
IsNoPlace t = (ss lists : List (List Token)) → statements_with_literals (in_first t ss) lists ≡ in_first t (statements_with_literals ss lists)

string_no_place : (quote : ℕ) (tail : List ℕ) → IsNoPlace (QuotedString quote tail)
string_no_place quote tail [] lists = refl
string_no_place quote tail (first ∷ more) lists = refl

identifier_no_place : (tail : List ℕ) → IsNoPlace (QuotedIdentifier tail)
identifier_no_place tail [] lists = refl
identifier_no_place tail (first ∷ more) lists = refl

hash_no_place : (tail : List ℕ) → IsNoPlace (HashComment tail)
hash_no_place tail [] lists = refl
hash_no_place tail (first ∷ more) lists = refl

dash_no_place : (gap : ℕ) (tail : List ℕ) → IsNoPlace (DashComment gap tail)
dash_no_place gap tail [] lists = refl
dash_no_place gap tail (first ∷ more) lists = refl

block_no_place : (tail : List ℕ) → IsNoPlace (BlockComment tail)
block_no_place tail [] lists = refl
block_no_place tail (first ∷ more) lists = refl

plain_no_place : (b : ℕ) → IsNoPlace (Plain b)
plain_no_place b [] lists = refl
plain_no_place b (first ∷ more) lists = refl

-- the statements of the text are those of the tokens, with literals
pub replaced_statements : (us : List Token) (lists : List (List Token)) → Each StayWithin lists →
    statements (with_literal_tokens us lists) ≡ statements_with_literals (statements us) lists
replaced_statements [] lists e = refl
replaced_statements (Name name ∷ us) [] e = ap (in_first (Name name)) (replaced_statements us [] e) ∙ sym (name_left name (statements us))
replaced_statements (Name name ∷ us) (list ∷ lists) e =
    statements-append list _ e.0 ∙ (ap (in_front list) (replaced_statements us lists e.1) ∙ sym (name_first name list (statements us) lists))
replaced_statements (Mark ∷ us) [] e = ap (in_first Mark) (replaced_statements us [] e) ∙ sym (mark_left (statements us))
replaced_statements (Mark ∷ us) (list ∷ lists) e =
    statements-append list _ e.0 ∙ (ap (in_front list) (replaced_statements us lists e.1) ∙ sym (mark_first list (statements us) lists))
replaced_statements (Plain b ∷ us) lists e = go (b == byte ";") (replaced_statements us lists e)
  where
    go : (s : Bool) → statements (with_literal_tokens us lists) ≡ statements_with_literals (statements us) lists →
        cond s ([] ∷ statements (with_literal_tokens us lists)) (in_first (Plain b) (statements (with_literal_tokens us lists)))
        ≡ statements_with_literals (cond s ([] ∷ statements us) (in_first (Plain b) (statements us))) lists
    go true r = ap (λ x. [] ∷ x) r
    go false r = ap (in_first (Plain b)) r ∙ sym (plain_no_place b (statements us) lists)
replaced_statements (QuotedString quote tail ∷ us) lists e =
    ap (in_first (QuotedString quote tail)) (replaced_statements us lists e) ∙ sym (string_no_place quote tail (statements us) lists)
replaced_statements (QuotedIdentifier tail ∷ us) lists e =
    ap (in_first (QuotedIdentifier tail)) (replaced_statements us lists e) ∙ sym (identifier_no_place tail (statements us) lists)
replaced_statements (HashComment tail ∷ us) lists e =
    ap (in_first (HashComment tail)) (replaced_statements us lists e) ∙ sym (hash_no_place tail (statements us) lists)
replaced_statements (DashComment gap tail ∷ us) lists e =
    ap (in_first (DashComment gap tail)) (replaced_statements us lists e) ∙ sym (dash_no_place gap tail (statements us) lists)
replaced_statements (BlockComment tail ∷ us) lists e =
    ap (in_first (BlockComment tail)) (replaced_statements us lists e) ∙ sym (block_no_place tail (statements us) lists)

-- there are as many
pub length-with_literals : (ss lists : List (List Token)) → length (statements_with_literals ss lists) ≡ length ss
length-with_literals [] lists = refl
length-with_literals (first ∷ more) lists = ap suc (length-with_literals more (drop (place_count first) lists))
