-- Tokens that are left out behind a closing bracket: no test of a client looks beyond the bracket, so
-- nothing is found in the tokens that stay.
use Rattle.std.specs.Prelude.{Bool}
use Rattle.std.specs.List.{list_all, list_any}
use Rattle.std.specs.Str.{byte}
use Rattle.std.proofs.Common.{◌≡◌, ◌∙◌, ◌++◌, ◌==◌, ◌&&◌, ◌||◌, not, ℕ, true, false, List, [], ◌∷◌, if◌then◌else◌, codes, None, Some, inl, inr, arith, refl, sym, ap}
use Rattle.std.proofs.lemmas.Bool.{and_parts, and_right, cases_Bool}
use Rattle.std.proofs.lemmas.Bool.Decides.{nat_tests}
use Rattle.mysql_named_params.specs.Bytes.{asterisk, begins, colon, dash, hash, is_start_byte, question_mark, slash}
use Rattle.mysql_named_params.specs.Tokens.{BlockComment, DashComment, HashComment, Mark, Name, Plain, QuotedIdentifier, QuotedString, Token, bytes_of, text_of}
use Rattle.mysql_portable.specs.Server.{begins_place}
use Rattle.mysql_portable.specs.Client.{HoldNoOpener, holds_opener}
use Rattle.mysql_portable.specs.FirstUnportableInClient.{AreSentAsTheyAreFrom}
use Rattle.mysql_portable.specs.FoundInClient.{begins_comment, begins_comment_dashes, begins_delimiter_line, begins_line, begins_statement, begins_whole_word, begins_word, closes_before_joined, drops_line, ends_word, found_at_byte, found_in_client, found_in_comment, found_in_token, found_word, is_client_word, is_joined, letter_of, stand_before_comment}
use Rattle.mysql_portable.specs.declared.portable.Construct.TheVariants as construct
use Rattle.mysql_portable.specs.ServerTokens.{begins_special}
use Rattle.mysql_portable.proofs.ClientWordLemmas.{client_word_same, is_word_letter}
use Rattle.mysql_binding.proofs.SentTextLemmas.{no_word_found}

-- ---- texts that differ only behind a closing bracket

data Beyond : List ℕ → List ℕ → Type 0 where
  beyond_end : Beyond [] []
  beyond_same : {b : ℕ} {x y : List ℕ} → Beyond x y → Beyond (b ∷ x) (b ∷ y)
  beyond_bracket : {x y : List ℕ} → Beyond (byte ")" ∷ x) (byte ")" ∷ y)

beyond_append : (bytes : List ℕ) {x y : List ℕ} → Beyond x y → Beyond (bytes ++ x) (bytes ++ y)
beyond_append [] u = u
beyond_append (b ∷ bytes) u = beyond_same (beyond_append bytes u)

begins_beyond : (test : ℕ → Bool) {x y : List ℕ} → Beyond x y → begins test x ≡ begins test y
begins_beyond test beyond_end = refl
begins_beyond test (beyond_same u) = refl
begins_beyond test beyond_bracket = refl

place_beyond : {x y : List ℕ} → Beyond x y → begins_place x ≡ begins_place y
place_beyond beyond_end = refl
place_beyond (beyond_same {b = b} u) = ap (λ s. b == question_mark || (b == colon && s)) (begins_beyond is_start_byte u)
place_beyond beyond_bracket = refl

closes_beyond : {x y : List ℕ} → Beyond x y → closes_before_joined x ≡ closes_before_joined y
closes_beyond beyond_end = refl
closes_beyond (beyond_same {b = b} u) = ap (λ s. b == slash && s) (begins_beyond is_joined u)
closes_beyond beyond_bracket = refl

drops_beyond : {x y : List ℕ} → Beyond x y → drops_line x ≡ drops_line y
drops_beyond beyond_end = refl
drops_beyond (beyond_same {b = b} u) = ap (λ s. s || b == dash) (place_beyond (beyond_same {b = b} u))
drops_beyond beyond_bracket = refl

bracket_dashes : (x : List ℕ) → begins_comment_dashes (byte ")" ∷ x) ≡ false
bracket_dashes [] = refl
bracket_dashes (b ∷ []) = refl
bracket_dashes (b ∷ gap ∷ x) = refl

second_bracket : (a : ℕ) (x : List ℕ) → begins_comment_dashes (a ∷ byte ")" ∷ x) ≡ false
second_bracket a [] = and_right (a == dash) false refl
second_bracket a (gap ∷ x) = and_right (a == dash) false refl

third_beyond : (a b : ℕ) {x y : List ℕ} → Beyond x y → begins_comment_dashes (a ∷ b ∷ x) ≡ begins_comment_dashes (a ∷ b ∷ y)
third_beyond a b beyond_end = refl
third_beyond a b (beyond_same u) = refl
third_beyond a b beyond_bracket = refl

second_beyond : (a : ℕ) {x y : List ℕ} → Beyond x y → begins_comment_dashes (a ∷ x) ≡ begins_comment_dashes (a ∷ y)
second_beyond a beyond_end = refl
second_beyond a (beyond_same {b = b} u) = third_beyond a b u
second_beyond a (beyond_bracket {x = x} {y = y}) = second_bracket a x ∙ sym (second_bracket a y)

comment_beyond : {x y : List ℕ} → Beyond x y → begins_comment x ≡ begins_comment y
comment_beyond beyond_end = refl
comment_beyond (beyond_same {b = b} u) =
    let stars = begins_beyond (λ c. c == asterisk) u in
    let dashes = second_beyond b u in
    λ i. b == hash || ((b == slash && stars i) || dashes i)
comment_beyond (beyond_bracket {x = x} {y = y}) = bracket_dashes x ∙ sym (bracket_dashes y)

stand_beyond : {x y : List ℕ} → Beyond x y → stand_before_comment x ≡ stand_before_comment y
stand_beyond beyond_end = refl
stand_beyond (beyond_same {b = b} u) = ap (λ s. b == dash && s) (comment_beyond u)
stand_beyond beyond_bracket = refl

-- ---- words

bracket_letter : (w : ℕ) → is_word_letter w ≡ true → (byte ")" == w) ≡ false
bracket_letter w h = grind (arith, nat_tests)

word_beyond : (word : List ℕ) → list_all is_word_letter word ≡ true → {x y : List ℕ} → Beyond x y → begins_word word x ≡ begins_word word y
word_beyond [] all u = refl
word_beyond (w ∷ ws) all beyond_end = refl
word_beyond (w ∷ ws) all (beyond_same {b = b} u) =
    ap (λ s. letter_of b == w && s) (word_beyond ws (and_parts (is_word_letter w) (list_all is_word_letter ws) all).1 u)
word_beyond (w ∷ ws) all beyond_bracket = rw (bracket_letter w (and_parts (is_word_letter w) (list_all is_word_letter ws) all).0) refl

ends_beyond : {x y : List ℕ} → Beyond x y → ends_word x ≡ ends_word y
ends_beyond beyond_end = refl
ends_beyond (beyond_same u) = refl
ends_beyond beyond_bracket = refl

whole_beyond : (word : List ℕ) → list_all is_word_letter word ≡ true → {x y : List ℕ} → Beyond x y → begins_whole_word word x ≡ begins_whole_word word y
whole_beyond [] all u = ends_beyond u
whole_beyond (w ∷ ws) all beyond_end = refl
whole_beyond (w ∷ ws) all beyond_bracket = rw (bracket_letter w (and_parts (is_word_letter w) (list_all is_word_letter ws) all).0) refl
whole_beyond (w ∷ ws) all (beyond_same {b = b} {x = x} {y = y} u) =
    let p = and_parts (is_word_letter w) (list_all is_word_letter ws) all in
    elim (cases_Bool (letter_of b == w)) [
      | inl e ↦ rw e (whole_beyond ws p.1 u)
      | inr e ↦ rw e refl
    ]

client_beyond : {x y : List ℕ} → Beyond x y → (letter : ℕ) → is_client_word letter x ≡ is_client_word letter y
client_beyond {x = x} {y = y} u = client_word_same x y (λ word all. whole_beyond word all u)

-- ---- tokens before such texts

found_word_beyond : (statement line : Bool) (letter : ℕ) {x y : List ℕ} → Beyond x y → found_word statement line letter x ≡ found_word statement line letter y
found_word_beyond statement line letter u =
    let delimiter = word_beyond (codes "elimiter") refl u in
    let command = client_beyond u letter in
    λ i. if line && (letter == byte "d" && delimiter i) then Some construct.Delimiter else if statement && command i then Some construct.ClientWord else None

byte_beyond : (statement line : Bool) (b : ℕ) {x y : List ℕ} → Beyond x y → found_at_byte statement line b x ≡ found_at_byte statement line b y
byte_beyond statement line b u =
    let null = begins_beyond (λ c. c == byte "N") u in
    let joined = closes_beyond u in
    let front = drops_beyond u in
    let dashes = stand_beyond u in
    let word = found_word_beyond statement line (letter_of b) u in
    λ i. if b == byte "\\" && not (null i) then Some construct.ClientCommand
    else if b == asterisk && joined i then Some construct.JoiningComment
    else if b == dash && (statement && front i) then Some construct.DashInFront
    else if b == dash && dashes i then Some construct.DashesBeforeComment
    else word i

block_beyond : (tail : List ℕ) {x y : List ℕ} → Beyond x y → found_in_comment tail x ≡ found_in_comment tail y
block_beyond tail u =
    let joining = begins_beyond is_joined u in
    λ i. if holds_opener tail then Some construct.OpenerInComment
    else if joining i then Some construct.JoiningComment
    else if begins_special tail && begins_delimiter_line tail then Some construct.Delimiter
    else None

token_beyond : (statement line : Bool) (t : Token) {x y : List ℕ} → Beyond x y → found_in_token statement line t x ≡ found_in_token statement line t y
token_beyond statement line (QuotedString quote tail) u = refl
token_beyond statement line (QuotedIdentifier tail) u = refl
token_beyond statement line (HashComment tail) u = refl
token_beyond statement line (DashComment gap tail) u = refl
token_beyond statement line (BlockComment tail) u = block_beyond tail u
token_beyond statement line (Name name) u = refl
token_beyond statement line Mark u = found_word_beyond statement line question_mark u
token_beyond statement line (Plain b) u = byte_beyond statement line b u

found_beyond : (statement line : Bool) (t : Token) {x y : List ℕ} → Beyond x y → found_in_client statement line t x ≡ found_in_client statement line t y
found_beyond statement line t u =
    ap (λ o. if list_any (λ b. b == 0) (bytes_of t) then Some construct.ZeroByte else o) (token_beyond statement line t u)

-- ---- tokens that are left out

-- the first are the second, without some tokens that are behind a closing bracket and end with one
pub data AreLeft : List Token → List Token → Type 0 where
  left_end : AreLeft [] []
  left_same : {t : Token} {us vs : List Token} → AreLeft us vs → AreLeft (t ∷ us) (t ∷ vs)
  left_out : {us vs : List Token} (ms : List Token) → AreLeft us vs →
      AreLeft (Plain (byte ")") ∷ us) (Plain (byte ")") ∷ (ms ++ Plain (byte ")") ∷ vs))

left_texts : {us vs : List Token} → AreLeft us vs → Beyond (text_of us) (text_of vs)
left_texts left_end = beyond_end
left_texts (left_same {t = t} h) = beyond_append (bytes_of t) (left_texts h)
left_texts (left_out ms h) = beyond_bracket

found_bracket : (statement line : Bool) (rest : List ℕ) → found_in_client statement line (Plain (byte ")")) rest ≡ None
found_bracket statement line rest = no_word_found statement line (byte ")") rest refl

sent_behind : (ms vs : List Token) (statement line : Bool) → AreSentAsTheyAreFrom statement line (ms ++ Plain (byte ")") ∷ vs) → AreSentAsTheyAreFrom false false vs
sent_behind [] vs statement line h = h.1
sent_behind (t ∷ ms) vs statement line h = sent_behind ms vs (begins_statement statement t) (begins_line line t) h.1

pub left_sent : {us vs : List Token} → AreLeft us vs → (statement line : Bool) → AreSentAsTheyAreFrom statement line vs → AreSentAsTheyAreFrom statement line us
left_sent left_end statement line h = tt
left_sent (left_same {t = t} k) statement line h =
    (found_beyond statement line t (left_texts k) ∙ h.0, left_sent k (begins_statement statement t) (begins_line line t) h.1)
left_sent (left_out {us = us} {vs = vs} ms k) statement line h =
    (found_bracket statement line (text_of us), left_sent k false false (sent_behind ms vs false false h.1))

opener_behind : (ms vs : List Token) → HoldNoOpener (ms ++ vs) → HoldNoOpener vs
opener_behind [] vs h = h
opener_behind (BlockComment tail ∷ ms) vs h = opener_behind ms vs h.1
opener_behind (t ∷ ms) vs h = opener_behind ms vs h

pub left_opener : {us vs : List Token} → AreLeft us vs → HoldNoOpener vs → HoldNoOpener us
left_opener left_end h = tt
left_opener (left_same {t = BlockComment tail} k) h = (h.0, left_opener k h.1)
left_opener (left_same {t = t} k) h = left_opener k h
left_opener (left_out {us = us} {vs = vs} ms k) h = left_opener k (opener_behind ms (Plain (byte ")") ∷ vs) h)
