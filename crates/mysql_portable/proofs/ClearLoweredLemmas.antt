-- A clear query stays clear with its wide names in lower case, on servers and in a client.
use Rattle.std.specs.Prelude.{codes, nat_le, not, ⊤, ◌⊎◌}
use Rattle.std.specs.Char.{to_ascii_lowercase}
use Rattle.std.proofs.Common.{◌≡◌, ◌==◌, ◌&&◌, ◌||◌, ◌∙◌, ℕ, Bool, true, false, List, [], ◌∷◌, ◌++◌, drop, length, map, ◌≤◌, None, suc, zero, inl, inr, refl, sym, ap, subst, arith, true≢false}
use Rattle.std.specs.Str.{byte}
use Rattle.std.proofs.lemmas.Bool.{and_parts, and_from, or_parts, not-true}
use Rattle.std.proofs.lemmas.Bool.Decides.{nat_tests}
use Rattle.mysql_named_params.specs.Bytes.{asterisk, bracket, carriage_return, colon, dash, dollar, exclamation_mark, hash, newline, question_mark, slash, space, begins, is_extension, is_white_space}
use Rattle.mysql_named_params.specs.LoweredNames.{lower_names}
use Rattle.mysql_named_params.specs.Reading.{OnWideTokens}
use Rattle.mysql_named_params.specs.Tokens.{Token, IsTokens, Name, bytes_of, text_of}
use Rattle.mysql_named_params.specs.WideNames.{is_capital, is_wide_start, widened}
use Rattle.mysql_named_params.proofs.LoweredLemmas.{lowered_tokens}
use Rattle.mysql_named_params.proofs.ReadingLemmas.{reading_exists}
use Rattle.mysql_named_params.proofs.TokenListLemmas.{one_token_list}
use Rattle.mysql_named_params.proofs.WideLemmas.{text_of-widened}
use Rattle.mysql_portable.specs.Clear.{begins_client_line, begins_opener_after, begins_special_block, is_clear, is_clear_after, is_clear_in_client, is_in_doubt, is_in_doubt_for, is_in_doubt_in_client, may_begin_tag, may_take_dashes, may_take_place}
use Rattle.mysql_portable.specs.FirstUnportable.{first_unportable}
use Rattle.mysql_portable.specs.FirstUnportableInClient.{IsPortableInClient}
use Rattle.mysql_portable.specs.FoundInClient.{begins_comment, begins_comment_dashes, begins_whole_word, begins_word, ends_word, letter_of, stand_before_comment}
use Rattle.mysql_portable.specs.Portable.{may_open_line, IsPortable}
use Rattle.mysql_portable.proofs.ClearInClientLemmas.{clear_in_client, clear_in_client_is_portable}
use Rattle.mysql_portable.proofs.ClearLemmas.{clear_has_none, clear_is_portable}
use Rattle.mysql_portable.proofs.ClientWordLemmas.{client_word_same}
use Rattle.mysql_portable.specs.ServerTokens.{begins_special, keeps_dashes}
use Rattle.mysql_portable.specs.SteadyBytes.{is_steady}

-- ---- texts of which some capitals are in lower case

-- the byte, or the capital in lower case
abbrev pub IsLower : ℕ → ℕ → Type 0
IsLower x y = (y ≡ x) ⊎ ((is_capital x ≡ true) × (y ≡ to_ascii_lowercase x))

-- the text with some capitals in lower case
abbrev pub AreLower : List ℕ → List ℕ → Type 0
AreLower [] [] = ⊤
AreLower [] (y ∷ ys) = ⊥
AreLower (x ∷ xs) [] = ⊥
AreLower (x ∷ xs) (y ∷ ys) = IsLower x y × AreLower xs ys

all_same : (xs : List ℕ) → AreLower xs xs
all_same [] = tt
all_same (x ∷ xs) = (inl refl, all_same xs)

append_lower : (xs ys us vs : List ℕ) → AreLower xs ys → AreLower us vs → AreLower (xs ++ us) (ys ++ vs)
append_lower [] [] us vs l m = m
append_lower [] (y ∷ ys) us vs l m = absurd l
append_lower (x ∷ xs) [] us vs l m = absurd l
append_lower (x ∷ xs) (y ∷ ys) us vs l m = (l.0, append_lower xs ys us vs l.1 m)

no_capital : (b : ℕ) → is_capital b ≡ false → to_ascii_lowercase b ≡ b
no_capital b h = grind (arith, nat_tests)

lower_byte : (b : ℕ) (c : Bool) → is_capital b ≡ c → IsLower b (to_ascii_lowercase b)
lower_byte b true e = inr (e, refl)
lower_byte b false e = inl (no_capital b e)

lower_name : (name : List ℕ) → AreLower name (map to_ascii_lowercase name)
lower_name [] = tt
lower_name (b ∷ bs) = (lower_byte b (is_capital b) refl, lower_name bs)

pub lower_text : (ts : List Token) → AreLower (text_of ts) (text_of (lower_names ts))
lower_text [] = tt
lower_text (Name name ∷ ts) = (inl refl, append_lower name (map to_ascii_lowercase name) _ _ (lower_name name) (lower_text ts))
lower_text (t ∷ ts) = append_lower (bytes_of t) (bytes_of t) _ _ (all_same (bytes_of t)) (lower_text ts)

-- ---- tests that no case changes

module _ (test : ℕ → Bool) (same : (c : ℕ) → is_capital c ≡ true → test (to_ascii_lowercase c) ≡ test c) where
  of_byte : (x y : ℕ) → IsLower x y → test y ≡ test x
  of_byte x y (inl e) = ap test e
  of_byte x y (inr h) = ap test h.1 ∙ same x h.0

  of_front : (xs ys : List ℕ) → AreLower xs ys → begins test ys ≡ begins test xs
  of_front [] [] l = refl
  of_front [] (y ∷ ys) l = absurd l
  of_front (x ∷ xs) [] l = absurd l
  of_front (x ∷ xs) (y ∷ ys) l = of_byte x y l.0

newline_same : (c : ℕ) → is_capital c ≡ true → (to_ascii_lowercase c == newline) ≡ (c == newline)
newline_same c h = grind (arith, nat_tests)

dash_same : (c : ℕ) → is_capital c ≡ true → (to_ascii_lowercase c == dash) ≡ (c == dash)
dash_same c h = grind (arith, nat_tests)

asterisk_same : (c : ℕ) → is_capital c ≡ true → (to_ascii_lowercase c == asterisk) ≡ (c == asterisk)
asterisk_same c h = grind (arith, nat_tests)

exclamation_mark_same : (c : ℕ) → is_capital c ≡ true → (to_ascii_lowercase c == exclamation_mark) ≡ (c == exclamation_mark)
exclamation_mark_same c h = grind (arith, nat_tests)

tag_same : (c : ℕ) → is_capital c ≡ true → may_begin_tag (to_ascii_lowercase c) ≡ may_begin_tag c
tag_same c h = grind (arith, nat_tests)

gap_same : (c : ℕ) → is_capital c ≡ true →
    not (to_ascii_lowercase c == space || (to_ascii_lowercase c == newline || keeps_dashes (to_ascii_lowercase c)))
    ≡ not (c == space || (c == newline || keeps_dashes c))
gap_same c h = grind (arith, nat_tests)

dashes_same : (c : ℕ) → is_capital c ≡ true → may_take_dashes (to_ascii_lowercase c) ≡ may_take_dashes c
dashes_same c h = grind (arith, nat_tests)

place_same : (c : ℕ) → is_capital c ≡ true → may_take_place (to_ascii_lowercase c) ≡ may_take_place c
place_same c h = grind (arith, nat_tests)

start_same : (c : ℕ) → is_capital c ≡ true → is_wide_start (to_ascii_lowercase c) ≡ is_wide_start c
start_same c h = grind (arith, nat_tests)

line_same : (xs ys : List ℕ) → AreLower xs ys → may_open_line ys ≡ may_open_line xs
line_same [] [] l = refl
line_same [] (y ∷ ys) l = absurd l
line_same (x ∷ xs) [] l = absurd l
line_same (x ∷ []) (y ∷ []) l = refl
line_same (x ∷ []) (y ∷ z ∷ ys) l = absurd l.1
line_same (x ∷ w ∷ xs) (y ∷ []) l = absurd l.1
line_same (x ∷ w ∷ xs) (y ∷ z ∷ ys) l =
    rw (of_byte (λ c. c == dash) dash_same x y l.0, of_byte (λ c. not (c == space || (c == newline || keeps_dashes c))) gap_same w z l.1.0) refl

-- a comment's `M!` is one only as it is
no_special : (x y : ℕ) (xs ys : List ℕ) → IsLower x y → AreLower xs ys → begins_special (x ∷ xs) ≡ false → begins_special (y ∷ ys) ≡ false
no_special x y xs ys (inl e) l h =
    subst (λ b. begins_special (b ∷ ys) ≡ false) (sym e)
    (subst (λ b. (is_extension x || (x == byte "M" && b)) ≡ false) (sym (of_front (λ c. c == exclamation_mark) exclamation_mark_same xs ys l)) h)
no_special x y xs ys (inr c) l h = grind (arith, nat_tests)

both_no_block : (a b s t : Bool) → b ≡ a → (s ≡ false → t ≡ false) → (a && s) ≡ false → (b && t) ≡ false
both_no_block true b s t e f h = rw (e, f h) refl
both_no_block false b s t e f h = rw e refl

no_block : (xs ys : List ℕ) → AreLower xs ys → begins_special_block xs ≡ false → begins_special_block ys ≡ false
no_block [] [] l h = refl
no_block [] (y ∷ ys) l h = absurd l
no_block (x ∷ xs) [] l h = absurd l
no_block (x ∷ []) (y ∷ []) l h = both_no_block (x == asterisk) (y == asterisk) false false (of_byte (λ c. c == asterisk) asterisk_same x y l.0) (λ e. refl) h
no_block (x ∷ []) (y ∷ z ∷ ys) l h = absurd l.1
no_block (x ∷ w ∷ xs) (y ∷ []) l h = absurd l.1
no_block (x ∷ w ∷ xs) (y ∷ z ∷ ys) l h =
    both_no_block (x == asterisk) (y == asterisk) _ _ (of_byte (λ c. c == asterisk) asterisk_same x y l.0) (λ e. no_special w z xs ys l.1.0 l.1.1 e) h

-- ---- doubts

block_apart : (p r k d l b b' z : Bool) → (b ≡ false → b' ≡ false) →
    (p || (r || (k || (d || ((l && b) || z))))) ≡ false → (p || (r || (k || (d || ((l && b') || z))))) ≡ false
block_apart true r k d l b b' z f h = h
block_apart false true k d l b b' z f h = h
block_apart false false true d l b b' z f h = h
block_apart false false false true l b b' z f h = h
block_apart false false false false true true b' z f h = absurd (true≢false h)
block_apart false false false false true false b' z f h = rw (f refl) h
block_apart false false false false false b b' z f h = h

letter_apart : (s r r' k d d' l l' h h' t q c c' : Bool) → s ≡ true → r ≡ false → k ≡ false → d ≡ false → l ≡ false → h ≡ false →
    q ≡ false → c ≡ false →
    (not s || ((r && r') || (k || ((d && d') || ((l && l') || ((h && h') || (t && (q || (c && c'))))))))) ≡ false
letter_apart s r r' k d d' l l' h h' true q c c' ps pr pk pd pl ph pq pc = rw (ps, pr, pk, pd, pl, ph, pq, pc) refl
letter_apart s r r' k d d' l l' h h' false q c c' ps pr pk pd pl ph pq pc = rw (ps, pr, pk, pd, pl, ph) refl

lower_steady : (b : ℕ) → is_capital b ≡ true → is_steady (to_ascii_lowercase b) ≡ true
lower_steady b h = grind (arith, nat_tests)

lower_is_no : (b c : ℕ) → is_capital b ≡ true → (c ≤ 96) → (to_ascii_lowercase b == c) ≡ false
lower_is_no b c h le = grind (arith, nat_tests)

-- a letter is never in doubt
lower_no_doubt : (before x : ℕ) (rest : List ℕ) → is_capital x ≡ true → is_in_doubt before (to_ascii_lowercase x) rest ≡ false
lower_no_doubt before x rest h =
    let no : (c : ℕ) → (c ≤ 96) → (to_ascii_lowercase x == c) ≡ false = (λ c le. lower_is_no x c h le) in
    letter_apart _ (to_ascii_lowercase x == carriage_return) _ (to_ascii_lowercase x == bracket) (to_ascii_lowercase x == dollar) _ (to_ascii_lowercase x == slash) _ (to_ascii_lowercase x == dash) _ (may_take_place before) (to_ascii_lowercase x == question_mark) (to_ascii_lowercase x == colon) _
    (lower_steady x h) (no carriage_return (omega arith)) (no bracket (omega arith)) (no dollar (omega arith)) (no slash (omega arith)) (no dash (omega arith))
    (no question_mark (omega arith)) (no colon (omega arith))

same_no_doubt : (before before' x : ℕ) (xs ys : List ℕ) → IsLower before before' → AreLower xs ys →
    is_in_doubt before x xs ≡ false → is_in_doubt before' x ys ≡ false
same_no_doubt before before' x xs ys b l h =
    rw (
      of_front (λ c. c == newline) newline_same xs ys l,
      of_front may_begin_tag tag_same xs ys l,
      line_same xs ys l,
      of_byte may_take_dashes dashes_same before before' b,
      of_front (λ c. c == dash) dash_same xs ys l,
      of_byte may_take_place place_same before before' b,
      of_front is_wide_start start_same xs ys l,
    ) (block_apart (not (is_steady x)) _ (x == bracket) _ (x == slash) (begins_special_block xs) (begins_special_block ys) _ (no_block xs ys l) h)

no_doubt_lower : (before before' x y : ℕ) (xs ys : List ℕ) → IsLower before before' → IsLower x y → AreLower xs ys →
    is_in_doubt before x xs ≡ false → is_in_doubt before' y ys ≡ false
no_doubt_lower before before' x y xs ys b (inl e) l h =
    subst (λ c. is_in_doubt before' c ys ≡ false) (sym e) (same_no_doubt before before' x xs ys b l h)
no_doubt_lower before before' x y xs ys b (inr c) l h =
    subst (λ d. is_in_doubt before' d ys ≡ false) (sym c.1) (lower_no_doubt before' x ys c.0)

-- ---- doubts in a client

drop_lower : (n : ℕ) (xs ys : List ℕ) → AreLower xs ys → AreLower (drop n xs) (drop n ys)
drop_lower zero xs ys l = l
drop_lower (suc n) [] [] l = tt
drop_lower (suc n) [] (y ∷ ys) l = absurd l
drop_lower (suc n) (x ∷ xs) [] l = absurd l
drop_lower (suc n) (x ∷ xs) (y ∷ ys) l = drop_lower n xs ys l.1

capital_letter : (c : ℕ) → is_capital c ≡ true → letter_of (to_ascii_lowercase c) ≡ letter_of c
capital_letter c h = grind (arith, nat_tests)

letter_lower : (x y : ℕ) → IsLower x y → letter_of y ≡ letter_of x
letter_lower x y (inl e) = ap letter_of e
letter_lower x y (inr h) = ap letter_of h.1 ∙ capital_letter x h.0

pub word_lower : (word xs ys : List ℕ) → AreLower xs ys → begins_word word ys ≡ begins_word word xs
word_lower [] xs ys l = refl
word_lower (w ∷ ws) [] [] l = refl
word_lower (w ∷ ws) [] (y ∷ ys) l = absurd l
word_lower (w ∷ ws) (x ∷ xs) [] l = absurd l
word_lower (w ∷ ws) (x ∷ xs) (y ∷ ys) l = rw (letter_lower x y l.0, word_lower ws xs ys l.1) refl

end_same : (c : ℕ) → is_capital c ≡ true → (nat_le (to_ascii_lowercase c) space || to_ascii_lowercase c == byte ";") ≡ (nat_le c space || c == byte ";")
end_same c h = grind (arith, nat_tests)

end_lower : (xs ys : List ℕ) → AreLower xs ys → ends_word ys ≡ ends_word xs
end_lower [] [] l = refl
end_lower [] (y ∷ ys) l = absurd l
end_lower (x ∷ xs) [] l = absurd l
end_lower (x ∷ xs) (y ∷ ys) l = of_byte (λ b. nat_le b space || b == byte ";") end_same x y l.0

pub whole_lower : (word xs ys : List ℕ) → AreLower xs ys → begins_whole_word word ys ≡ begins_whole_word word xs
whole_lower word xs ys l =
    rw (word_lower word xs ys l, end_lower (drop (length word) xs) (drop (length word) ys) (drop_lower (length word) xs ys l)) refl

white_same : (c : ℕ) → is_capital c ≡ true → nat_le (to_ascii_lowercase c) space ≡ nat_le c space
white_same c h = grind (arith, nat_tests)

line_front_same : (c : ℕ) → is_capital c ≡ true →
    (to_ascii_lowercase c == hash || (to_ascii_lowercase c == dash || to_ascii_lowercase c == slash)) ≡ (c == hash || (c == dash || c == slash))
line_front_same c h = grind (arith, nat_tests)

client_line_lower : (xs ys : List ℕ) → AreLower xs ys → begins_client_line ys ≡ begins_client_line xs
client_line_lower [] [] l = refl
client_line_lower [] (y ∷ ys) l = absurd l
client_line_lower (x ∷ xs) [] l = absurd l
client_line_lower (x ∷ xs) (y ∷ ys) l =
    rw (
      of_byte (λ b. nat_le b space) white_same x y l.0,
      client_line_lower xs ys l.1,
      of_byte (λ b. b == hash || (b == dash || b == slash)) line_front_same x y l.0,
      letter_lower x y l.0,
      client_word_same ys xs (λ word all. whole_lower word xs ys l.1) (letter_of x),
    ) refl

zero_same : (c : ℕ) → is_capital c ≡ true → (to_ascii_lowercase c == 0) ≡ (c == 0)
zero_same c h = grind (arith, nat_tests)

semicolon_same : (c : ℕ) → is_capital c ≡ true → (to_ascii_lowercase c == byte ";") ≡ (c == byte ";")
semicolon_same c h = grind (arith, nat_tests)

slash_same : (c : ℕ) → is_capital c ≡ true → (to_ascii_lowercase c == slash) ≡ (c == slash)
slash_same c h = grind (arith, nat_tests)

hash_same : (c : ℕ) → is_capital c ≡ true → (to_ascii_lowercase c == hash) ≡ (c == hash)
hash_same c h = grind (arith, nat_tests)

gap_white_same : (c : ℕ) → is_capital c ≡ true → is_white_space (to_ascii_lowercase c) ≡ is_white_space c
gap_white_same c h = grind (arith, nat_tests)

opener_same : (c : ℕ) → is_capital c ≡ true → (is_extension (to_ascii_lowercase c) || to_ascii_lowercase c == slash) ≡ (is_extension c || c == slash)
opener_same c h = grind (arith, nat_tests)

delimiter_same : (c : ℕ) → is_capital c ≡ true →
    (to_ascii_lowercase c == byte "d" || to_ascii_lowercase c == byte "D") ≡ (c == byte "d" || c == byte "D")
delimiter_same c h = grind (arith, nat_tests)

comment_dashes_lower : (xs ys : List ℕ) → AreLower xs ys → begins_comment_dashes ys ≡ begins_comment_dashes xs
comment_dashes_lower [] [] l = refl
comment_dashes_lower [] (y ∷ ys) l = absurd l
comment_dashes_lower (x ∷ xs) [] l = absurd l
comment_dashes_lower (x ∷ []) (y ∷ []) l = refl
comment_dashes_lower (x ∷ []) (y ∷ z ∷ ys) l = absurd l.1
comment_dashes_lower (x ∷ w ∷ xs) (y ∷ []) l = absurd l.1
comment_dashes_lower (x ∷ w ∷ []) (y ∷ z ∷ []) l =
    rw (of_byte (λ b. b == dash) dash_same x y l.0, of_byte (λ b. b == dash) dash_same w z l.1.0) refl
comment_dashes_lower (x ∷ w ∷ []) (y ∷ z ∷ v ∷ ys) l = absurd l.1.1
comment_dashes_lower (x ∷ w ∷ u ∷ xs) (y ∷ z ∷ []) l = absurd l.1.1
comment_dashes_lower (x ∷ w ∷ u ∷ xs) (y ∷ z ∷ v ∷ ys) l =
    rw (of_byte (λ b. b == dash) dash_same x y l.0, of_byte (λ b. b == dash) dash_same w z l.1.0, of_byte is_white_space gap_white_same u v l.1.1.0) refl

comment_lower : (xs ys : List ℕ) → AreLower xs ys → begins_comment ys ≡ begins_comment xs
comment_lower [] [] l = refl
comment_lower [] (y ∷ ys) l = absurd l
comment_lower (x ∷ xs) [] l = absurd l
comment_lower (x ∷ xs) (y ∷ ys) l =
    rw (
      of_byte (λ b. b == hash) hash_same x y l.0,
      of_byte (λ b. b == slash) slash_same x y l.0,
      of_front (λ b. b == asterisk) asterisk_same xs ys l.1,
      comment_dashes_lower (x ∷ xs) (y ∷ ys) l,
    ) refl

pub before_comment_lower : (xs ys : List ℕ) → AreLower xs ys → stand_before_comment ys ≡ stand_before_comment xs
before_comment_lower [] [] l = refl
before_comment_lower [] (y ∷ ys) l = absurd l
before_comment_lower (x ∷ xs) [] l = absurd l
before_comment_lower (x ∷ xs) (y ∷ ys) l = rw (of_byte (λ b. b == dash) dash_same x y l.0, comment_lower xs ys l.1) refl

opener_lower : (xs ys : List ℕ) → AreLower xs ys → begins_opener_after ys ≡ begins_opener_after xs
opener_lower [] [] l = refl
opener_lower [] (y ∷ ys) l = absurd l
opener_lower (x ∷ xs) [] l = absurd l
opener_lower (x ∷ []) (y ∷ []) l = refl
opener_lower (x ∷ []) (y ∷ z ∷ ys) l = absurd l.1
opener_lower (x ∷ w ∷ xs) (y ∷ []) l = absurd l.1
opener_lower (x ∷ w ∷ xs) (y ∷ z ∷ ys) l =
    rw (of_byte (λ b. b == asterisk) asterisk_same x y l.0, of_byte (λ b. is_extension b || b == slash) opener_same w z l.1.0) refl

doubt_in_client_lower : (x y : ℕ) (xs ys : List ℕ) → IsLower x y → AreLower xs ys →
    is_in_doubt_in_client y ys ≡ is_in_doubt_in_client x xs
doubt_in_client_lower x y xs ys b l =
    rw (
      of_byte (λ c. c == 0) zero_same x y b,
      of_byte (λ c. c == byte ";") semicolon_same x y b,
      client_line_lower xs ys l,
      of_byte (λ c. c == dash) dash_same x y b,
      before_comment_lower xs ys l,
      of_byte (λ c. c == slash) slash_same x y b,
      opener_lower xs ys l,
      of_byte (λ c. c == byte "d" || c == byte "D") delimiter_same x y b,
      word_lower (codes "elimiter") xs ys l,
    ) refl

-- ---- clear texts

clear_lower : (client : Bool) (before before' : ℕ) (xs ys : List ℕ) → IsLower before before' → AreLower xs ys →
    is_clear_after client before xs ≡ true → is_clear_after client before' ys ≡ true
clear_lower client before before' [] [] b l h = refl
clear_lower client before before' [] (y ∷ ys) b l h = absurd l
clear_lower client before before' (x ∷ xs) [] b l h = absurd l
clear_lower client before before' (x ∷ xs) (y ∷ ys) b l h =
    let p = and_parts (not (is_in_doubt_for client before x xs)) (is_clear_after client x xs) h in
    let q = or_parts (is_in_doubt before x xs) (client && is_in_doubt_in_client x xs) (not-true _ p.0) in
    let none : is_in_doubt before' y ys ≡ false = no_doubt_lower before before' x y xs ys b l.0 l.1 q.0 in
    let sent : (client && is_in_doubt_in_client y ys) ≡ false = ap (λ z. client && z) (doubt_in_client_lower x y xs ys l.0 l.1) ∙ q.1 in
    and_from (not (is_in_doubt_for client before' y ys)) (is_clear_after client y ys) (rw (none, sent) refl) (clear_lower client x y xs ys l.0 l.1 p.1)

-- ---- queries

-- the tokens of a query with its wide names in lower case, for which this text stays clear
module _ (client mode : Bool) (query : List ℕ) (c : is_clear_after client space query ≡ true) where
  own : OnWideTokens mode query (λ ts. ⊤)
  own =
      let t = reading_exists (record { no_backslash_escape = mode; wide_names = true }) query in
      (t.0, t.1, tt)

  low : List Token
  low = lower_names (widened own.1.0)

  low_tokens : IsTokens mode (text_of low) low
  unfolding low own
  low_tokens = lowered_tokens mode query own.1.0 own.1.1

  from_low : AreLower query (text_of low)
  unfolding low own
  from_low = subst (λ x. AreLower x (text_of low)) (text_of-widened own.1.0 ∙ own.1.1.text) (lower_text (widened own.1.0))

  low_clear : is_clear_after client space (text_of low) ≡ true
  low_clear = clear_lower client space space query (text_of low) (inl refl) from_low c

  on_low : (P : List Token → Type 0) → P low → OnWideTokens mode query (λ ts. P (lower_names ts))
  unfolding own low
  on_low P p = (own.0, own.1, subst (λ (us : List Token). P (lower_names us)) (sym own.1.2) p)

-- a clear query is portable with its wide names in lower case
pub clear_wide_is_portable : (mode : Bool) (query : List ℕ) → is_clear query ≡ true →
    OnWideTokens mode query (λ ts. IsPortable (lower_names ts) × (first_unportable (lower_names ts) ≡ None))
clear_wide_is_portable mode query c =
    let us = low false mode query c in
    let is = low_tokens false mode query c in
    let clear = low_clear false mode query c in
    on_low false mode query c (λ ts. IsPortable ts × (first_unportable ts ≡ None))
    (clear_is_portable false mode (text_of us) us is clear, clear_has_none false mode (text_of us) us is clear)

-- the same in a client
pub clear_wide_is_portable_in_client : (mode : Bool) (query : List ℕ) → is_clear_in_client query ≡ true →
    OnWideTokens mode query (λ ts. IsPortableInClient (lower_names ts))
clear_wide_is_portable_in_client mode query h =
    let c = clear_in_client query h in
    let us = low true mode query c.1 in
    let front : begins_client_line (text_of us) ≡ false = client_line_lower query (text_of us) (from_low true mode query c.1) ∙ c.0 in
    let clear : is_clear_in_client (text_of us) ≡ true = rw (front, low_clear true mode query c.1) refl in
    let o = clear_in_client_is_portable mode (text_of us) clear in
    on_low true mode query c.1 IsPortableInClient
    (subst IsPortableInClient (one_token_list mode (text_of us) o.0 us o.1 (low_tokens true mode query c.1)) o.2)
