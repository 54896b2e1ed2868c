-- A client that sends a query as it is also sends a text of it as it is. The places have to stand
-- alone, and the lists in the places have to be sent as they are (`IsSentAt`). Then no construct of
-- FoundInClient.antt comes from texts that come together.
use Rattle.std.specs.Prelude.{Bool, ⊤, nat_le, nat_lt}
use Rattle.std.proofs.Common.{◌≡◌, ◌++◌, ◌==◌, ◌&&◌, ◌||◌, not, ℕ, true, false, List, [], ◌∷◌, if◌then◌else◌, codes, Option, None, Some, arith, inl, inr, refl, ap, ◌∙◌, sym, subst, true≢false}
use Rattle.std.specs.Char.{is_ascii_digit, to_ascii_lowercase}
use Rattle.std.specs.List.{list_all, list_any}
use Rattle.std.specs.Str.{byte}
use Rattle.std.proofs.lemmas.Bool.{and_parts, cases_Bool, eqb-true, false_from_ne_true, or_cases, or_from, or_parts}
use Rattle.std.proofs.lemmas.Bool.Decides.{nat_tests}
use Rattle.mysql_named_params.specs.Places.{place_count}
use Rattle.mysql_named_params.specs.Bytes.{asterisk, backquote, colon, dash, hash, newline, question_mark, single_quote, slash, underscore, is_start_byte, is_white_space, begins}
use Rattle.mysql_named_params.specs.Tokens.{Token, AreTokensBefore, text_of, text_then, bytes_of, QuotedString, QuotedIdentifier, HashComment, DashComment, BlockComment, Name, Mark, Plain}
use Rattle.mysql_named_params.proofs.TokenRowLemmas.{text_then-append}
use Rattle.mysql_portable.specs.Server.{begins_place}
use Rattle.mysql_portable.specs.Client.{holds_opener}
use Rattle.mysql_portable.specs.FoundInClient.{begins_statement, begins_line, letter_of, begins_word, ends_word, begins_whole_word, is_client_word, is_joined, closes_before_joined, drops_line, begins_comment_dashes, begins_comment, stand_before_comment, found_in_comment, found_word, found_at_byte, found_in_token, found_in_client}
use Rattle.mysql_portable.specs.FirstUnportableInClient.{AreSentAsTheyAreFrom, AreSentExceptMarksFrom}
use Rattle.mysql_portable.specs.declared.portable.Construct.{Construct}
use Rattle.mysql_portable.proofs.ClientWordLemmas.{client_word_same, is_word_letter}
use Rattle.mysql_binding.specs.Replaced.{with_literal_tokens}
use Rattle.mysql_binding.specs.StandsAlone.{may_stand_before}
use Rattle.mysql_binding.proofs.LiteralTokenLemmas.{is_alphanumeric, other}
use Rattle.mysql_binding.proofs.SpliceLemmas.{AtPlaces, name_begins}
use Rattle.mysql_binding.proofs.UpToSpliceLemmas.{last_byte}

-- ---- the front of a text in a place

unfoldable pub is_sent_first : ℕ → Bool
is_sent_first b = is_alphanumeric b || (b == underscore || (b == single_quote || (b == backquote || (b == byte "(" || b == question_mark))))

-- a digit, a letter, `_`, `'`, a backquote, `(`, `?`, or a dash and a digit
abbrev pub begins_as_sent : List ℕ → Bool
begins_as_sent [] = false
begins_as_sent (b ∷ bs) = is_sent_first b || (b == dash && begins is_ascii_digit bs)

-- the first byte of such a text passes no test that none of these passes
pub sent_first_test : (test : ℕ → Bool) → ((c : ℕ) → is_sent_first c ≡ true → test c ≡ false) → test dash ≡ false →
    (y : List ℕ) → begins_as_sent y ≡ true → begins test y ≡ false
sent_first_test test all d [] h = absurd (true≢false (sym h))
sent_first_test test all d (c ∷ cs) h =
    elim (or_cases (is_sent_first c) (c == dash && begins is_ascii_digit cs) h) [
      | inl f ↦ all c f
      | inr m ↦ ap test (eqb-true c dash (and_parts (c == dash) (begins is_ascii_digit cs) m).0) ∙ d
    ]

sent_first_slash : (c : ℕ) → is_sent_first c ≡ true → (c == slash) ≡ false
unfolding is_sent_first
sent_first_slash c h = other is_sent_first c slash h refl

sent_first_asterisk : (c : ℕ) → is_sent_first c ≡ true → (c == asterisk) ≡ false
unfolding is_sent_first
sent_first_asterisk c h = other is_sent_first c asterisk h refl

sent_first_hash : (c : ℕ) → is_sent_first c ≡ true → (c == hash) ≡ false
unfolding is_sent_first
sent_first_hash c h = other is_sent_first c hash h refl

sent_first_dash : (c : ℕ) → is_sent_first c ≡ true → (c == dash) ≡ false
unfolding is_sent_first
sent_first_dash c h = other is_sent_first c dash h refl

sent_first_joined : (c : ℕ) → is_sent_first c ≡ true → is_joined c ≡ false
unfolding is_sent_first
sent_first_joined c h = grind (arith, nat_tests)

sent_first_space : (c : ℕ) → is_sent_first c ≡ true → is_white_space c ≡ false
unfolding is_sent_first
sent_first_space c h = grind (arith, nat_tests)

digit_space : (d : ℕ) → is_ascii_digit d ≡ true → is_white_space d ≡ false
digit_space d h = grind (arith, nat_tests)

-- ---- a text, and the same up to a place, which stands alone, or with a newline and more at its end

pub data UpTo : ℕ → List ℕ → List ℕ → Type 0 where
  up_end : {before : ℕ} → UpTo before [] []
  up_same : {before b : ℕ} {x y : List ℕ} → UpTo b x y → UpTo before (b ∷ x) (b ∷ y)
  up_place : {before b : ℕ} {x y : List ℕ} → may_stand_before before ≡ true → begins_place (b ∷ x) ≡ true →
      begins_as_sent y ≡ true → UpTo before (b ∷ x) y
  up_line : {before : ℕ} (more : List ℕ) → UpTo before [] (newline ∷ more)

pub up_to_line : (before : ℕ) (x more : List ℕ) → UpTo before x (x ++ newline ∷ more)
up_to_line before [] more = up_line more
up_to_line before (b ∷ x) more = up_same (up_to_line b x more)

up_append : (before : ℕ) (bytes : List ℕ) {x y : List ℕ} → UpTo (last_byte before bytes) x y →
    UpTo before (bytes ++ x) (bytes ++ y)
up_append before [] u = u
up_append before (b ∷ bytes) u = up_same (up_append b bytes u)

-- ---- tests of the text that follows

and_none : (a : Bool) → (a && false) ≡ false
and_none true = refl
and_none false = refl

and_true : (a : Bool) → (a && true) ≡ a
and_true true = refl
and_true false = refl

-- a conjunction whose second part stays false
and_moves : (a b c : Bool) → (b ≡ false → c ≡ false) → (a && b) ≡ false → (a && c) ≡ false
and_moves true b c f h = f h
and_moves false b c f h = refl

begins_moves : (test : ℕ → Bool) → ((c : ℕ) → is_sent_first c ≡ true → test c ≡ false) → test dash ≡ false → test newline ≡ false →
    {before : ℕ} {x y : List ℕ} → UpTo before x y → begins test x ≡ false → begins test y ≡ false
begins_moves test all d n up_end h = h
begins_moves test all d n (up_same u) h = h
begins_moves test all d n (up_place {y = y} s p c) h = sent_first_test test all d y c
begins_moves test all d n (up_line more) h = n

joined_moves : {before : ℕ} {x y : List ℕ} → UpTo before x y → begins is_joined x ≡ false → begins is_joined y ≡ false
joined_moves u h = begins_moves is_joined sent_first_joined refl refl u h

-- ---- dashes

no_dash_first : (c : ℕ) (cs : List ℕ) → (c == dash) ≡ false → begins_comment_dashes (c ∷ cs) ≡ false
no_dash_first c [] e = refl
no_dash_first c (d ∷ []) e = rw e refl
no_dash_first c (d ∷ g ∷ gs) e = rw e refl

no_dash_second : (c d : ℕ) (ds : List ℕ) → (d == dash) ≡ false → begins_comment_dashes (c ∷ d ∷ ds) ≡ false
no_dash_second c d [] e = rw e (and_none (c == dash))
no_dash_second c d (g ∷ gs) e = rw e (and_none (c == dash))

digit_no_comment : (ds : List ℕ) → begins is_ascii_digit ds ≡ true → begins_comment ds ≡ false
digit_no_comment [] h = refl
digit_no_comment (d ∷ ds) h =
    or_from (d == hash) _ (other is_ascii_digit d hash h refl)
    (or_from (d == slash && begins (λ c. c == asterisk) ds) _ (rw (other is_ascii_digit d slash h refl) refl)
    (no_dash_first d ds (other is_ascii_digit d dash h refl)))

dashes_before_digit : (c : ℕ) (ds : List ℕ) → begins is_ascii_digit ds ≡ true → begins_comment_dashes (c ∷ ds) ≡ false
dashes_before_digit c [] h = refl
dashes_before_digit c (d ∷ ds) h = no_dash_second c d ds (other is_ascii_digit d dash h refl)

abbrev is_dash : ℕ → Bool
is_dash c = c == dash

sent_no_comment : (y : List ℕ) → begins_as_sent y ≡ true → begins_comment y ≡ false
sent_no_comment [] h = refl
sent_no_comment (c ∷ cs) h =
    elim (or_cases (is_sent_first c) (c == dash && begins is_ascii_digit cs) h) [
      | inl f ↦
          or_from (c == hash) _ (sent_first_hash c f)
          (or_from (c == slash && begins (λ c. c == asterisk) cs) _ (rw (sent_first_slash c f) refl)
          (no_dash_first c cs (sent_first_dash c f)))
      | inr m ↦
          let p = and_parts (c == dash) (begins is_ascii_digit cs) m in
          or_from (c == hash) _ (other is_dash c hash p.0 refl)
          (or_from (c == slash && begins (λ c. c == asterisk) cs) _ (rw (other is_dash c slash p.0 refl) refl)
          (dashes_before_digit c cs p.1))
    ]

dashes_front : (a : ℕ) (y : List ℕ) → begins_as_sent y ≡ true → begins_comment_dashes (a ∷ y) ≡ false
dashes_front a [] h = refl
dashes_front a (c ∷ cs) h =
    elim (or_cases (is_sent_first c) (c == dash && begins is_ascii_digit cs) h) [
      | inl f ↦ no_dash_second a c cs (sent_first_dash c f)
      | inr m ↦ digit_gap cs (and_parts (c == dash) (begins is_ascii_digit cs) m).1
    ]
  where
    digit_gap : (ds : List ℕ) → begins is_ascii_digit ds ≡ true → begins_comment_dashes (a ∷ c ∷ ds) ≡ false
    digit_gap [] n = absurd (true≢false (sym n))
    digit_gap (d ∷ ds) n = rw (digit_space d n, and_none (c == dash)) (and_none (a == dash))

gap_front : (a b : ℕ) (y : List ℕ) → begins_as_sent y ≡ true → begins_comment_dashes (a ∷ b ∷ y) ≡ false
gap_front a b [] h = absurd (true≢false (sym h))
gap_front a b (g ∷ gs) h =
    rw (sent_first_test is_white_space sent_first_space refl (g ∷ gs) h, and_none (b == dash)) (and_none (a == dash))

gap_moves : (a b : ℕ) {x y : List ℕ} → UpTo b x y → begins_comment_dashes (a ∷ b ∷ x) ≡ false → begins_comment_dashes (a ∷ b ∷ y) ≡ false
gap_moves a b up_end h = h
gap_moves a b (up_same u) h = h
gap_moves a b (up_place {y = y} s p c) h = gap_front a b y c
gap_moves a b (up_line more) h = rw (and_true (b == dash)) h

dashes_move : (a : ℕ) {x y : List ℕ} → UpTo a x y → begins_comment_dashes (a ∷ x) ≡ false → begins_comment_dashes (a ∷ y) ≡ false
dashes_move a up_end h = h
dashes_move a (up_same {b = b} u) h = gap_moves a b u h
dashes_move a (up_place {y = y} s p c) h = dashes_front a y c
dashes_move a (up_line more) h = no_dash_second a newline more refl

comment_moves : {before : ℕ} {x y : List ℕ} → UpTo before x y → begins_comment x ≡ false → begins_comment y ≡ false
comment_moves up_end h = h
comment_moves (up_place {y = y} s p c) h = sent_no_comment y c
comment_moves (up_line more) h = no_dash_first newline more refl
comment_moves (up_same {b = b} {x = x} {y = y} u) h =
    let p = or_parts (b == hash) ((b == slash && begins (λ c. c == asterisk) x) || begins_comment_dashes (b ∷ x)) h in
    let q = or_parts (b == slash && begins (λ c. c == asterisk) x) (begins_comment_dashes (b ∷ x)) p.1 in
    or_from (b == hash) _ p.0
    (or_from (b == slash && begins (λ c. c == asterisk) y) _
    (and_moves (b == slash) _ _ (begins_moves (λ c. c == asterisk) sent_first_asterisk refl refl u) q.0)
    (dashes_move b u q.1))

stand_moves : {before : ℕ} {x y : List ℕ} → UpTo before x y → stand_before_comment x ≡ false → stand_before_comment y ≡ false
stand_moves up_end h = h
stand_moves (up_same {b = b} u) h = and_moves (b == dash) _ _ (comment_moves u) h
stand_moves (up_line more) h = refl
stand_moves (up_place {y = y} s p c) h = stand_front y c
  where
    stand_front : (y : List ℕ) → begins_as_sent y ≡ true → stand_before_comment y ≡ false
    stand_front [] h = refl
    stand_front (c ∷ cs) h =
        elim (or_cases (is_sent_first c) (c == dash && begins is_ascii_digit cs) h) [
          | inl f ↦ rw (sent_first_dash c f) refl
          | inr m ↦ rw (digit_no_comment cs (and_parts (c == dash) (begins is_ascii_digit cs) m).1) (and_none (c == dash))
        ]

colon_moves : (b : ℕ) {x y : List ℕ} → UpTo b x y → (b == colon && begins is_start_byte x) ≡ false →
    (b == colon && begins is_start_byte y) ≡ false
colon_moves b up_end h = h
colon_moves b (up_same u) h = h
colon_moves b (up_place s p c) h = rw (other may_stand_before b colon s refl) refl
colon_moves b (up_line more) h = and_none (b == colon)

drops_moves : {before : ℕ} {x y : List ℕ} → UpTo before x y → drops_line x ≡ false → drops_line y ≡ false
drops_moves up_end h = h
drops_moves (up_line more) h = refl
drops_moves (up_place {b = b} {x = x} s p c) h = absurd (true≢false (sym p ∙ (or_parts (begins_place (b ∷ x)) (b == dash) h).0))
drops_moves (up_same {b = b} {x = x} {y = y} u) h =
    let p = or_parts (begins_place (b ∷ x)) (b == dash) h in
    let q = or_parts (b == question_mark) (b == colon && begins is_start_byte x) p.0 in
    or_from (begins_place (b ∷ y)) (b == dash) (or_from (b == question_mark) _ q.0 (colon_moves b u q.1)) p.1

closes_moves : {before : ℕ} {x y : List ℕ} → UpTo before x y → closes_before_joined x ≡ false → closes_before_joined y ≡ false
closes_moves up_end h = h
closes_moves (up_same {b = b} u) h = and_moves (b == slash) _ _ (joined_moves u) h
closes_moves (up_line more) h = refl
closes_moves (up_place {y = y} s p c) h = closes_front y c
  where
    closes_front : (y : List ℕ) → begins_as_sent y ≡ true → closes_before_joined y ≡ false
    closes_front [] h = refl
    closes_front (c ∷ cs) h = rw (sent_first_test (λ b. b == slash) sent_first_slash refl (c ∷ cs) h) refl

null_moves : (b : ℕ) {x y : List ℕ} → UpTo b x y → (b == byte "\\" && not (begins (λ c. c == byte "N") x)) ≡ false →
    (b == byte "\\" && not (begins (λ c. c == byte "N") y)) ≡ false
null_moves b up_end h = h
null_moves b (up_same u) h = h
null_moves b (up_place s p c) h = rw (other may_stand_before b (byte "\\") s refl) refl
null_moves b (up_line more) h = h

-- ---- words

-- a byte that may be before a place is no letter to a client
stands_below : (c : ℕ) → may_stand_before c ≡ true → nat_lt c 192 ≡ true
stands_below c h = grind (arith, nat_tests)

stands_no_capital : (c : ℕ) → may_stand_before c ≡ true → to_ascii_lowercase c ≡ c
stands_no_capital c h = grind (arith, nat_tests)

stands_no_letter : (c : ℕ) → may_stand_before c ≡ true → is_word_letter c ≡ false
stands_no_letter c h = grind (arith, nat_tests)

stands_no_word : (c : ℕ) → may_stand_before c ≡ true → is_word_letter (letter_of c) ≡ false
stands_no_word c h = rw (stands_below c h, stands_no_capital c h) (stands_no_letter c h)

letter_stands : (c : ℕ) → is_word_letter (letter_of c) ≡ true → may_stand_before c ≡ false
letter_stands c h = false_from_ne_true _ (λ s. true≢false (sym h ∙ stands_no_word c s))

word_stands : (c w : ℕ) → (letter_of c == w) ≡ true → is_word_letter w ≡ true → may_stand_before c ≡ false
word_stands c w e h = letter_stands c (ap is_word_letter (eqb-true (letter_of c) w e) ∙ h)

stands_twice : (before : ℕ) → may_stand_before before ≡ false → may_stand_before before ≡ true → ⊥
stands_twice before f s = true≢false (sym s ∙ f)

ends_same : {before : ℕ} {x y : List ℕ} → may_stand_before before ≡ false → UpTo before x y → ends_word x ≡ ends_word y
ends_same f up_end = refl
ends_same f (up_same u) = refl
ends_same f (up_place {before = k} s p c) = absurd (stands_twice k f s)
ends_same f (up_line more) = refl

newline_letter : (w : ℕ) → is_word_letter w ≡ true → (newline == w) ≡ false
newline_letter w h = grind (arith, nat_tests)

word_same : (word : List ℕ) → list_all is_word_letter word ≡ true → {before : ℕ} {x y : List ℕ} → may_stand_before before ≡ false →
    UpTo before x y → begins_word word x ≡ begins_word word y
word_same [] all f u = refl
word_same (w ∷ ws) all f up_end = refl
word_same (w ∷ ws) all f (up_place {before = k} s p c) = absurd (stands_twice k f s)
word_same (w ∷ ws) all f (up_line more) =
    rw (newline_letter w (and_parts (is_word_letter w) (list_all is_word_letter ws) all).0) refl
word_same (w ∷ ws) all f (up_same {b = b} u) =
    let p = and_parts (is_word_letter w) (list_all is_word_letter ws) all in
    elim (cases_Bool (letter_of b == w)) [
      | inl e ↦ ap (λ z. (letter_of b == w) && z) (word_same ws p.1 (word_stands b w e p.0) u)
      | inr e ↦ rw e refl
    ]

whole_same : (word : List ℕ) → list_all is_word_letter word ≡ true → {before : ℕ} {x y : List ℕ} → may_stand_before before ≡ false →
    UpTo before x y → begins_whole_word word x ≡ begins_whole_word word y
whole_same [] all f u = ends_same f u
whole_same (w ∷ ws) all f up_end = refl
whole_same (w ∷ ws) all f (up_place {before = k} s p c) = absurd (stands_twice k f s)
whole_same (w ∷ ws) all f (up_line more) =
    rw (newline_letter w (and_parts (is_word_letter w) (list_all is_word_letter ws) all).0) refl
whole_same (w ∷ ws) all f (up_same {b = b} {x = x} {y = y} u) =
    let p = and_parts (is_word_letter w) (list_all is_word_letter ws) all in
    elim (cases_Bool (letter_of b == w)) [
      | inl e ↦ rw e (whole_same ws p.1 (word_stands b w e p.0) u)
      | inr e ↦ rw e refl
    ]

client_same : {before : ℕ} {x y : List ℕ} → may_stand_before before ≡ false → UpTo before x y → (letter : ℕ) →
    is_client_word letter x ≡ is_client_word letter y
client_same {x = x} {y = y} f u = client_word_same x y (λ word all. whole_same word all f u)

-- no word begins with another byte
no_letter : (letter k : ℕ) → is_word_letter letter ≡ false → is_word_letter k ≡ true → (letter == k) ≡ false
no_letter letter k f t = false_from_ne_true _ (λ e. true≢false (sym t ∙ (ap is_word_letter (sym (eqb-true letter k e)) ∙ f)))

pub no_client_word : (letter : ℕ) (rest : List ℕ) → is_word_letter letter ≡ false → is_client_word letter rest ≡ false
unfolding is_client_word
no_client_word letter rest f =
    rw (no_letter letter (byte "c") f refl, no_letter letter (byte "e") f refl, no_letter letter (byte "g") f refl, no_letter letter (byte "h") f refl, no_letter letter (byte "n") f refl, no_letter letter (byte "p") f refl, no_letter letter (byte "q") f refl, no_letter letter (byte "r") f refl, no_letter letter (byte "s") f refl, no_letter letter (byte "t") f refl, no_letter letter (byte "u") f refl, no_letter letter (byte "w") f refl, no_letter letter question_mark f refl) refl

pub no_word_found : (statement line : Bool) (letter : ℕ) (rest : List ℕ) → is_word_letter letter ≡ false →
    found_word statement line letter rest ≡ None
no_word_found statement line letter rest f =
    rw (no_letter letter (byte "d") f refl, no_client_word letter rest f, and_none line, and_none statement) refl

-- ---- the constructs that are found before such a text

pub none_parts : (c : Bool) (k : Construct) (r : Option Construct) → (if c then Some k else r) ≡ None → (c ≡ false) × (r ≡ None)
none_parts true k r e = cc
none_parts false k r e = (refl, e)

pub none_from : (c : Bool) (k : Construct) (r : Option Construct) → c ≡ false → r ≡ None → (if c then Some k else r) ≡ None
none_from true k r f e = absurd (true≢false f)
none_from false k r f e = e

word_moves : (statement line : Bool) (b : ℕ) {x y : List ℕ} → UpTo b x y → found_word statement line (letter_of b) x ≡ None →
    found_word statement line (letter_of b) y ≡ None
word_moves statement line b {x = x} {y = y} u h =
    elim (cases_Bool (is_word_letter (letter_of b))) [
      | inr f ↦ no_word_found statement line (letter_of b) y f
      | inl t ↦
          let f = letter_stands b t in
          let p = none_parts (line && (letter_of b == byte "d" && begins_word (codes "elimiter") x)) _ _ h in
          let q = none_parts (statement && is_client_word (letter_of b) x) _ _ p.1 in
          none_from (line && (letter_of b == byte "d" && begins_word (codes "elimiter") y)) _ _
          (ap (λ z. line && (letter_of b == byte "d" && z)) (sym (word_same (codes "elimiter") refl f u)) ∙ p.0)
          (none_from (statement && is_client_word (letter_of b) y) _ _
          (ap (λ z. statement && z) (sym (client_same f u (letter_of b))) ∙ q.0) refl)
    ]

byte_moves : (statement line : Bool) (b : ℕ) {x y : List ℕ} → UpTo b x y → found_at_byte statement line b x ≡ None →
    found_at_byte statement line b y ≡ None
byte_moves statement line b {x = x} {y = y} u h =
    let p1 = none_parts (b == byte "\\" && not (begins (λ c. c == byte "N") x)) _ _ h in
    let p2 = none_parts (b == asterisk && closes_before_joined x) _ _ p1.1 in
    let p3 = none_parts (b == dash && (statement && drops_line x)) _ _ p2.1 in
    let p4 = none_parts (b == dash && stand_before_comment x) _ _ p3.1 in
    none_from (b == byte "\\" && not (begins (λ c. c == byte "N") y)) _ _ (null_moves b u p1.0)
    (none_from (b == asterisk && closes_before_joined y) _ _ (and_moves (b == asterisk) _ _ (closes_moves u) p2.0)
    (none_from (b == dash && (statement && drops_line y)) _ _ (and_moves (b == dash) _ _ (and_moves statement _ _ (drops_moves u)) p3.0)
    (none_from (b == dash && stand_before_comment y) _ _ (and_moves (b == dash) _ _ (stand_moves u) p4.0)
    (word_moves statement line b u p4.1))))

block_moves : {before : ℕ} (tail : List ℕ) {x y : List ℕ} → UpTo before x y → found_in_comment tail x ≡ None → found_in_comment tail y ≡ None
block_moves tail {x = x} {y = y} u h =
    let p1 = none_parts (holds_opener tail) _ _ h in
    let p2 = none_parts (begins is_joined x) _ _ p1.1 in
    none_from (holds_opener tail) _ _ p1.0 (none_from (begins is_joined y) _ _ (joined_moves u p2.0) p2.1)

token_found_moves : (statement line : Bool) (before : ℕ) (t : Token) {x y : List ℕ} → UpTo (last_byte before (bytes_of t)) x y →
    found_in_token statement line t x ≡ None → found_in_token statement line t y ≡ None
token_found_moves statement line before (QuotedString quote tail) u h = h
token_found_moves statement line before (QuotedIdentifier tail) u h = h
token_found_moves statement line before (HashComment tail) u h = h
token_found_moves statement line before (DashComment gap tail) u h = h
token_found_moves statement line before (BlockComment tail) u h = block_moves tail u h
token_found_moves statement line before (Name name) u h = h
token_found_moves statement line before Mark u h = word_moves statement line question_mark u h
token_found_moves statement line before (Plain b) u h = byte_moves statement line b u h

pub found_moves : (statement line : Bool) (before : ℕ) (t : Token) {x y : List ℕ} → UpTo (last_byte before (bytes_of t)) x y →
    found_in_client statement line t x ≡ None → found_in_client statement line t y ≡ None
found_moves statement line before t u h =
    let p = none_parts (list_any (λ b. b == 0) (bytes_of t)) _ _ h in
    none_from (list_any (λ b. b == 0) (bytes_of t)) _ _ p.0 (token_found_moves statement line before t u p.1)

-- ---- lists in the places

-- nothing is found in the tokens of a list before this text, if a statement or a line may begin there
abbrev pub AreSentBefore : List ℕ → Bool → Bool → List Token → Type 0
AreSentBefore rest statement line [] = ⊤
AreSentBefore rest statement line (t ∷ ts) =
    (found_in_client statement line t (text_then rest ts) ≡ None)
    × AreSentBefore rest (begins_statement statement t) (begins_line line t) ts

-- the same, except at marks
abbrev pub AreSentExceptMarksBefore : List ℕ → Bool → Bool → List Token → Type 0
AreSentExceptMarksBefore rest statement line [] = ⊤
AreSentExceptMarksBefore rest statement line (Mark ∷ ts) = AreSentExceptMarksBefore rest false false ts
AreSentExceptMarksBefore rest statement line (t ∷ ts) =
    (found_in_client statement line t (text_then rest ts) ≡ None)
    × AreSentExceptMarksBefore rest (begins_statement statement t) (begins_line line t) ts

pub except_marks : (ts : List Token) (statement line : Bool) → AreSentAsTheyAreFrom statement line ts → AreSentExceptMarksFrom statement line ts
except_marks [] statement line h = tt
except_marks (Mark ∷ ts) statement line h = except_marks ts false false h.1
except_marks (t ∷ ts) statement line h = (h.0, except_marks ts (begins_statement statement t) (begins_line line t) h.1)

-- tokens without places have no marks
pub without_marks : (ts : List Token) (statement line : Bool) → place_count ts ≡ 0 → AreSentExceptMarksFrom statement line ts → AreSentAsTheyAreFrom statement line ts
without_marks [] statement line e h = tt
without_marks (Name name ∷ ts) statement line e h = absurd (omega arith)
without_marks (Mark ∷ ts) statement line e h = absurd (omega arith)
without_marks (t ∷ ts) statement line e h = (h.0, without_marks ts (begins_statement statement t) (begins_line line t) e h.1)

-- whether a statement and a line may begin after the tokens
abbrev pub statement_after : Bool → List Token → Bool
statement_after statement [] = statement
statement_after statement (t ∷ ts) = statement_after (begins_statement statement t) ts

abbrev pub line_after : Bool → List Token → Bool
line_after line [] = line
line_after line (t ∷ ts) = line_after (begins_line line t) ts

-- the facts about the list in a place, the byte before it, and the text after it
pub record IsSentAt (before : ℕ) (list : List Token) (rest : List ℕ) : Type 0 where
  pub stands : may_stand_before before ≡ true
  pub front : begins_as_sent (text_then rest list) ≡ true
  pub sent : (statement line : Bool) → AreSentExceptMarksBefore rest statement line list
  pub no_statement : (statement : Bool) → statement_after statement list ≡ false
  pub no_line : (line : Bool) → line_after line list ≡ false

sent_append : (xs ys : List Token) (statement line : Bool) → AreSentExceptMarksBefore (text_of ys) statement line xs →
    AreSentExceptMarksFrom (statement_after statement xs) (line_after line xs) ys → AreSentExceptMarksFrom statement line (xs ++ ys)
sent_append [] ys statement line h k = k
sent_append (Mark ∷ xs) ys statement line h k = sent_append xs ys false false h k
sent_append (x ∷ xs) ys statement line h k =
    (subst (λ z. found_in_client statement line x z ≡ None) (sym (text_then-append xs ys [])) h.0, sent_append xs ys (begins_statement statement x) (begins_line line x) h.1 k)

list_front : (before : ℕ) (list ts : List Token) → IsSentAt before list (text_of ts) → begins_as_sent (text_of (list ++ ts)) ≡ true
list_front before list ts s = rw (text_then-append list ts []) s.front

up_to_place : (mode : Bool) (before : ℕ) (ts : List Token) (lists : List (List Token)) → AreTokensBefore mode [] ts →
    AtPlaces IsSentAt before ts lists → UpTo before (text_of ts) (text_of (with_literal_tokens ts lists))
up_to_place mode before [] [] h s = up_end
up_to_place mode before [] (list ∷ lists) h s = absurd s
up_to_place mode before (Name name ∷ ts) [] h s = absurd s
up_to_place mode before (Name name ∷ ts) (list ∷ lists) h s =
    up_place s.0.stands (name_begins name (text_of ts) h.0.0) (list_front before list (with_literal_tokens ts lists) s.0)
up_to_place mode before (Mark ∷ ts) [] h s = absurd s
up_to_place mode before (Mark ∷ ts) (list ∷ lists) h s =
    up_place s.0.stands refl (list_front before list (with_literal_tokens ts lists) s.0)
up_to_place mode before (t ∷ ts) lists h s =
    up_append before (bytes_of t) (up_to_place mode (last_byte before (bytes_of t)) ts lists h.1 s)

place_sent : (before : ℕ) (list ts : List Token) (statement line : Bool) → IsSentAt before list (text_of ts) →
    AreSentExceptMarksFrom false false ts → AreSentExceptMarksFrom statement line (list ++ ts)
place_sent before list ts statement line s h =
    sent_append list ts statement line (s.sent statement line)
    (subst (λ a. AreSentExceptMarksFrom a (line_after line list) ts) (sym (s.no_statement statement))
    (subst (λ a. AreSentExceptMarksFrom false a ts) (sym (s.no_line line)) h))

-- the text is sent as it is, if the query is, both except at marks
pub spliced_sent : (mode : Bool) (before : ℕ) (ts : List Token) (lists : List (List Token)) (statement line : Bool) →
    AreTokensBefore mode [] ts → AtPlaces IsSentAt before ts lists → AreSentExceptMarksFrom statement line ts →
    AreSentExceptMarksFrom statement line (with_literal_tokens ts lists)
spliced_sent mode before [] lists statement line h s k = tt
spliced_sent mode before (Name name ∷ ts) [] statement line h s k = absurd s
spliced_sent mode before (Name name ∷ ts) (list ∷ lists) statement line h s k =
    place_sent before list (with_literal_tokens ts lists) statement line s.0 (spliced_sent mode (last_byte colon name) ts lists false false h.1 s.1 k.1)
spliced_sent mode before (Mark ∷ ts) [] statement line h s k = absurd s
spliced_sent mode before (Mark ∷ ts) (list ∷ lists) statement line h s k =
    place_sent before list (with_literal_tokens ts lists) statement line s.0 (spliced_sent mode question_mark ts lists false false h.1 s.1 k)
spliced_sent mode before (t ∷ ts) lists statement line h s k = (
  found_moves statement line before t (up_to_place mode (last_byte before (bytes_of t)) ts lists h.1 s) k.0,
  spliced_sent mode (last_byte before (bytes_of t)) ts lists (begins_statement statement t) (begins_line line t) h.1 s k.1,
)
