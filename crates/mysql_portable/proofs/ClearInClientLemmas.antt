-- A query that is clear in a client is portable there: it has no construct of a client.
use Rattle.std.specs.Prelude.{Bool, cond, not, codes, nat_le}
use Rattle.std.proofs.Common.{◌≡◌, ◌==◌, ◌&&◌, ◌||◌, ℕ, true, false, List, [], ◌∷◌, ◌++◌, Some, None, refl, sym, ap, ◌∙◌, subst, arith, append-nil, true≢false}
use Rattle.std.specs.List.{list_all, list_any}
use Rattle.std.specs.Str.{byte}
use Rattle.std.proofs.lemmas.Bool.Decides.{nat_tests}
use Rattle.std.proofs.lemmas.Bool.{and_parts, or_parts, not-true}
use Rattle.mysql_named_params.specs.Bytes.{asterisk, backquote, dash, hash, newline, question_mark, slash, space, begins}
use Rattle.mysql_named_params.specs.Tokens.{Token, bytes_of, text_of, OnTokens, QuotedString, QuotedIdentifier, HashComment, DashComment, BlockComment, Name, Mark, Plain}
use Rattle.mysql_named_params.proofs.TokensExistLemmas.{tokens_exist}
use Rattle.mysql_portable.specs.Clear.{begins_client_line, begins_opener_after, is_in_doubt, is_in_doubt_for, is_in_doubt_in_client, is_clear_after, is_clear_in_client}
use Rattle.mysql_portable.specs.Client.{begins_opener, begins_end, holds_opener, HoldNoOpener}
use Rattle.mysql_portable.specs.FirstUnportableInClient.{AreSentAsTheyAreFrom, IsPortableInClient}
use Rattle.mysql_portable.specs.FoundInClient.{begins_statement, begins_line, begins_delimiter_line, begins_no_word, begins_word, closes_before_joined, drops_line, escapes_newline, found_at_byte, found_in_client, found_in_comment, found_in_quotes, found_in_token, is_client_word, is_joined, letter_of, stand_before_comment}
use Rattle.mysql_portable.specs.Server.{begins_special}
use Rattle.mysql_portable.specs.Steady.{is_steady}
use Rattle.mysql_portable.specs.declared.portable.Construct.TheVariants as construct
use Rattle.mysql_portable.proofs.ClearLemmas.{and_false, NoDoubt, clear_step, clear_rest, clear_is_portable, clear_query_is_steady}
use Rattle.mysql_portable.proofs.PortableLemmas.{second_false, false_if}

-- ---- a byte that isn't in doubt in a client

record NoDoubtInClient (b : ℕ) (rest : List ℕ) : Type 0 where
  pub no_zero : (b == 0) ≡ false
  pub no_line : (b == byte ";" && begins_client_line rest) ≡ false
  pub no_dashes : (b == dash && stand_before_comment rest) ≡ false
  pub no_opener : (b == slash && begins_opener_after rest) ≡ false
  pub no_delimiter : ((b == byte "d" || b == byte "D") && begins_word (codes "elimiter") rest) ≡ false

no_doubt_in_client : (b : ℕ) (rest : List ℕ) → is_in_doubt_in_client b rest ≡ false → NoDoubtInClient b rest
no_doubt_in_client b rest h =
    let p0 = or_parts (b == 0) _ h in
    let p1 = or_parts (b == byte ";" && begins_client_line rest) _ p0.1 in
    let p2 = or_parts (b == dash && stand_before_comment rest) _ p1.1 in
    let p3 = or_parts (b == slash && begins_opener_after rest) _ p2.1 in
    record { no_zero = p0.0; no_line = p1.0; no_dashes = p2.0; no_opener = p3.0; no_delimiter = p3.1 }

step : (before b : ℕ) (bs : List ℕ) → is_clear_after true before (b ∷ bs) ≡ true →
    NoDoubt before b bs × NoDoubtInClient b bs × (is_clear_after true b bs ≡ true)
step before b bs h =
    let s = clear_step true before b bs h in
    let p = and_parts (not (is_in_doubt_for true before b bs)) (is_clear_after true b bs) h in
    let q = or_parts (is_in_doubt before b bs) (is_in_doubt_in_client b bs) (not-true _ p.0) in
    (s.0, no_doubt_in_client b bs q.1, s.1)

-- ---- steady bytes

below : (b : ℕ) → is_steady b ≡ true → nat_le 128 b ≡ false
below b h = grind (arith, nat_tests)

no_backslash : (b : ℕ) → is_steady b ≡ true → (b == byte "\\") ≡ false
no_backslash b h = not-true _ (and_parts _ _ h).1

not_joined : (b : ℕ) → is_steady b ≡ true → is_joined b ≡ false
not_joined b h = rw (below b h, no_backslash b h) refl

-- a steady byte is taken for the letter `d` only if it is that
letter_d : (b : ℕ) → is_steady b ≡ true → (b == byte "d" || b == byte "D") ≡ false → (letter_of b == byte "d") ≡ false
letter_d b s h = grind (arith, nat_tests)

-- ---- texts within a clear text

no_zero_in : (xs ys : List ℕ) (before : ℕ) → is_clear_after true before (xs ++ ys) ≡ true → list_any (λ b. b == 0) xs ≡ false
no_zero_in [] ys before h = refl
no_zero_in (x ∷ xs) ys before h =
    let s = step before x (xs ++ ys) h in
    rw s.1.no_zero (no_zero_in xs ys x s.2)

no_newline_escaped : (xs ys : List ℕ) (before : ℕ) → is_clear_after true before (xs ++ ys) ≡ true → escapes_newline xs ≡ false
no_newline_escaped [] ys before h = refl
no_newline_escaped (x ∷ xs) ys before h =
    let s = step before x (xs ++ ys) h in
    rw (no_backslash x s.0.steady) (no_newline_escaped xs ys x s.2)

word_further : (word xs ys : List ℕ) → begins_word word xs ≡ true → begins_word word (xs ++ ys) ≡ true
word_further [] xs ys h = refl
word_further (w ∷ ws) [] ys h = absurd (true≢false (sym h))
word_further (w ∷ ws) (x ∷ xs) ys h =
    let p = and_parts (letter_of x == w) (begins_word ws xs) h in
    rw p.0 (word_further ws xs ys p.1)

no_delimiter : (before : ℕ) (xs ys : List ℕ) → is_clear_after true before (xs ++ ys) ≡ true → begins_word (codes "delimiter") xs ≡ false
no_delimiter before [] ys h = refl
no_delimiter before (x ∷ xs) ys h =
    let s = step before x (xs ++ ys) h in
    false_if (letter_of x == byte "d") (begins_word (codes "elimiter") xs) (λ is.
    word_or_not (begins_word (codes "elimiter") xs) refl (λ word.
    let d : (x == byte "d" || x == byte "D") ≡ true = d_of (x == byte "d" || x == byte "D") refl is s.0.steady in
    true≢false (sym (word_further (codes "elimiter") xs ys word) ∙ second_false _ _ s.1.no_delimiter d)))
  where
    word_or_not : (w : Bool) → begins_word (codes "elimiter") xs ≡ w → (begins_word (codes "elimiter") xs ≡ true → ⊥) → begins_word (codes "elimiter") xs ≡ false
    word_or_not true e never = absurd (never e)
    word_or_not false e never = e

    d_of : (d : Bool) → (x == byte "d" || x == byte "D") ≡ d → (letter_of x == byte "d") ≡ true → is_steady x ≡ true → (x == byte "d" || x == byte "D") ≡ true
    d_of true e is s = e
    d_of false e is s = absurd (true≢false (sym is ∙ letter_d x s e))

no_delimiter_line : (xs ys : List ℕ) (before : ℕ) → is_clear_after true before (xs ++ ys) ≡ true → begins_delimiter_line xs ≡ false
no_delimiter_line [] ys before h = refl
no_delimiter_line (x ∷ xs) ys before h =
    let s = step before x (xs ++ ys) h in
    rw (no_delimiter x xs ys s.2, no_delimiter_line xs ys x s.2, and_false (x == newline)) refl

opener_further : (x : ℕ) (xs ys : List ℕ) → (x == slash && begins_opener_after (xs ++ ys)) ≡ false → begins_opener (x ∷ xs) ≡ false
opener_further x [] ys h = refl
opener_further x (a ∷ []) ys h = refl
opener_further x (a ∷ b ∷ xs) ys h = h

no_opener_in : (xs ys : List ℕ) (before : ℕ) → is_clear_after true before (xs ++ ys) ≡ true → holds_opener xs ≡ false
no_opener_in [] ys before h = refl
no_opener_in (x ∷ xs) ys before h =
    let s = step before x (xs ++ ys) h in
    rw (opener_further x xs ys s.1.no_opener, no_opener_in xs ys x s.2) (and_false (not (begins_end (x ∷ xs))))

not_joined_front : (ys : List ℕ) (before : ℕ) → is_clear_after true before ys ≡ true → begins is_joined ys ≡ false
not_joined_front [] before h = refl
not_joined_front (y ∷ ys) before h = not_joined y ((step before y ys h).0.steady)

-- ---- the construct that is found in a token

in_quotes : (tail rest : List ℕ) (before : ℕ) → is_clear_after true before (tail ++ rest) ≡ true → found_in_quotes tail ≡ None
in_quotes tail rest before h =
    rw (no_newline_escaped tail rest before h, no_delimiter_line tail rest before h) refl

in_comment : (tail rest : List ℕ) (before : ℕ) → is_clear_after true before (tail ++ rest) ≡ true → found_in_comment tail rest ≡ None
in_comment tail rest before h =
    let more = clear_rest true tail rest before h in
    rw (no_opener_in tail rest before h, not_joined_front rest more.0 more.1, no_delimiter_line tail rest before h, and_false (begins_special tail)) refl

no_joined_end : (rest : List ℕ) (before : ℕ) → is_clear_after true before rest ≡ true → closes_before_joined rest ≡ false
no_joined_end [] before h = refl
no_joined_end (c ∷ cs) before h =
    false_if (c == slash) (begins is_joined cs) (λ e. not_joined_front cs c ((step before c cs h).2))

-- no word begins with white space
letter_of_white : (b : ℕ) → nat_le b space ≡ true → nat_le (letter_of b) space ≡ true
letter_of_white b h = grind (arith, nat_tests)

other : (letter k : ℕ) → nat_le letter space ≡ true → nat_le k space ≡ false → (letter == k) ≡ false
other letter k h above = grind (arith, nat_tests)

white_is_no_word : (letter : ℕ) (rest : List ℕ) → nat_le letter space ≡ true → is_client_word letter rest ≡ false
unfolding is_client_word
white_is_no_word letter rest h =
    rw (other letter (byte "c") h refl, other letter (byte "e") h refl, other letter (byte "g") h refl, other letter (byte "h") h refl, other letter (byte "n") h refl, other letter (byte "p") h refl, other letter (byte "q") h refl, other letter (byte "r") h refl, other letter (byte "s") h refl, other letter (byte "t") h refl, other letter (byte "u") h refl, other letter (byte "w") h refl, other letter question_mark h refl) refl

-- at the front of a statement
record NoLine (b : ℕ) (rest : List ℕ) : Type 0 where
  pub white : nat_le b space ≡ true → begins_client_line rest ≡ false
  pub no_dash : (b == dash) ≡ false
  pub no_word : is_client_word (letter_of b) rest ≡ false

no_line : (b : ℕ) (rest : List ℕ) → begins_client_line (b ∷ rest) ≡ false → NoLine b rest
no_line b rest = go (nat_le b space) refl
  where
    go : (w : Bool) → nat_le b space ≡ w →
        cond w (begins_client_line rest) ((b == hash || (b == dash || b == slash)) || is_client_word (letter_of b) rest) ≡ false → NoLine b rest
    go true e h = record {
      white = λ w. h;
      no_dash = grind (arith, nat_tests);
      no_word = white_is_no_word (letter_of b) rest (letter_of_white b e);
    }
    go false e h =
        let p = or_parts (b == hash || (b == dash || b == slash)) (is_client_word (letter_of b) rest) h in
        let q = or_parts (b == hash) (b == dash || b == slash) p.0 in
        record {
          white = λ w. absurd (true≢false (sym w ∙ e));
          no_dash = (or_parts (b == dash) (b == slash) q.1).0;
          no_word = p.1;
        }

both_false : (s x : Bool) → (s ≡ true → x ≡ false) → (s && x) ≡ false
both_false true x f = f refl
both_false false x f = refl

no_delimiter_here : (before b : ℕ) (rest : List ℕ) → is_clear_after true before (b ∷ rest) ≡ true →
    (letter_of b == byte "d" && begins_word (codes "elimiter") rest) ≡ false
no_delimiter_here before b rest h =
    (no_delimiter before (b ∷ rest) [] (subst (λ x. is_clear_after true before (b ∷ x) ≡ true) (sym (append-nil rest)) h))

at_byte : (before b : ℕ) (rest : List ℕ) (s l : Bool) → is_clear_after true before (b ∷ rest) ≡ true →
    (s ≡ true → begins_client_line (b ∷ rest) ≡ false) → found_at_byte s l b rest ≡ None
at_byte before b rest s l h front =
    let n = step before b rest h in
    let backslash = no_backslash b n.0.steady in
    let joined : (b == asterisk && closes_before_joined rest) ≡ false = false_if (b == asterisk) _ (λ e. no_joined_end rest b n.2) in
    let dash_front : (b == dash && (s && drops_line rest)) ≡ false =
    false_if (b == dash) _ (λ e. both_false s (drops_line rest) (λ is. absurd (true≢false (sym e ∙ (no_line b rest (front is)).no_dash)))) in
    let word : (s && is_client_word (letter_of b) rest) ≡ false = both_false s _ (λ is. (no_line b rest (front is)).no_word) in
    let line : (l && (letter_of b == byte "d" && begins_word (codes "elimiter") rest)) ≡ false = both_false l _ (λ is. no_delimiter_here before b rest h) in
    rw (backslash, joined, dash_front, n.1.no_dashes, line, word) refl

in_token : (t : Token) (rest : List ℕ) (before : ℕ) (s l : Bool) → is_clear_after true before (bytes_of t ++ rest) ≡ true →
    (s ≡ true → begins_client_line (bytes_of t ++ rest) ≡ false) → found_in_token s l t rest ≡ None
in_token (QuotedString quote tail) rest before s l h front = in_quotes tail rest quote ((step before quote (tail ++ rest) h).2)
in_token (QuotedIdentifier tail) rest before s l h front = in_quotes tail rest backquote ((step before backquote (tail ++ rest) h).2)
in_token (HashComment tail) rest before s l h front = refl
in_token (DashComment gap tail) rest before s l h front = refl
in_token (BlockComment tail) rest before s l h front =
    let first = step before slash (asterisk ∷ (tail ++ rest)) h in
    in_comment tail rest asterisk ((step slash asterisk (tail ++ rest) first.2).2)
in_token (Name name) rest before s l h front = refl
in_token Mark rest before s l h front = at_byte before question_mark rest s l h front
in_token (Plain b) rest before s l h front = at_byte before b rest s l h front

in_client : (t : Token) (rest : List ℕ) (before : ℕ) (s l : Bool) → is_clear_after true before (bytes_of t ++ rest) ≡ true →
    (s ≡ true → begins_client_line (bytes_of t ++ rest) ≡ false) → found_in_client s l t rest ≡ None
in_client t rest before s l h front =
    ap (λ z. cond z (Some construct.ZeroByte) (found_in_token s l t rest)) (no_zero_in (bytes_of t) rest before h)
    ∙ in_token t rest before s l h front

-- ---- the front of a statement after a token

after_byte : (before b : ℕ) (rest : List ℕ) (s : Bool) → is_clear_after true before (b ∷ rest) ≡ true →
    (s ≡ true → begins_client_line (b ∷ rest) ≡ false) → (b == byte ";" || (begins_no_word b && s)) ≡ true →
    begins_client_line rest ≡ false
after_byte before b rest s h front = go (b == byte ";") refl
  where
    n : NoDoubt before b rest × NoDoubtInClient b rest × (is_clear_after true b rest ≡ true)
    n = step before b rest h

    white : (nat_le b space || nat_le 128 b) ≡ true → nat_le b space ≡ true
    white e = either (nat_le b space) refl e
      where
        either : (w : Bool) → nat_le b space ≡ w → (nat_le b space || nat_le 128 b) ≡ true → nat_le b space ≡ true
        either true is e = is
        either false is e = absurd (true≢false (sym e ∙ rw (is, below b n.0.steady) refl))

    go : (semi : Bool) → (b == byte ";") ≡ semi → (b == byte ";" || (begins_no_word b && s)) ≡ true → begins_client_line rest ≡ false
    go true is e = second_false _ _ n.1.no_line is
    go false is e =
        let both : (begins_no_word b && s) ≡ true = subst (λ x. (x || (begins_no_word b && s)) ≡ true) is e in
        let p = and_parts (begins_no_word b) s both in
        (no_line b rest (front p.1)).white (white p.0)

after_token : (t : Token) (rest : List ℕ) (before : ℕ) (s : Bool) → is_clear_after true before (bytes_of t ++ rest) ≡ true →
    (s ≡ true → begins_client_line (bytes_of t ++ rest) ≡ false) → begins_statement s t ≡ true → begins_client_line rest ≡ false
after_token (QuotedString quote tail) rest before s h front e = absurd (true≢false (sym e))
after_token (QuotedIdentifier tail) rest before s h front e = absurd (true≢false (sym e))
after_token (HashComment tail) rest before s h front e = absurd (true≢false (front e))
after_token (DashComment gap tail) rest before s h front e = absurd (true≢false (front e))
after_token (BlockComment tail) rest before s h front e = absurd (true≢false (front e))
after_token (Name name) rest before s h front e = absurd (true≢false (sym e))
after_token Mark rest before s h front e = absurd (true≢false (sym e))
after_token (Plain b) rest before s h front e = after_byte before b rest s h front e

-- ---- queries

opener_step : (t : Token) (ts : List Token) (before : ℕ) → is_clear_after true before (bytes_of t ++ text_of ts) ≡ true → HoldNoOpener ts → HoldNoOpener (t ∷ ts)
opener_step (BlockComment tail) ts before h o =
    let first = step before slash (asterisk ∷ (tail ++ text_of ts)) h in
    (no_opener_in tail (text_of ts) asterisk ((step slash asterisk (tail ++ text_of ts) first.2).2), o)
opener_step (QuotedString quote tail) ts before h o = o
opener_step (QuotedIdentifier tail) ts before h o = o
opener_step (HashComment tail) ts before h o = o
opener_step (DashComment gap tail) ts before h o = o
opener_step (Name name) ts before h o = o
opener_step Mark ts before h o = o
opener_step (Plain b) ts before h o = o

all_sent : (ts : List Token) (before : ℕ) (s l : Bool) → is_clear_after true before (text_of ts) ≡ true →
    (s ≡ true → begins_client_line (text_of ts) ≡ false) → AreSentAsTheyAreFrom s l ts × HoldNoOpener ts
all_sent [] before s l h front = (tt, tt)
all_sent (t ∷ ts) before s l h front =
    let rest = clear_rest true (bytes_of t) (text_of ts) before h in
    let more = all_sent ts rest.0 (begins_statement s t) (begins_line l t) rest.1 (after_token t (text_of ts) before s h front) in
    ((in_client t (text_of ts) before s l h front, more.0), opener_step t ts before h more.1)

pub clear_in_client : (query : List ℕ) → is_clear_in_client query ≡ true →
    (begins_client_line query ≡ false) × (is_clear_after true space query ≡ true)
clear_in_client query h =
    let p = and_parts (not (begins_client_line query)) (is_clear_after true space query) h in
    (not-true _ p.0, p.1)

pub clear_in_client_is_steady : (query : List ℕ) → is_clear_in_client query ≡ true → list_all is_steady query ≡ true
clear_in_client_is_steady query h = clear_query_is_steady true query ((clear_in_client query h).1)

pub clear_in_client_is_portable : (mode : Bool) (query : List ℕ) → is_clear_in_client query ≡ true → OnTokens mode query IsPortableInClient
clear_in_client_is_portable mode query h =
    let c = clear_in_client query h in
    let t = tokens_exist mode query in
    let sent = all_sent t.0 space true true (subst (λ x. is_clear_after true space x ≡ true) (sym t.1.text) c.1) (λ is. subst (λ x. begins_client_line x ≡ false) (sym t.1.text) c.0) in
    (t.0, t.1, record { portable = clear_is_portable true mode query t.0 t.1 c.1; no_opener = sent.1; sent = sent.0 })
