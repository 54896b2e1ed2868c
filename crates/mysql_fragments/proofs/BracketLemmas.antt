-- What the walk keeps of the tokens before a place, and what the definition says of them.
use Rattle.std.specs.Prelude.{Bool, ◌||◌, reverse}
use Rattle.std.proofs.Common.{◌≡◌, ◌≢◌, inl, inr, ℕ, ◌+◌, ◌<◌, ◌==◌, ◌&&◌, not, true, false, List, [], ◌∷◌, ◌++◌, length, take, get_or, codes, nat_lt, if◌then◌else◌, refl, sym, ap, ◌∙◌, subst, arith, true≢false, lt-ltb, ne_eqb, eq-eqb, length-append}
use Rattle.std.specs.Char.{to_ascii_lowercase}
use Rattle.std.specs.Str.{byte, bytes_eq}
use Rattle.std.proofs.lemmas.Bool.{cases_Bool, or_cases, eqb-true, eqb-false}
use Rattle.mysql_named_params.specs.Bytes.{tab, newline, form_feed, carriage_return, space, asterisk, exclamation_mark, single_quote, double_quote, hash, dash, slash, is_white_space, is_string_quote, IsUpTo, up_to_word, up_to_end}
use Rattle.mysql_named_params.specs.TokensOf.{len_up_to}
use Rattle.mysql_named_params.specs.Tokens.{Token, bytes_of, IsToken, QuotedString, QuotedIdentifier, HashComment, DashComment, BlockComment, Name, Mark, Plain}
use Rattle.mysql_named_params.proofs.PlainLemmas.{not_plain_found}
use Rattle.mysql_fragments.specs.Brackets.{is_gap, may_execute, past_gaps, before_word, begins_at, closes, ends_in_list_word, ends_in_values, follows_row_sign, follows_values, is_comparison, is_open, is_separator, is_word_byte, last_word, may_begin_row, may_open, may_stand, opens}
use Rattle.mysql_fragments.specs.BracketWalk.{has_values, is_gap_at, may_begin_row_seen, may_open_seen, next_letters, past_gap, past_letter, past_other, past_sign, past_byte, past_first, past_token, may_stand_seen}
use Rattle.mysql_fragments.specs.declared.brackets.Implicit.{Implicit}
use Rattle.mysql_fragments.specs.declared.brackets.Implicit.TheVariants.{No, List as AList, Rows}
use Rattle.mysql_fragments.specs.declared.brackets.Seen.{Seen}

-- ---- tests

or_false : (x : Bool) → (x || false) ≡ x
or_false true = refl
or_false false = refl

and_false : (x : Bool) → (x && false) ≡ false
and_false true = refl
and_false false = refl

quote_at : {A : Type 0} (f : ℕ → A) (x : A) (q : ℕ) → is_string_quote q ≡ true →
    f single_quote ≡ x → f double_quote ≡ x → f q ≡ x
quote_at f x q h s d = elim (or_cases (q == single_quote) (q == double_quote) h) [
  | inl e ↦ ap f (eqb-true q single_quote e) ∙ s
  | inr e ↦ ap f (eqb-true q double_quote e) ∙ d
]

white_no_word : (b : ℕ) → is_white_space b ≡ true → is_word_byte b ≡ false
white_no_word b h = elim (or_cases _ (b == space) h) [
  | inr e ↦ ap is_word_byte (eqb-true b space e)
  | inl h2 ↦ elim (or_cases _ (b == carriage_return) h2) [
    | inr e ↦ ap is_word_byte (eqb-true b carriage_return e)
    | inl h3 ↦ elim (or_cases _ (b == form_feed) h3) [
      | inr e ↦ ap is_word_byte (eqb-true b form_feed e)
      | inl h4 ↦ elim (or_cases (b == tab) (b == newline) h4) [
        | inl e ↦ ap is_word_byte (eqb-true b tab e)
        | inr e ↦ ap is_word_byte (eqb-true b newline e)
      ]
    ]
  ]
]

word_no_white : (b : ℕ) → is_word_byte b ≡ true → is_white_space b ≡ false
word_no_white b h = elim (cases_Bool (is_white_space b)) [
  | inl w ↦ absurd (true≢false (sym h ∙ white_no_word b w))
  | inr w ↦ w
]

-- a byte of a word is no other byte
no_other_byte : (b other : ℕ) → is_word_byte b ≡ true → is_word_byte other ≡ false →
    (b == other) ≡ false
no_other_byte b other h not_word = elim (cases_Bool (b == other)) [
  | inl e ↦ absurd (true≢false (sym h ∙ (ap is_word_byte (eqb-true b other e) ∙ not_word)))
  | inr e ↦ e
]

word_no_separator : (b : ℕ) → is_word_byte b ≡ true → is_separator b ≡ false
word_no_separator b h = rw (no_other_byte b (byte "(") h refl, no_other_byte b (byte ",") h refl) refl

word_no_comparison : (b : ℕ) → is_word_byte b ≡ true → is_comparison b ≡ false
word_no_comparison b h =
    rw (no_other_byte b (byte "=") h refl, no_other_byte b (byte "<") h refl, no_other_byte b (byte ">") h refl, no_other_byte b (byte "!") h refl) refl

-- ---- a token by its first byte and its length

-- `#` begins a comment
no_plain_hash : (mode : Bool) (b : ℕ) (rest : List ℕ) → IsToken mode (Plain b) rest →
    (b == hash) ≡ false
no_plain_hash mode b rest h = elim (cases_Bool (b == hash)) [
  | inl e ↦
      let is : b ≡ hash = eqb-true b hash e in
      let t : Token = HashComment (take (len_up_to (newline ∷ []) rest) rest) in
      let found = not_plain_found mode (hash ∷ rest) t refl in
      absurd (h t found.0 found.1 (found.2 ∙ ap (λ x. x ∷ rest) (sym is)))
  | inr e ↦ e
]

plain_bits : (white is_dash is_slash x : Bool) →
    (white || false || (is_dash && false) || (is_slash && false && x)) ≡ white
plain_bits true is_dash is_slash x = refl
plain_bits false true true x = refl
plain_bits false true false x = refl
plain_bits false false true x = refl
plain_bits false false false x = refl

plain_gap : (b : ℕ) (rest : List ℕ) → (b == hash) ≡ false → is_gap_at (b ∷ rest) 1 ≡ is_white_space b
plain_gap b rest h =
    ap (λ x. is_white_space b || x || (b == dash && false) || (b == slash && false && not (get_or rest 2 0 == exclamation_mark))) h
    ∙ plain_bits (is_white_space b) (b == dash) (b == slash) (not (get_or rest 2 0 == exclamation_mark))

-- the second byte of a block comment's tail, or of all that follows
second_in : (tail rest : List ℕ) → IsUpTo (asterisk ∷ slash ∷ []) tail rest →
    get_or (tail ++ rest) 1 0 ≡ get_or tail 1 0
second_in (a ∷ b ∷ tail) rest u = refl
second_in (a ∷ []) rest (up_to_word body e h) =
    absurd (omega (arith, length-append body (asterisk ∷ slash ∷ []), ap length e))
second_in (a ∷ []) rest (up_to_end l e) = ap (λ x. get_or (a ∷ x) 1 0) e
second_in [] rest (up_to_word body e h) =
    absurd (omega (arith, length-append body (asterisk ∷ slash ∷ []), ap length e))
second_in [] rest (up_to_end l e) = ap (λ x. get_or x 1 0) e

pub gap_token : (mode : Bool) (t : Token) (rest : List ℕ) → IsToken mode t rest →
    is_gap_at (bytes_of t ++ rest) (length (bytes_of t)) ≡ is_gap t
gap_token mode (QuotedString q tail) rest h =
    quote_at (λ x. is_gap_at (x ∷ tail ++ rest) (length (q ∷ tail))) false q h.0 refl refl
gap_token mode (QuotedIdentifier tail) rest h = refl
gap_token mode (HashComment tail) rest h = refl
gap_token mode (DashComment gap tail) rest h =
    ap (λ x. x || false) (lt-ltb 1 (length (dash ∷ dash ∷ gap ∷ tail)) (omega arith))
gap_token mode (BlockComment tail) rest h =
    ap (λ x. x && not (get_or (tail ++ rest) 1 0 == exclamation_mark)) (lt-ltb 1 (length (bytes_of (BlockComment tail))) (omega arith))
    ∙ ap (λ x. not (x == exclamation_mark)) (second_in tail rest h.1)
gap_token mode (Name name) rest h = refl
gap_token mode Mark rest h = refl
gap_token mode (Plain b) rest h = plain_gap b rest (no_plain_hash mode b rest h)

abbrev by_gap : (seen : Seen) (t : Token) → List ℕ → Bool → Seen
by_gap seen t rest gap =
    if gap then past_gap seen else past_byte seen (get_or (bytes_of t ++ rest) 0 0)

pub token_seen : (mode : Bool) (seen : Seen) (t : Token) (rest : List ℕ) → IsToken mode t rest →
    past_first seen (bytes_of t ++ rest) (length (bytes_of t)) ≡ past_token seen t
token_seen mode seen t rest h = ap (by_gap seen t rest) (gap_token mode t rest h) ∙ by_token t h
  where
    by_token : (t : Token) → IsToken mode t rest → by_gap seen t rest (is_gap t) ≡ past_token seen t
    by_token (QuotedString q tail) h = quote_at (past_byte seen) (past_sign false false false) q h.0 refl refl
    by_token (QuotedIdentifier tail) h = refl
    by_token (HashComment tail) h = refl
    by_token (DashComment gap tail) h = refl
    by_token (BlockComment tail) h = refl
    by_token (Name name) h = refl
    by_token Mark h = refl
    by_token (Plain b) h = refl

-- ---- the letters of a word

module _ (word : List ℕ) where
  -- how many letters of the word a text is that is given with its last byte first
  abbrev pub matched : List ℕ → ℕ
  matched [] = 0
  matched (b ∷ text) = next_letters word (matched text) b

  more_letters : (c : Bool) (k : ℕ) → k < length word →
      ((if c then k + 1 else length word + 1) == k + 1) ≡ c
  more_letters true k lt = eq-eqb (k + 1) (k + 1) refl
  more_letters false k lt = ne_eqb (length word + 1) (k + 1) (λ e. omega (arith, lt, e))

  other_letters : (c : Bool) (m k : ℕ) → k < length word → m ≢ k →
      ((if c then m + 1 else length word + 1) == k + 1) ≡ false
  other_letters true m k lt ne = ne_eqb (m + 1) (k + 1) (λ e. ne (omega (arith, e)))
  other_letters false m k lt ne = ne_eqb (length word + 1) (k + 1) (λ e. omega (arith, lt, e))

  abbrev letter : ℕ → ℕ
  letter k = get_or word k 0

  one_letter : (k : ℕ) (back : List ℕ) → k < length word →
      ((text : List ℕ) → (matched text == k) ≡ bytes_eq text back) → (text : List ℕ) →
      (matched text == k + 1) ≡ bytes_eq text (letter k ∷ back)
  one_letter k back lt so_far [] = ne_eqb 0 (k + 1) (λ e. omega (arith, e))
  one_letter k back lt so_far (b ∷ text) = elim (cases_Bool (matched text == k)) [
    | inl e ↦
        let same : matched text ≡ k = eqb-true (matched text) k e in
        let whole : bytes_eq text back ≡ true = sym (so_far text) ∙ e in
        ap (λ n. next_letters word n b == k + 1) same
        ∙ (ap (λ x. (if x && b == letter k then k + 1 else length word + 1) == k + 1) (lt-ltb k (length word) lt)
        ∙ (more_letters (b == letter k) k lt
        ∙ (sym (and_true (b == letter k)) ∙ ap (λ x. b == letter k && x) (sym whole))))
    | inr e ↦
        let none : bytes_eq text back ≡ false = sym (so_far text) ∙ e in
        other_letters _ (matched text) k lt (eqb-false (matched text) k e)
        ∙ (sym (and_false (b == letter k)) ∙ ap (λ x. b == letter k && x) (sym none))
  ]
    where
      and_true : (x : Bool) → (x && true) ≡ x
      and_true true = refl
      and_true false = refl

  no_letter : (text : List ℕ) → (matched text == 0) ≡ bytes_eq text []
  no_letter [] = refl
  no_letter (b ∷ text) = some (nat_lt (matched text) (length word) && b == letter (matched text))
    where
      some : (c : Bool) → ((if c then matched text + 1 else length word + 1) == 0) ≡ false
      some true = ne_eqb (matched text + 1) 0 (λ e. omega (arith, e))
      some false = ne_eqb (length word + 1) 0 (λ e. omega (arith, e))

two_letters : (text : List ℕ) → (matched (codes "in") text == 2) ≡ bytes_eq text (reverse (codes "in"))
two_letters = one_letter (codes "in") 1 _ (omega arith) (one_letter (codes "in") 0 _ (omega arith) (no_letter (codes "in")))

three_letters : (text : List ℕ) → (matched (codes "row") text == 3) ≡ bytes_eq text (reverse (codes "row"))
three_letters = one_letter (codes "row") 2 _ (omega arith) (one_letter (codes "row") 1 _ (omega arith) (one_letter (codes "row") 0 _ (omega arith) (no_letter (codes "row"))))

five_letters : (text : List ℕ) → (matched (codes "values") text == 5) ≡ bytes_eq text (reverse (codes "value"))
five_letters = one_letter (codes "values") 4 _ (omega arith) (one_letter (codes "values") 3 _ (omega arith) (one_letter (codes "values") 2 _ (omega arith) (one_letter (codes "values") 1 _ (omega arith) (one_letter (codes "values") 0 _ (omega arith) (no_letter (codes "values"))))))

six_letters : (text : List ℕ) → (matched (codes "values") text == 6) ≡ bytes_eq text (reverse (codes "values"))
six_letters = one_letter (codes "values") 5 _ (omega arith) five_letters

-- ---- what is kept, and the tokens before

abbrev pub ends_in_word : List Token → Bool
ends_in_word (Plain b ∷ before) = is_word_byte b
ends_in_word before = false

-- this was seen of the tokens before
pub record Agrees (seen : Seen) (before : List Token) : Type 0 where
  pub opened : seen.opened ≡ opens before
  pub closed : seen.closed ≡ closes before
  pub row_sign : seen.row_sign ≡ follows_row_sign before
  pub ended : seen.ended ≡ not (ends_in_word before)
  pub word_after_close : seen.word_after_close ≡ closes (before_word (past_gaps before))
  pub word_begins_row : seen.word_begins_row ≡ may_begin_row (before_word (past_gaps before))
  pub in_letters : seen.in_letters ≡ matched (codes "in") (last_word (past_gaps before))
  pub row_letters : seen.row_letters ≡ matched (codes "row") (last_word (past_gaps before))
  pub values_letters : seen.values_letters ≡ matched (codes "values") (last_word (past_gaps before))

pub agrees_none : Agrees (past_sign false false false) []
agrees_none = record { opened = refl; closed = refl; row_sign = refl; ended = refl; word_after_close = refl; word_begins_row = refl; in_letters = refl; row_letters = refl; values_letters = refl }

values_seen : (seen : Seen) (before : List Token) → Agrees seen before →
    has_values seen ≡ follows_values before
values_seen seen before a =
    let word : List ℕ = last_word (past_gaps before) in
    ap (λ n. n == 6 || (n == 5 && seen.word_after_close)) a.values_letters
    ∙ (ap (λ x. x || (matched (codes "values") word == 5 && seen.word_after_close)) (six_letters word)
    ∙ (ap (λ x. bytes_eq word (reverse (codes "values")) || (x && seen.word_after_close)) (five_letters word)
    ∙ ap (λ x. bytes_eq word (reverse (codes "values")) || (bytes_eq word (reverse (codes "value")) && x)) a.word_after_close))

row_seen : (seen : Seen) (before : List Token) → Agrees seen before →
    may_begin_row_seen seen ≡ may_begin_row before
row_seen seen before a =
    ap (λ x. x || has_values seen) a.row_sign
    ∙ ap (λ x. follows_row_sign before || x) (values_seen seen before a)

list_word_seen : (seen : Seen) (before : List Token) → Agrees seen before →
    (seen.in_letters == 2 || (seen.row_letters == 3 && seen.word_begins_row) || has_values seen) ≡ ends_in_list_word (past_gaps before)
list_word_seen seen before a =
    let word : List ℕ = last_word (past_gaps before) in
    ap (λ n. n == 2 || (seen.row_letters == 3 && seen.word_begins_row) || has_values seen) a.in_letters
    ∙ (ap (λ x. x || (seen.row_letters == 3 && seen.word_begins_row) || has_values seen) (two_letters word)
    ∙ (ap (λ n. bytes_eq word (reverse (codes "in")) || (n == 3 && seen.word_begins_row) || has_values seen) a.row_letters
    ∙ (ap (λ x. bytes_eq word (reverse (codes "in")) || (x && seen.word_begins_row) || has_values seen) (three_letters word)
    ∙ (ap (λ x. bytes_eq word (reverse (codes "in")) || (bytes_eq word (reverse (codes "row")) && x) || has_values seen) a.word_begins_row
    ∙ ap (λ x. bytes_eq word (reverse (codes "in")) || (bytes_eq word (reverse (codes "row")) && may_begin_row (before_word (past_gaps before))) || x) (values_seen seen before a)))))

open_seen : (seen : Seen) (before : List Token) → Agrees seen before →
    may_open_seen seen ≡ may_open before
open_seen seen before a =
    ap (λ x. x || (seen.in_letters == 2 || (seen.row_letters == 3 && seen.word_begins_row) || has_values seen)) a.row_sign
    ∙ ap (λ x. follows_row_sign before || x) (list_word_seen seen before a)

pub may_stand_agrees : (kind : Implicit) (seen : Seen) (before after : List Token) →
    Agrees seen before → may_stand_seen kind seen after ≡ may_stand kind before after
may_stand_agrees No seen before after a = refl
may_stand_agrees AList seen before after a = ap (λ x. x && closes after) a.opened
may_stand_agrees Rows seen before after a =
    ap (λ x. x || (seen.opened && closes after)) (values_seen seen before a)
    ∙ ap (λ x. follows_values before || (x && closes after)) a.opened

-- the letters of the word that goes on
word_so_far : (seen : Seen) (before : List Token) (word : List ℕ) (letters : ℕ) →
    seen.ended ≡ not (ends_in_word before) → letters ≡ matched word (last_word (past_gaps before)) →
    (if seen.ended then 0 else letters) ≡ matched word (last_word before)
word_so_far seen [] word letters ended l = rw ended refl
word_so_far seen (Plain b ∷ before) word letters ended l = elim (cases_Bool (is_word_byte b)) [
  | inl w ↦
      let goes_on : seen.ended ≡ false = ended ∙ ap not w in
      let same : past_gaps (Plain b ∷ before) ≡ Plain b ∷ before = rw (word_no_white b w) refl in
      rw goes_on (l ∙ ap (λ x. matched word (last_word x)) same)
  | inr w ↦
      let ends : seen.ended ≡ true = ended ∙ ap not w in
      rw (ends, w) refl
]
word_so_far seen (t ∷ before) word letters ended l = rw ended refl

-- what stands before the word that goes on
start_of_word : {A : Type 0} (f : List Token → A) (ended : Bool) (before : List Token) (now so_far : A) →
    ended ≡ not (ends_in_word before) → now ≡ f before → so_far ≡ f (before_word (past_gaps before)) →
    (if ended then now else so_far) ≡ f (before_word before)
start_of_word f ended [] now so_far e n s = rw e n
start_of_word f ended (Plain b ∷ before) now so_far e n s = elim (cases_Bool (is_word_byte b)) [
  | inl w ↦
      let goes_on : ended ≡ false = e ∙ ap not w in
      let same : past_gaps (Plain b ∷ before) ≡ Plain b ∷ before = rw (word_no_white b w) refl in
      rw goes_on (s ∙ ap (λ x. f (before_word x)) same)
  | inr w ↦
      let ends : ended ≡ true = e ∙ ap not w in
      let same : before_word (Plain b ∷ before) ≡ Plain b ∷ before = rw w refl in
      rw ends (n ∙ ap f (sym same))
]
start_of_word f ended (t ∷ before) now so_far e n s = rw e n

row_past_gap : (t : Token) (before : List Token) → is_gap t ≡ true →
    follows_row_sign (t ∷ before) ≡ follows_row_sign before
row_past_gap (Plain b) before gap = rw gap refl
row_past_gap (BlockComment tail) before gap = rw gap refl
row_past_gap (HashComment tail) before gap = refl
row_past_gap (DashComment b tail) before gap = refl
row_past_gap t before gap = cc

agrees_gap : (seen : Seen) (t : Token) (before : List Token) → is_gap t ≡ true →
    ends_in_word (t ∷ before) ≡ false → Agrees seen before → Agrees (past_gap seen) (t ∷ before)
agrees_gap seen t before gap no_word a = record {
  opened = a.opened ∙ ap is_open (sym past);
  closed = a.closed ∙ ap (begins_at (byte ")")) (sym past);
  row_sign = a.row_sign ∙ sym (row_past_gap t before gap);
  ended = ap not (sym no_word);
  word_after_close = a.word_after_close ∙ ap (λ x. closes (before_word x)) (sym past);
  word_begins_row = a.word_begins_row ∙ ap (λ x. may_begin_row (before_word x)) (sym past);
  in_letters = a.in_letters ∙ ap (λ x. matched (codes "in") (last_word x)) (sym past);
  row_letters = a.row_letters ∙ ap (λ x. matched (codes "row") (last_word x)) (sym past);
  values_letters = a.values_letters ∙ ap (λ x. matched (codes "values") (last_word x)) (sym past);
}
  where
    past : past_gaps (t ∷ before) ≡ past_gaps before
    past = rw gap refl

-- a token that is no gap and no byte
agrees_other : (t : Token) (before : List Token) → past_gaps (t ∷ before) ≡ t ∷ before →
    is_open (t ∷ before) ≡ false → begins_at (byte ")") (t ∷ before) ≡ false →
    follows_row_sign (t ∷ before) ≡ false → ends_in_word (t ∷ before) ≡ false →
    last_word (t ∷ before) ≡ [] → before_word (t ∷ before) ≡ t ∷ before →
    Agrees (past_sign false false false) (t ∷ before)
agrees_other t before past opened closed row_sign ended no_word start = record {
  opened = sym (ap is_open past ∙ opened);
  closed = sym closes_not;
  row_sign = sym row_sign;
  ended = ap not (sym ended);
  word_after_close = sym (ap (λ x. closes (before_word x)) past ∙ (ap closes start ∙ closes_not));
  word_begins_row = sym (ap (λ x. may_begin_row (before_word x)) past ∙ (ap may_begin_row start ∙ (ap (λ x. x || follows_values (t ∷ before)) row_sign ∙ (ap ends_in_values past ∙ values_not))));
  in_letters = sym (ap (matched (codes "in")) none);
  row_letters = sym (ap (matched (codes "row")) none);
  values_letters = sym (ap (matched (codes "values")) none);
}
  where
    none : last_word (past_gaps (t ∷ before)) ≡ []
    none = ap last_word past ∙ no_word

    closes_not : closes (t ∷ before) ≡ false
    closes_not = ap (begins_at (byte ")")) past ∙ closed

    values_not : ends_in_values (t ∷ before) ≡ false
    values_not = ap (λ x. bytes_eq x (reverse (codes "values")) || (bytes_eq x (reverse (codes "value")) && closes (before_word (t ∷ before)))) no_word

module _ (seen : Seen) (b : ℕ) (before : List Token) (white : is_white_space b ≡ false) (a : Agrees seen before) where
  past : past_gaps (Plain b ∷ before) ≡ Plain b ∷ before
  past = rw white refl

  row_at : follows_row_sign (Plain b ∷ before) ≡ (is_separator b || (is_comparison b && (closes before || follows_row_sign before)))
  row_at = rw white refl

  -- a letter more of this word
  one_more : (word : List ℕ) (letters : ℕ) → letters ≡ matched word (last_word (past_gaps before)) →
      is_word_byte b ≡ true →
      next_letters word (if seen.ended then 0 else letters) (to_ascii_lowercase b) ≡ matched word (last_word (past_gaps (Plain b ∷ before)))
  one_more word letters l w =
      ap (λ n. next_letters word n (to_ascii_lowercase b)) (word_so_far seen before word letters a.ended l)
      ∙ (sym (ap (matched word) goes_on) ∙ ap (λ x. matched word (last_word x)) (sym past))
    where
      goes_on : last_word (Plain b ∷ before) ≡ to_ascii_lowercase b ∷ last_word before
      goes_on = rw w refl

  -- no letter of this word
  no_more : (word : List ℕ) → is_word_byte b ≡ false → 0 ≡ matched word (last_word (past_gaps (Plain b ∷ before)))
  no_more word w = sym (ap (matched word) no_word) ∙ ap (λ x. matched word (last_word x)) (sym past)
    where
      no_word : last_word (Plain b ∷ before) ≡ []
      no_word = rw w refl

  -- where the word began
  word_starts : {A : Type 0} (f : List Token → A) (now so_far : A) → now ≡ f before →
      so_far ≡ f (before_word (past_gaps before)) → is_word_byte b ≡ true →
      (if seen.ended then now else so_far) ≡ f (before_word (past_gaps (Plain b ∷ before)))
  word_starts f now so_far n s w =
      start_of_word f seen.ended before now so_far a.ended n s
      ∙ (sym (ap f goes_on) ∙ ap (λ x. f (before_word x)) (sym past))
    where
      goes_on : before_word (Plain b ∷ before) ≡ before_word before
      goes_on = rw w refl

  agrees_letter : is_word_byte b ≡ true → Agrees (past_letter seen (to_ascii_lowercase b)) (Plain b ∷ before)
  agrees_letter w = record {
    opened = sym (ap (λ x. x && may_open before) (no_other_byte b (byte "(") w refl)) ∙ ap is_open (sym past);
    closed = sym (no_other_byte b (byte ")") w refl) ∙ ap (begins_at (byte ")")) (sym past);
    row_sign = sym (ap (λ x. x || (is_comparison b && (closes before || follows_row_sign before))) (word_no_separator b w) ∙ ap (λ x. x && (closes before || follows_row_sign before)) (word_no_comparison b w)) ∙ sym row_at;
    ended = ap not (sym w);
    word_after_close = word_starts closes seen.closed seen.word_after_close a.closed a.word_after_close w;
    word_begins_row = word_starts may_begin_row (may_begin_row_seen seen) seen.word_begins_row (row_seen seen before a) a.word_begins_row w;
    in_letters = one_more (codes "in") seen.in_letters a.in_letters w;
    row_letters = one_more (codes "row") seen.row_letters a.row_letters w;
    values_letters = one_more (codes "values") seen.values_letters a.values_letters w;
  }

  -- a sign that is no letter
  module _ (w : is_word_byte b ≡ false) where
    no_word : last_word (Plain b ∷ before) ≡ []
    no_word = rw w refl

    start : before_word (past_gaps (Plain b ∷ before)) ≡ Plain b ∷ before
    start = ap before_word past ∙ rw w refl

    no_values : follows_values (Plain b ∷ before) ≡ false
    no_values = ap ends_in_values past ∙ ap (λ x. bytes_eq x (reverse (codes "values")) || (bytes_eq x (reverse (codes "value")) && closes (before_word (Plain b ∷ before)))) no_word

    row_sign_is : (is_separator b || (is_comparison b && (seen.closed || seen.row_sign))) ≡ follows_row_sign (Plain b ∷ before)
    row_sign_is =
        ap (λ x. is_separator b || (is_comparison b && (x || seen.row_sign))) a.closed
        ∙ (ap (λ x. is_separator b || (is_comparison b && (closes before || x))) a.row_sign ∙ sym row_at)

    agrees_sign : Agrees (past_other seen b) (Plain b ∷ before)
    agrees_sign = record {
      opened = ap (λ x. b == byte "(" && x) (open_seen seen before a) ∙ ap is_open (sym past);
      closed = ap (begins_at (byte ")")) (sym past);
      row_sign = row_sign_is;
      ended = ap not (sym w);
      word_after_close = ap (begins_at (byte ")")) (sym past) ∙ ap closes (sym start);
      word_begins_row = row_sign_is ∙ (sym (or_false (follows_row_sign (Plain b ∷ before))) ∙ (ap (λ x. follows_row_sign (Plain b ∷ before) || x) (sym no_values) ∙ ap may_begin_row (sym start)));
      in_letters = no_more (codes "in") w;
      row_letters = no_more (codes "row") w;
      values_letters = no_more (codes "values") w;
    }

  agrees_byte : Agrees (past_byte seen b) (Plain b ∷ before)
  agrees_byte = elim (cases_Bool (is_word_byte b)) [
    | inl w ↦ subst (λ x. Agrees x (Plain b ∷ before)) (sym (word_is w)) (agrees_letter w)
    | inr w ↦ subst (λ x. Agrees x (Plain b ∷ before)) (sym (sign_is w)) (agrees_sign w)
  ]
    where
      word_is : is_word_byte b ≡ true → past_byte seen b ≡ past_letter seen (to_ascii_lowercase b)
      word_is w = rw w refl

      sign_is : is_word_byte b ≡ false → past_byte seen b ≡ past_other seen b
      sign_is w = rw w refl

agrees_plain : (seen : Seen) (b : ℕ) (before : List Token) → Agrees seen before →
    Agrees (past_token seen (Plain b)) (Plain b ∷ before)
agrees_plain seen b before a = elim (cases_Bool (is_white_space b)) [
  | inl w ↦ subst (λ x. Agrees x (Plain b ∷ before)) (sym (gap_is w)) (agrees_gap seen (Plain b) before w (white_no_word b w) a)
  | inr w ↦ subst (λ x. Agrees x (Plain b ∷ before)) (sym (byte_is w)) (agrees_byte seen b before w a)
]
  where
    gap_is : is_white_space b ≡ true → past_token seen (Plain b) ≡ past_gap seen
    gap_is w = rw w refl

    byte_is : is_white_space b ≡ false → past_token seen (Plain b) ≡ past_byte seen b
    byte_is w = rw w refl

pub agrees_token : (seen : Seen) (t : Token) (before : List Token) → Agrees seen before →
    Agrees (past_token seen t) (t ∷ before)
agrees_token seen (Plain b) before a = agrees_plain seen b before a
agrees_token seen (HashComment tail) before a = agrees_gap seen (HashComment tail) before refl refl a
agrees_token seen (DashComment gap tail) before a = agrees_gap seen (DashComment gap tail) before refl refl a
agrees_token seen (BlockComment tail) before a = elim (cases_Bool (may_execute tail)) [
  | inl e ↦
      let executed : is_gap (BlockComment tail) ≡ false = ap not e in
      let past : past_gaps (BlockComment tail ∷ before) ≡ BlockComment tail ∷ before = rw executed refl in
      let now : past_token seen (BlockComment tail) ≡ past_sign false false false = rw executed refl in
      subst (λ x. Agrees x (BlockComment tail ∷ before)) (sym now) (agrees_other (BlockComment tail) before past refl refl (ap (λ x. x && follows_row_sign before) executed) refl refl refl)
  | inr e ↦
      let gap : is_gap (BlockComment tail) ≡ true = ap not e in
      let now : past_token seen (BlockComment tail) ≡ past_gap seen = rw gap refl in
      subst (λ x. Agrees x (BlockComment tail ∷ before)) (sym now) (agrees_gap seen (BlockComment tail) before gap refl a)
]
agrees_token seen t before a = agrees_other t before refl refl refl refl refl refl refl
