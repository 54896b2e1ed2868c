-- A text and the same text up to a place, where another text follows instead, which opens nothing
-- after the byte before the place. A token before the first is one before the second, and stays
-- portable.
use Rattle.std.specs.Prelude.{Bool}
use Rattle.std.proofs.Common.{◌≡◌, ◌⊎◌, ◌++◌, ◌==◌, ◌&&◌, ◌||◌, not, ℕ, true, false, List, [], ◌∷◌, None, arith, inl, inr, refl, ap, ◌∙◌, sym, subst, true≢false}
use Rattle.std.specs.Char.{is_ascii_digit}
use Rattle.std.specs.Str.{byte}
use Rattle.std.proofs.lemmas.Bool.{eqb-true, not-true, or_cases, or_parts, or_from, and_parts, false_from_ne_true}
use Rattle.std.proofs.lemmas.Bool.Decides.{nat_tests}
use Rattle.mysql_named_params.specs.Bytes.{asterisk, backquote, colon, dash, hash, newline, question_mark, slash, space, is_start_byte, is_string_quote, is_extension, begins, plus, bracket, dollar, point}
use Rattle.mysql_named_params.specs.Tokens.{Token, IsToken, bytes_of, QuotedString, QuotedIdentifier, HashComment, DashComment, BlockComment, Name, Mark, Plain}
use Rattle.mysql_named_params.specs.FirstToken.{opens_dash_comment, opens_block_comment}
use Rattle.mysql_named_params.specs.TokensOf.{not_plain_at}
use Rattle.mysql_named_params.specs.Places.{IsPlace}
use Rattle.mysql_named_params.proofs.PlainLemmas.{plain_none}
use Rattle.mysql_named_params.proofs.RestLemmas.{is_gap, dash_none, none_dash, block_none, none_block, name_none, none_name, cond_none, some_none, string-alike, up_to-alike, block-alike, dash_second, block_second}
use Rattle.mysql_named_params.proofs.TokenEnds.{plain_at}
use Rattle.mysql_portable.specs.Server.{keeps_dashes, is_tag_byte, begins_place, begins_tag, begins_dashes, begins_exponent_dashes, begins_fraction, begins_own}
use Rattle.mysql_portable.specs.Portable.{may_open_line, differs_at}
use Rattle.mysql_portable.proofs.PortableLemmas.{second_false, false_if, is_alike_on_all, cond_none_if}

-- the last of these bytes, or, if there are none, the byte before them
abbrev pub last_byte : ℕ → List ℕ → ℕ
last_byte before [] = before
last_byte before (b ∷ bytes) = last_byte b bytes

-- a byte that opens no comment with those before it: it keeps dashes plain, and is no `*`, `+` or `-`
abbrev pub joins_nothing : ℕ → Bool
joins_nothing b = keeps_dashes b && (not (b == asterisk) && (not (b == plus) && not (b == dash)))

-- after this byte the text opens nothing: it begins with such a byte, which makes no name of a colon
-- before it, or with a dash and a digit
abbrev pub opens_nothing_after : ℕ → List ℕ → Bool
opens_nothing_after before [] = false
opens_nothing_after before (b ∷ bs) =
    (joins_nothing b && not (is_start_byte b && before == colon))
    || (b == dash && begins is_ascii_digit bs)

-- after this byte, the second text is the first up to a place, where another text follows instead
pub data SameUpToSplice : ℕ → List ℕ → List ℕ → Type 0 where
  at_end : {before : ℕ} → SameUpToSplice before [] []
  same : {before b : ℕ} {x y : List ℕ} → SameUpToSplice b x y → SameUpToSplice before (b ∷ x) (b ∷ y)
  at_place : {before b : ℕ} {x y : List ℕ} → begins_place (b ∷ x) ≡ true →
      opens_nothing_after before y ≡ true → SameUpToSplice before (b ∷ x) y

pub same-append : (before : ℕ) (bytes : List ℕ) {x y : List ℕ} →
    SameUpToSplice (last_byte before bytes) x y → SameUpToSplice before (bytes ++ x) (bytes ++ y)
same-append before [] a = a
same-append before (b ∷ bytes) a = same (same-append b bytes a)

pub same-end : {before : ℕ} {x y : List ℕ} → SameUpToSplice before x y → x ≡ [] → y ≡ []
same-end at_end e = refl
same-end (same a) e = cc
same-end (at_place p l) e = cc

pub place_byte : (b : ℕ) (x : List ℕ) → begins_place (b ∷ x) ≡ true → (b ≡ colon) ⊎ (b ≡ question_mark)
place_byte b x p =
    elim (or_cases (b == question_mark) (b == colon && begins is_start_byte x) p) [
      | inl e ↦ inr (eqb-true b question_mark e)
      | inr e ↦ inl (eqb-true b colon ((and_parts (b == colon) _ e).0))
    ]

-- ---- the front of a text that opens nothing

first_ways : (before b : ℕ) (bs : List ℕ) → opens_nothing_after before (b ∷ bs) ≡ true →
    ((joins_nothing b ≡ true) × ((is_start_byte b && before == colon) ≡ false))
    ⊎ (((b == dash) ≡ true) × (begins is_ascii_digit bs ≡ true))
first_ways before b bs h =
    elim (or_cases (joins_nothing b && not (is_start_byte b && before == colon)) (b == dash && begins is_ascii_digit bs) h) [
      | inl f ↦ let p = and_parts (joins_nothing b) _ f in inl (p.0, not-true _ p.1)
      | inr m ↦ inr (and_parts (b == dash) (begins is_ascii_digit bs) m)
    ]

first_keeps_dashes : (before b : ℕ) (bs : List ℕ) → opens_nothing_after before (b ∷ bs) ≡ true → keeps_dashes b ≡ true
first_keeps_dashes before b bs h =
    elim (first_ways before b bs h) [
      | inl f ↦ (and_parts (keeps_dashes b) _ f.0).0
      | inr m ↦ ap keeps_dashes (eqb-true b dash m.0)
    ]

digit_keeps_dashes : (b : ℕ) → is_ascii_digit b ≡ true → keeps_dashes b ≡ true
digit_keeps_dashes b h = grind (arith, nat_tests)

keeps_no_gap : (b : ℕ) → keeps_dashes b ≡ true → is_gap b ≡ false
keeps_no_gap b h = grind (arith, nat_tests)

-- after the dash with which such a text begins
digit_after : (before b : ℕ) (bs : List ℕ) → (b == dash) ≡ true → opens_nothing_after before (b ∷ bs) ≡ true →
    begins is_ascii_digit bs ≡ true
digit_after before b bs e = subst (λ x. opens_nothing_after before (x ∷ bs) ≡ true → begins is_ascii_digit bs ≡ true) (sym (eqb-true b dash e)) (λ p. p)

splice_no_star : (before : ℕ) (y : List ℕ) → opens_nothing_after before y ≡ true → begins (λ c. c == asterisk) y ≡ false
splice_no_star before [] h = refl
splice_no_star before (b ∷ bs) h =
    false_from_ne_true (b == asterisk) (λ e. true≢false (sym (subst (λ x. opens_nothing_after before (x ∷ bs) ≡ true) (eqb-true b asterisk e) h)))

splice_no_gap : (before : ℕ) (y : List ℕ) → opens_nothing_after before y ≡ true → begins is_gap y ≡ false
splice_no_gap before [] h = refl
splice_no_gap before (b ∷ bs) h = keeps_no_gap b (first_keeps_dashes before b bs h)

splice_no_comment : (before : ℕ) (y : List ℕ) → opens_nothing_after before y ≡ true → opens_dash_comment y ≡ false
splice_no_comment before [] h = refl
splice_no_comment before (b ∷ []) h = refl
splice_no_comment before (b ∷ w ∷ bs) h = false_if (b == dash) (is_gap w) (λ e. keeps_no_gap w (digit_keeps_dashes w (digit_after before b (w ∷ bs) e h)))

splice_no_block : (before : ℕ) (y : List ℕ) → opens_nothing_after before y ≡ true → opens_block_comment y ≡ false
splice_no_block before [] h = refl
splice_no_block before (b ∷ bs) h = rw (splice_no_star before (b ∷ bs) h) refl

-- after a colon it begins with no byte that begins a name
splice_no_start : (before : ℕ) (y : List ℕ) → (before == colon) ≡ true → opens_nothing_after before y ≡ true →
    begins is_start_byte y ≡ false
splice_no_start before [] e h = refl
splice_no_start before (b ∷ bs) e h =
    elim (first_ways before b bs h) [
      | inl f ↦ false_from_ne_true (is_start_byte b) (λ s. true≢false (sym e ∙ second_false (is_start_byte b) (before == colon) f.1 s))
      | inr m ↦ ap is_start_byte (eqb-true b dash m.0)
    ]

-- ---- no comment and no name opens before the second text if none does before the first

comment_move : {before : ℕ} {x y : List ℕ} → SameUpToSplice before x y → opens_dash_comment x ≡ false → opens_dash_comment y ≡ false
comment_move at_end e = e
comment_move (same at_end) e = e
comment_move (same (same a)) e = e
comment_move (same {b = b} (at_place {y = y} p l)) e = dash_second b y (splice_no_gap b y l)
comment_move (at_place {before = c} {y = y} p l) e = splice_no_comment c y l

hint : {before : ℕ} {x y : List ℕ} → SameUpToSplice before x y → begins is_extension x ≡ true → begins is_extension y ≡ true
hint at_end e = e
hint (same a) e = e
hint (at_place {b = b} {x = x} p l) e =
    elim (place_byte b x p) [
      | inl f ↦ absurd (true≢false (sym e ∙ ap is_extension f))
      | inr f ↦ absurd (true≢false (sym e ∙ ap is_extension f))
    ]

block_move : {before : ℕ} {x y : List ℕ} → SameUpToSplice before x y → opens_block_comment x ≡ false → opens_block_comment y ≡ false
block_move at_end e = e
block_move (same {b = b} {x = x} {y = y} a) e = block_second b x y (hint a) e
block_move (at_place {before = c} {y = y} p l) e = splice_no_block c y l

start_move : {before : ℕ} {x y : List ℕ} → SameUpToSplice before x y → (before == colon) ≡ true → begins is_start_byte x ≡ false →
    begins is_start_byte y ≡ false
start_move at_end c e = e
start_move (same a) c e = e
start_move (at_place {before = before} {y = y} p l) c e = splice_no_start before y c l

-- ---- a token that is no place stays one

not_plain-move : (mode : Bool) (b : ℕ) {x y : List ℕ} → SameUpToSplice b x y →
    not_plain_at mode (b ∷ x) ≡ None → not_plain_at mode (b ∷ y) ≡ None
not_plain-move mode b {x = x} {y = y} a =
    cond_none (is_string_quote b) _ _ _ _ (some_none _ _)
    (cond_none (b == backquote) _ _ _ _ (some_none _ _)
    (cond_none (b == hash) _ _ _ _ (some_none _ _)
    (cond_none (b == dash) _ _ _ _ (λ e. none_dash y (comment_move a (dash_none x e)))
    (cond_none (b == slash) _ _ _ _ (λ e. none_block y (block_move a (block_none x e)))
    (cond_none_if (b == colon) _ _ _ _ (λ c e. none_name y (start_move a c (name_none x e)))
    (cond_none (b == question_mark) _ _ _ _ (some_none _ _) (λ e. refl)))))))

pub token_move : (mode : Bool) (before : ℕ) (t : Token) (x y : List ℕ) → (IsPlace t → ⊥) →
    SameUpToSplice (last_byte before (bytes_of t)) x y → IsToken mode t x → IsToken mode t y
token_move mode before (QuotedString quote tail) x y n a h = (h.0, string-alike mode quote tail x y (λ lacks. same-end a) h.1)
token_move mode before (QuotedIdentifier tail) x y n a h = up_to-alike _ tail x y (λ lacks. same-end a) h
token_move mode before (HashComment tail) x y n a h = up_to-alike _ tail x y (λ lacks. same-end a) h
token_move mode before (DashComment gap tail) x y n a h = (h.0, h.1, up_to-alike _ tail x y (λ lacks. same-end a) h.2)
token_move mode before (BlockComment tail) x y n a h = (block-alike tail x y (λ lacks. same-end a) h.1 h.0, up_to-alike _ tail x y (λ lacks. same-end a) h.1)
token_move mode before (Name name) x y n a h = absurd (n tt)
token_move mode before Mark x y n a h = absurd (n tt)
token_move mode before (Plain b) x y n a h = plain_at mode b y (not_plain-move mode b a (plain_none mode b x h))

-- ---- a portable byte stays one

pub star_move : {before : ℕ} {x y : List ℕ} → SameUpToSplice before x y → begins (λ c. c == asterisk) x ≡ false →
    begins (λ c. c == asterisk) y ≡ false
star_move at_end e = e
star_move (same a) e = e
star_move (at_place {before = c} {y = y} p l) e = splice_no_star c y l

gap_closed : (b w : ℕ) → ((b == dash) ≡ true → keeps_dashes w ≡ true) →
    (b == dash && not (w == space || (w == newline || keeps_dashes w))) ≡ false
gap_closed b w f = false_if (b == dash) _ (λ e. go (w == space) (w == newline) (keeps_dashes w) (f e))
  where
    go : (s l k : Bool) → k ≡ true → not (s || (l || k)) ≡ false
    go true l k e = refl
    go false true k e = refl
    go false false k e = ap not e

splice_no_line : (before : ℕ) (y : List ℕ) → opens_nothing_after before y ≡ true → may_open_line y ≡ false
splice_no_line before [] h = refl
splice_no_line before (b ∷ []) h = refl
splice_no_line before (b ∷ w ∷ bs) h = gap_closed b w (λ e. digit_keeps_dashes w (digit_after before b (w ∷ bs) e h))

second_line : (before b : ℕ) (y : List ℕ) → opens_nothing_after before y ≡ true → may_open_line (b ∷ y) ≡ false
second_line before b [] l = refl
second_line before b (w ∷ bs) l = gap_closed b w (λ e. first_keeps_dashes before w bs l)

line_move : {before : ℕ} {x y : List ℕ} → SameUpToSplice before x y → may_open_line x ≡ false → may_open_line y ≡ false
line_move at_end e = e
line_move (same at_end) e = e
line_move (same (same a)) e = e
line_move (same {b = b} (at_place {y = y} p l)) e = second_line b b y l
line_move (at_place {before = c} {y = y} p l) e = splice_no_line c y l

place_move : (b : ℕ) {x y : List ℕ} → SameUpToSplice b x y → begins_place (b ∷ x) ≡ false → begins_place (b ∷ y) ≡ false
place_move b {x = x} {y = y} a e =
    let p = or_parts (b == question_mark) (b == colon && begins is_start_byte x) e in
    or_from _ _ p.0 (false_if _ _ (λ t. start_move a t (second_false _ _ p.1 t)))

tag_move : {before : ℕ} {x y : List ℕ} → SameUpToSplice before x y → begins_tag x ≡ false → begins_tag y ≡ false
tag_move at_end e = e
tag_move (same {b = b} {x = x} {y = y} a) e =
    let p = or_parts (b == dollar) (begins_place (b ∷ x) || (is_tag_byte b && begins_tag x)) e in
    let q = or_parts (begins_place (b ∷ x)) (is_tag_byte b && begins_tag x) p.1 in
    or_from _ _ p.0 (or_from _ _ (place_move b a q.0) (false_if _ _ (λ t. tag_move a (second_false _ _ q.1 t))))
tag_move (at_place {b = b} {x = x} p l) e =
    let q = or_parts (begins_place (b ∷ x)) (is_tag_byte b && begins_tag x) ((or_parts (b == dollar) (begins_place (b ∷ x) || (is_tag_byte b && begins_tag x)) e).1) in
    absurd (true≢false (sym p ∙ q.0))

-- dashes in place of an exponent, by the number of their three bytes before the splice
dashes_at : (before : ℕ) (y : List ℕ) → opens_nothing_after before y ≡ true → begins_dashes y ≡ false
dashes_at before [] l = refl
dashes_at before (a ∷ []) l = refl
dashes_at before (a ∷ b ∷ []) l = refl
dashes_at before (a ∷ b ∷ gap ∷ bs) l = false_if (a == dash) _ (λ e. no_dash (digit_after before a (b ∷ gap ∷ bs) e l))
  where
    no_dash : is_ascii_digit b ≡ true → (b == dash && not (keeps_dashes gap)) ≡ false
    no_dash h = false_if (b == dash) _ (λ e. absurd (true≢false (sym h ∙ ap is_ascii_digit (eqb-true b dash e))))

dashes_after_one : (before a : ℕ) (y : List ℕ) → opens_nothing_after before y ≡ true → begins_dashes (a ∷ y) ≡ false
dashes_after_one before a [] l = refl
dashes_after_one before a (b ∷ []) l = refl
dashes_after_one before a (b ∷ gap ∷ bs) l = false_if (a == dash) _ (λ e. false_if (b == dash) _ (λ f. ap not (digit_keeps_dashes gap (digit_after before b (gap ∷ bs) f l))))

dashes_after_two : (before a b : ℕ) (y : List ℕ) → opens_nothing_after before y ≡ true → begins_dashes (a ∷ b ∷ y) ≡ false
dashes_after_two before a b [] l = refl
dashes_after_two before a b (gap ∷ bs) l = false_if (a == dash) _ (λ e. false_if (b == dash) _ (λ f. ap not (first_keeps_dashes before gap bs l)))

dashes_move : {before : ℕ} {x y : List ℕ} → SameUpToSplice before x y → begins_dashes x ≡ false → begins_dashes y ≡ false
dashes_move at_end e = e
dashes_move (same at_end) e = e
dashes_move (same (same at_end)) e = e
dashes_move (same (same (same s))) e = e
dashes_move (same {b = a} (same {b = b} (at_place {y = y} p l))) e = dashes_after_two b a b y l
dashes_move (same {b = a} (at_place {y = y} p l)) e = dashes_after_one a a y l
dashes_move (at_place {before = c} {y = y} p l) e = dashes_at c y l

-- after a sign with which such a text begins
digit_after_sign : (before a : ℕ) (bs : List ℕ) → (a == plus || a == dash) ≡ true → opens_nothing_after before (a ∷ bs) ≡ true →
    begins is_ascii_digit bs ≡ true
digit_after_sign before a bs t l =
    elim (or_cases (a == plus) (a == dash) t) [
      | inl f ↦ absurd (true≢false (sym (subst (λ x. opens_nothing_after before (x ∷ bs) ≡ true) (eqb-true a plus f) l)))
      | inr f ↦ digit_after before a bs f l
    ]

digit_no_dashes : (y : List ℕ) → begins is_ascii_digit y ≡ true → begins_dashes y ≡ false
digit_no_dashes [] h = refl
digit_no_dashes (a ∷ []) h = refl
digit_no_dashes (a ∷ b ∷ []) h = refl
digit_no_dashes (a ∷ b ∷ gap ∷ bs) h = false_if (a == dash) _ (λ e. absurd (true≢false (sym h ∙ ap is_ascii_digit (eqb-true a dash e))))

splice_no_exponent_dashes : (before : ℕ) (y : List ℕ) → opens_nothing_after before y ≡ true → begins_exponent_dashes y ≡ false
splice_no_exponent_dashes before [] l = refl
splice_no_exponent_dashes before (a ∷ bs) l =
    or_from _ _ (dashes_at before (a ∷ bs) l) (false_if (a == plus || a == dash) _ (λ t. digit_no_dashes bs (digit_after_sign before a bs t l)))

exponent_dashes_move : {before : ℕ} {x y : List ℕ} → SameUpToSplice before x y → begins_exponent_dashes x ≡ false →
    begins_exponent_dashes y ≡ false
exponent_dashes_move at_end e = e
exponent_dashes_move (same {b = a} {x = x} {y = y} s) e =
    let p = or_parts (begins_dashes (a ∷ x)) ((a == plus || a == dash) && begins_dashes x) e in
    or_from _ _ (dashes_move (same {before = a} s) p.0) (false_if _ _ (λ t. dashes_move s (second_false _ _ p.1 t)))
exponent_dashes_move (at_place {before = c} {y = y} p l) e = splice_no_exponent_dashes c y l

fraction_move : {before : ℕ} {x y : List ℕ} → SameUpToSplice before x y → begins_fraction x ≡ false → begins_fraction y ≡ false
fraction_move at_end e = e
fraction_move (same {b = b} {x = x} {y = y} a) e =
    let p = or_parts (begins_place (b ∷ x)) ((is_ascii_digit b && begins_fraction x) || ((b == byte "e" || b == byte "E") && begins_exponent_dashes x)) e in
    let q = or_parts (is_ascii_digit b && begins_fraction x) ((b == byte "e" || b == byte "E") && begins_exponent_dashes x) p.1 in
    or_from _ _ (place_move b a p.0) (or_from _ _ (false_if _ _ (λ t. fraction_move a (second_false _ _ q.0 t))) (false_if _ _ (λ t. exponent_dashes_move a (second_false _ _ q.1 t))))
fraction_move (at_place {b = b} {x = x} p l) e =
    absurd (true≢false (sym p ∙ (or_parts (begins_place (b ∷ x)) ((is_ascii_digit b && begins_fraction x) || ((b == byte "e" || b == byte "E") && begins_exponent_dashes x)) e).0))

pub plain_move : (b : ℕ) {x y : List ℕ} → SameUpToSplice b x y → differs_at b x ≡ false → differs_at b y ≡ false
plain_move b {x = x} {y = y} a p =
    let p1 = or_parts (b == slash && begins (λ c. c == asterisk) x) ((b == dash && may_open_line x) || begins_own b x) p in
    let p2 = or_parts (b == dash && may_open_line x) (begins_own b x) p1.1 in
    let p3 = or_parts (b == bracket) ((b == dollar && begins_tag x) || (b == point && begins_fraction x)) p2.1 in
    let p4 = or_parts (b == dollar && begins_tag x) (b == point && begins_fraction x) p3.1 in
    or_from _ _ (false_if _ _ (λ t. star_move a (second_false _ _ p1.0 t)))
    (or_from _ _ (false_if _ _ (λ t. line_move a (second_false _ _ p2.0 t)))
    (or_from _ _ p3.0
    (or_from _ _ (false_if _ _ (λ t. tag_move a (second_false _ _ p4.0 t))) (false_if _ _ (λ t. fraction_move a (second_false _ _ p4.1 t))))))

pub portable_move : (before : ℕ) (t : Token) {x y : List ℕ} → SameUpToSplice (last_byte before (bytes_of t)) x y →
    is_alike_on_all t x ≡ true → is_alike_on_all t y ≡ true
portable_move before (QuotedString quote tail) a p = p
portable_move before (QuotedIdentifier tail) a p = p
portable_move before (HashComment tail) a p = p
portable_move before (DashComment gap tail) a p = p
portable_move before (BlockComment tail) a p = p
portable_move before (Name name) a p = p
portable_move before Mark a p = p
portable_move before (Plain b) a p = ap not (plain_move b a (not-true _ p))

-- ---- no `--` and newline meet at a splice

pub empty_move : {before : ℕ} {x y : List ℕ} → SameUpToSplice before x y → (more : List ℕ) → dash ∷ newline ∷ more ≡ y →
    (less : List ℕ) × (dash ∷ newline ∷ less ≡ x)
empty_move at_end more e = cc
empty_move (same at_end) more e = cc
empty_move (same {b = b} (same {b = c} {x = x} a)) more e =
    let p : dash ≡ b = cc in
    let q : newline ≡ c = cc in
    (x, ap (λ u. u ∷ newline ∷ x) p ∙ ap (λ u. b ∷ u ∷ x) q)
empty_move (same {b = b} (at_place {y = y} p l)) more e =
    let q : newline ∷ more ≡ y = cc in
    absurd (true≢false (sym (ap (opens_nothing_after b) q ∙ l)))
empty_move (at_place {before = c} {y = y} p l) more e = absurd (true≢false (sym (ap (opens_nothing_after c) e ∙ l)))
