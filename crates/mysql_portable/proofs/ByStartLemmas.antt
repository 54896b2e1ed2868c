-- The tests of a text with wide names, and of the same text with its names in lower case, find the
-- same.
use Rattle.std.specs.Prelude.{Bool}
use Rattle.std.proofs.Common.{◌≡◌, ℕ, ◌+◌, ◌==◌, ◌&&◌, ◌||◌, not, true, false, List, [], ◌∷◌, ◌++◌, drop, refl, sym, ◌∙◌, subst, inl, inr, true≢false, if◌then◌else◌, Option, Some, None}
use Rattle.std.specs.Str.{byte}
use Rattle.std.proofs.lemmas.Bool.{and_parts, and_right, cases_Bool, or_cases, eqb-true}
use Rattle.mysql_named_params.specs.Bytes.{asterisk, backquote, colon, dash, double_quote, exclamation_mark, hash, plus, single_quote, slash, begins, is_extension, is_start_byte, is_string_quote, IsUpTo, up_to_word, up_to_end}
use Rattle.mysql_named_params.specs.FirstToken.{opens_block_comment}
use Rattle.mysql_portable.specs.ServerTokens.{begins_dashes, begins_exponent_dashes, begins_fraction, begins_own, begins_place, begins_special, begins_tag}
use Rattle.mysql_portable.specs.Quiet.{closes, ends_version, is_quiet, is_version, may_begin_something, stands_apart}
use Rattle.mysql_portable.specs.Portable.{begins_exponent, may_open_line}
use Rattle.mysql_portable.specs.FirstUnportable.{special_construct}
use Rattle.mysql_portable.specs.FrontConstruct.{block_construct}
use Rattle.mysql_portable.specs.declared.portable.Construct.{Construct}
use Rattle.mysql_portable.specs.ByStart.{begins_exponent_by, begins_fraction_by, begins_own_by, begins_place_by, begins_tag_by, block_construct_by, is_quiet_by, may_begin_something_by}

-- a byte with which a text in quotes or a comment begins
abbrev pub is_stop : ℕ → Bool
is_stop b = is_string_quote b || (b == backquote || b == hash)

pub stop_byte : (P : ℕ → Type 0) (b : ℕ) → is_stop b ≡ true → P single_quote → P double_quote → P backquote → P hash → P b
stop_byte P b h p q r s =
    elim (or_cases (is_string_quote b) (b == backquote || b == hash) h) [
      | inl e ↦ elim (or_cases (b == single_quote) (b == double_quote) e) [
        | inl f ↦ subst P (sym (eqb-true b single_quote f)) p
        | inr f ↦ subst P (sym (eqb-true b double_quote f)) q
      ]
      | inr e ↦ elim (or_cases (b == backquote) (b == hash) e) [
        | inl f ↦ subst P (sym (eqb-true b backquote f)) r
        | inr f ↦ subst P (sym (eqb-true b hash f)) s
      ]
    ]

-- The two texts are the same up to a place or to the end of what a test looks at. In the first a
-- name begins with a byte that passes `start`, in the second with one of the grammar.
pub data SameByStart (start : ℕ → Bool) : List ℕ → List ℕ → Type 0 where
  ends : SameByStart start [] []
  same : {b : ℕ} {x y : List ℕ} → (b == colon && begins start x) ≡ false →
      (b == colon && begins is_start_byte y) ≡ false → SameByStart start x y →
      SameByStart start (b ∷ x) (b ∷ y)
  name : {c d : ℕ} {x y : List ℕ} → start c ≡ true → is_start_byte d ≡ true →
      SameByStart start (colon ∷ c ∷ x) (colon ∷ d ∷ y)
  stop : {b : ℕ} {x y : List ℕ} → is_stop b ≡ true → SameByStart start (b ∷ x) (b ∷ y)
  dashes : {gap : ℕ} {x y : List ℕ} → (gap == dash) ≡ false →
      SameByStart start (dash ∷ dash ∷ gap ∷ x) (dash ∷ dash ∷ gap ∷ y)
  block : {x y : List ℕ} → SameByStart start (slash ∷ asterisk ∷ x) (slash ∷ asterisk ∷ y)
  close : {x y : List ℕ} → stands_apart x ≡ stands_apart y →
      SameByStart start (asterisk ∷ slash ∷ x) (asterisk ∷ slash ∷ y)

-- ---- a text whose first bytes decide

no_first : (a : ℕ) (x : List ℕ) → (a == dash) ≡ false → begins_dashes (a ∷ x) ≡ false
no_first a [] e = refl
no_first a (b ∷ []) e = refl
no_first a (b ∷ c ∷ x) e = rw e refl

no_second : (a b : ℕ) (x : List ℕ) → (b == dash) ≡ false → begins_dashes (a ∷ b ∷ x) ≡ false
no_second a b [] e = refl
no_second a b (c ∷ x) e = rw e (and_right (a == dash) false refl)

no_exponent_dashes : (a : ℕ) (x : List ℕ) → (a == dash) ≡ false → (a == plus) ≡ false → begins_exponent_dashes (a ∷ x) ≡ false
no_exponent_dashes a x e f = rw (no_first a x e, e, f) refl

no_line : (a : ℕ) (x : List ℕ) → (a == dash) ≡ false → may_open_line (a ∷ x) ≡ false
no_line a [] e = refl
no_line a (b ∷ x) e = rw e refl

no_exponent : (a : ℕ) (x : List ℕ) → (a == byte "e" || a == byte "E") ≡ false → begins_exponent (a ∷ x) ≡ false
no_exponent a [] e = refl
no_exponent a (b ∷ x) e = rw e refl

no_exponent_by : (start : ℕ → Bool) (a : ℕ) (x : List ℕ) → (a == byte "e" || a == byte "E") ≡ false → begins_exponent_by start (a ∷ x) ≡ false
no_exponent_by start a [] e = refl
no_exponent_by start a (b ∷ x) e = rw e refl

-- as the definitions of the construct of a block put it
abbrev block_of : Bool → Bool → Bool → Construct → Option Construct
block_of a s q c = if a && (s && not q) then Some c else None

both : {x y : Bool} → x ≡ false → y ≡ false → x ≡ y
both e f = e ∙ sym f

-- ---- the tests

module _ (start : ℕ → Bool) where
  pub first : {x y : List ℕ} → SameByStart start x y → (test : ℕ → Bool) → begins test x ≡ begins test y
  first ends test = refl
  first r test = refl

  pub apart : {x y : List ℕ} → SameByStart start x y → stands_apart x ≡ stands_apart y
  apart ends = refl
  apart r = refl

  pub place : {x y : List ℕ} → SameByStart start x y → begins_place_by start x ≡ begins_place y
  place ends = refl
  place (same n m r) = rw (n, m) refl
  place (name h g) = rw (h, g) refl
  place (stop {b = b} {x = x} {y = y} s) = stop_byte (λ b. begins_place_by start (b ∷ x) ≡ begins_place (b ∷ y)) b s refl refl refl refl
  place r = refl

  pub tag : {x y : List ℕ} → SameByStart start x y → begins_tag_by start x ≡ begins_tag y
  tag ends = refl
  tag (same n m r) = rw (n, m, tag r) refl
  tag (name h g) = rw (h, g) refl
  tag (stop {b = b} {x = x} {y = y} s) = stop_byte (λ b. begins_tag_by start (b ∷ x) ≡ begins_tag (b ∷ y)) b s refl refl refl refl
  tag r = refl

  third : {x y : List ℕ} → SameByStart start x y → (a b : ℕ) → begins_dashes (a ∷ b ∷ x) ≡ begins_dashes (a ∷ b ∷ y)
  third ends a b = refl
  third r a b = refl

  stop_dash : (b : ℕ) → is_stop b ≡ true → (b == dash) ≡ false
  stop_dash b s = stop_byte (λ b. (b == dash) ≡ false) b s refl refl refl refl

  stop_plus : (b : ℕ) → is_stop b ≡ true → (b == plus) ≡ false
  stop_plus b s = stop_byte (λ b. (b == plus) ≡ false) b s refl refl refl refl

  stop_letter : (b : ℕ) → is_stop b ≡ true → (b == byte "e" || b == byte "E") ≡ false
  stop_letter b s = stop_byte (λ b. (b == byte "e" || b == byte "E") ≡ false) b s refl refl refl refl

  second : {x y : List ℕ} → SameByStart start x y → (a : ℕ) → begins_dashes (a ∷ x) ≡ begins_dashes (a ∷ y)
  second ends a = refl
  second (same {b = b} n m r) a = third r a b
  second (name h g) a = refl
  second (stop {b = b} {x = x} {y = y} s) a = both (no_second a b x (stop_dash b s)) (no_second a b y (stop_dash b s))
  second (dashes g) a = refl
  second block a = refl
  second (close e) a = refl

  two_dashes : {x y : List ℕ} → SameByStart start x y → begins_dashes x ≡ begins_dashes y
  two_dashes ends = refl
  two_dashes (same {b = b} n m r) = second r b
  two_dashes (name {c = c} {d = d} {x = x} {y = y} h g) = both (no_first colon (c ∷ x) refl) (no_first colon (d ∷ y) refl)
  two_dashes (stop {b = b} {x = x} {y = y} s) = both (no_first b x (stop_dash b s)) (no_first b y (stop_dash b s))
  two_dashes (dashes g) = refl
  two_dashes (block {x = x} {y = y}) = both (no_first slash (asterisk ∷ x) refl) (no_first slash (asterisk ∷ y) refl)
  two_dashes (close {x = x} {y = y} e) = both (no_first asterisk (slash ∷ x) refl) (no_first asterisk (slash ∷ y) refl)

  exponent_dashes : {x y : List ℕ} → SameByStart start x y → begins_exponent_dashes x ≡ begins_exponent_dashes y
  exponent_dashes ends = refl
  exponent_dashes (same {b = b} n m r) = rw (second r b, two_dashes r) refl
  exponent_dashes (name {c = c} {d = d} {x = x} {y = y} h g) = both (no_exponent_dashes colon (c ∷ x) refl refl) (no_exponent_dashes colon (d ∷ y) refl refl)
  exponent_dashes (stop {b = b} {x = x} {y = y} s) = both (no_exponent_dashes b x (stop_dash b s) (stop_plus b s)) (no_exponent_dashes b y (stop_dash b s) (stop_plus b s))
  exponent_dashes (dashes {gap = gap} {x = x} {y = y} g) = rw (no_second dash gap x g, no_second dash gap y g) refl
  exponent_dashes (block {x = x} {y = y}) = both (no_exponent_dashes slash (asterisk ∷ x) refl refl) (no_exponent_dashes slash (asterisk ∷ y) refl refl)
  exponent_dashes (close {x = x} {y = y} e) = both (no_exponent_dashes asterisk (slash ∷ x) refl refl) (no_exponent_dashes asterisk (slash ∷ y) refl refl)

  pub fraction : {x y : List ℕ} → SameByStart start x y → begins_fraction_by start x ≡ begins_fraction y
  fraction ends = refl
  fraction (same n m r) = rw (n, m, fraction r, exponent_dashes r) refl
  fraction (name h g) = rw (h, g) refl
  fraction (stop {b = b} {x = x} {y = y} s) = stop_byte (λ b. begins_fraction_by start (b ∷ x) ≡ begins_fraction (b ∷ y)) b s refl refl refl refl
  fraction r = refl

  exponent_after : {x y : List ℕ} → SameByStart start x y → (a : ℕ) → begins_exponent_by start (a ∷ x) ≡ begins_exponent (a ∷ y)
  exponent_after ends a = refl
  exponent_after (same n m r) a = rw (place r) refl
  exponent_after (name h g) a = refl
  exponent_after (stop {b = b} {x = x} {y = y} s) a = stop_byte (λ b. begins_exponent_by start (a ∷ b ∷ x) ≡ begins_exponent (a ∷ b ∷ y)) b s refl refl refl refl
  exponent_after r a = refl

  pub exponent : {x y : List ℕ} → SameByStart start x y → begins_exponent_by start x ≡ begins_exponent y
  exponent ends = refl
  exponent (same {b = b} n m r) = exponent_after r b
  exponent (name h g) = refl
  exponent (stop {b = b} {x = x} {y = y} s) = both (no_exponent_by start b x (stop_letter b s)) (no_exponent b y (stop_letter b s))
  exponent r = refl

  line_after_dash : {x y : List ℕ} → SameByStart start x y → (a : ℕ) → may_open_line (a ∷ x) ≡ may_open_line (a ∷ y)
  line_after_dash ends a = refl
  line_after_dash r a = refl

  pub line : {x y : List ℕ} → SameByStart start x y → may_open_line x ≡ may_open_line y
  line ends = refl
  line (same {b = b} n m r) = line_after_dash r b
  line (stop {b = b} {x = x} {y = y} s) = both (no_line b x (stop_dash b s)) (no_line b y (stop_dash b s))
  line r = refl

  pub special : {x y : List ℕ} → SameByStart start x y → begins_special x ≡ begins_special y
  special ends = refl
  special (same n m r) = rw (first r (λ c. c == exclamation_mark)) refl
  special (stop {b = b} {x = x} {y = y} s) = stop_byte (λ b. begins_special (b ∷ x) ≡ begins_special (b ∷ y)) b s refl refl refl refl
  special r = refl

  version : (n : ℕ) {x y : List ℕ} → SameByStart start x y → ends_version n x ≡ ends_version n y
  version n ends = refl
  version n (same o m r) = rw (version (n + 1) r, first r (λ c. c == slash)) refl
  version n (stop {b = b} {x = x} {y = y} s) = stop_byte (λ b. ends_version n (b ∷ x) ≡ ends_version n (b ∷ y)) b s refl refl refl refl
  version n r = refl

  a_version : {x y : List ℕ} → SameByStart start x y → is_version x ≡ is_version y
  a_version r = rw (first r (λ c. c == byte "0"), version 0 r) refl

  own : {x y : List ℕ} → SameByStart start x y → (b : ℕ) → begins_own_by start b x ≡ begins_own b y
  own r b = rw (tag r, fraction r) refl

  -- the byte ends a comment before a byte that doesn't stand apart
  abbrev Closing : ℕ → List ℕ → Bool
  Closing b x = closes b x && not (stands_apart (drop 1 x))

  no_closing : (b c : ℕ) (x : List ℕ) → (c == slash) ≡ false → Closing b (c ∷ x) ≡ false
  no_closing b c x e = rw (e, and_right (b == asterisk) false refl) refl

  closing : {x y : List ℕ} → SameByStart start x y → (b : ℕ) → Closing b x ≡ Closing b y
  closing ends b = refl
  closing (same n m r) b = rw (apart r) refl
  closing (name {c = c} {d = d} {x = x} {y = y} h g) b = both (no_closing b colon (c ∷ x) refl) (no_closing b colon (d ∷ y) refl)
  closing (stop {b = c} {x = x} {y = y} s) b =
      let no = stop_byte (λ b. (b == slash) ≡ false) c s refl refl refl refl in
      both (no_closing b c x no) (no_closing b c y no)
  closing r b = refl

  something : (b : ℕ) {x y : List ℕ} → (b == colon && begins start x) ≡ false → (b == colon && begins is_start_byte y) ≡ false →
      SameByStart start x y → may_begin_something_by start b x ≡ may_begin_something b y
  something b n m r = rw (first r (λ c. c == asterisk), n, m, tag r, fraction r, closing r b, a_version r) refl

  pub quiet : {x y : List ℕ} → SameByStart start x y → is_quiet_by start x ≡ is_quiet y
  quiet ends = refl
  quiet (same {b = b} n m r) = rw (something b n m r, first r (λ c. c == slash), quiet r) refl
  quiet (name h g) = rw (h, g) refl
  quiet (stop {b = b} {x = x} {y = y} s) = stop_byte (λ b. is_quiet_by start (b ∷ x) ≡ is_quiet (b ∷ y)) b s refl refl refl refl
  quiet (dashes g) = refl
  quiet block = refl
  quiet (close e) = rw e refl

  -- the construct that a plain `/` opens
  pub plain_block : {x y : List ℕ} → SameByStart start x y → opens_block_comment x ≡ false →
      block_construct_by start x ≡ block_construct y
  plain_block ends o = refl
  plain_block (same {b = b} {x = x} {y = y} n m r) o = go (begins is_extension x) refl (b == asterisk) o
    where
      go : (p : Bool) → begins is_extension x ≡ p → (a : Bool) → (a && not (begins is_extension x)) ≡ false →
          block_of a (begins_special x) (if begins is_extension x then is_quiet_by start x else is_quiet x) (special_construct x)
          ≡ block_of a (begins_special y) (is_quiet y) (special_construct y)
      go p e false o = refl
      go true e true o = rw (e, special r, quiet r, first r (λ c. c == exclamation_mark), first r (λ c. c == plus)) refl
      go false e true o = absurd (true≢false (rw e at o))
  plain_block (stop {b = b} {x = x} {y = y} s) o = stop_byte (λ b. block_construct_by start (b ∷ x) ≡ block_construct (b ∷ y)) b s refl refl refl refl
  plain_block r o = refl

-- ---- one text, and texts after the end of a comment

pub same_text : (z : List ℕ) → SameByStart is_start_byte z z
same_text [] = ends
same_text (b ∷ []) = same (and_right (b == colon) false refl) (and_right (b == colon) false refl) ends
same_text (b ∷ c ∷ z) = elim (cases_Bool (b == colon && is_start_byte c)) [
  | inl h ↦
      let p = and_parts (b == colon) (is_start_byte c) h in
      subst (λ k. SameByStart is_start_byte (k ∷ c ∷ z) (k ∷ c ∷ z)) (sym (eqb-true b colon p.0)) (name p.1 p.1)
  | inr h ↦ same h h (same_text (c ∷ z))
]

same_comment : (body x y : List ℕ) → stands_apart x ≡ stands_apart y →
    SameByStart is_start_byte ((body ++ asterisk ∷ slash ∷ []) ++ x) ((body ++ asterisk ∷ slash ∷ []) ++ y)
same_comment [] x y e = close e
same_comment (b ∷ []) x y e = same (and_right (b == colon) false refl) (and_right (b == colon) false refl) (same_comment [] x y e)
same_comment (b ∷ c ∷ body) x y e = elim (cases_Bool (b == colon && is_start_byte c)) [
  | inl h ↦
      let p = and_parts (b == colon) (is_start_byte c) h in
      subst (λ k. SameByStart is_start_byte (k ∷ c ∷ ((body ++ asterisk ∷ slash ∷ []) ++ x)) (k ∷ c ∷ ((body ++ asterisk ∷ slash ∷ []) ++ y))) (sym (eqb-true b colon p.0)) (name p.1 p.1)
  | inr h ↦ same h h (same_comment (c ∷ body) x y e)
]

-- the construct of a comment before one rest is that before the other
pub comment_block : (start : ℕ → Bool) (tail x y : List ℕ) → SameByStart start x y → IsUpTo (asterisk ∷ slash ∷ []) tail x →
    begins is_extension (tail ++ x) ≡ false →
    block_construct_by start (asterisk ∷ (tail ++ x)) ≡ block_construct (asterisk ∷ (tail ++ y))
comment_block start tail x y r u e = rw (e, same_special, same_quiet, first is_start_byte both_texts (λ c. c == exclamation_mark), first is_start_byte both_texts (λ c. c == plus)) refl
  where
    nothing : {x y : List ℕ} → SameByStart start x y → x ≡ [] → y ≡ []
    nothing ends e = refl
    nothing r e = cc

    texts : IsUpTo (asterisk ∷ slash ∷ []) tail x → SameByStart is_start_byte (tail ++ x) (tail ++ y)
    texts (up_to_word body is only) = subst (λ z. SameByStart is_start_byte (z ++ x) (z ++ y)) is (same_comment body x y (apart start r))
    texts (up_to_end lacks nil) =
        subst (λ z. SameByStart is_start_byte (tail ++ x) (tail ++ z)) (nil ∙ sym (nothing r nil)) (same_text (tail ++ x))

    both_texts : SameByStart is_start_byte (tail ++ x) (tail ++ y)
    both_texts = texts u

    same_special : begins_special (tail ++ x) ≡ begins_special (tail ++ y)
    same_special = special is_start_byte both_texts

    same_quiet : is_quiet (tail ++ x) ≡ is_quiet (tail ++ y)
    same_quiet = sym (quiet is_start_byte (same_text (tail ++ x))) ∙ quiet is_start_byte both_texts
