-- The places that stand alone between brackets that may hold a list, or directly after VALUES or
-- VALUE. Only there may a list or rows stand that the program didn't say are such. A bracket may
-- hold a list after IN or VALUES, after `,` or `(`, after the comparison of a row, as in
-- `(a, b) = (:pair)`, after VALUE behind the columns, as in `t (a, b) VALUE (:row)`, and after ROW
-- where a row may begin. VALUE and ROW can name a routine too, so the bracket of `CALL value(:a)`
-- may not. Where `before` has the tokens before a place or a bracket, it has the last of them
-- first.
use Rattle.std.specs.Prelude.{◌≡◌, ◌++◌, ◌+◌, ◌==◌, ◌&&◌, ◌||◌, not, nat_le, ℕ, Bool, true, false, List, [], ◌∷◌, if◌then◌else◌, get_or, length, codes, reverse, Option, Some, None}
use Rattle.std.specs.Char.{to_ascii_lowercase}
use Rattle.std.specs.Str.{byte, bytes_eq}
use Rattle.mysql_named_params.specs.Bytes.{dollar, exclamation_mark, is_white_space}
use Rattle.mysql_named_params.specs.Places.{IsPlace, place_count}
use Rattle.mysql_named_params.specs.Tokens.{Token, bytes_of, text_of, HashComment, DashComment, BlockComment, Name, Mark, Plain}
use Rattle.mysql_named_params.specs.WideNames.{is_wide_byte}
use Rattle.mysql_fragments.specs.declared.brackets.Implicit.{Implicit}
use Rattle.mysql_fragments.specs.declared.brackets.Implicit.TheVariants.{No, List as AList, Rows}

-- what is known of the fragment for each place, by the place's number
abbrev pub Kinds : Type 0
Kinds = ℕ → Implicit

-- a server may execute the comment with these bytes after `/*`: MariaDB executes `/*M! .. */`
abbrev pub may_execute : List ℕ → Bool
may_execute tail = get_or tail 1 0 == exclamation_mark

-- the token is white space or a comment; what a server may execute, as `/*! .. */`, is none
abbrev pub is_gap : Token → Bool
is_gap (HashComment tail) = true
is_gap (DashComment gap tail) = true
is_gap (BlockComment tail) = not (may_execute tail)
is_gap (Plain b) = is_white_space b
is_gap t = false

-- the tokens from the first that is no gap on
abbrev pub past_gaps : List Token → List Token
past_gaps [] = []
past_gaps (t ∷ ts) = if is_gap t then past_gaps ts else t ∷ ts

-- A byte of a word: a letter, a digit, `_`, `$`, one outside ASCII, a point or `@`. So a name after
-- a point, as in `db.in`, and a variable, as `@in`, are other words than IN.
abbrev pub is_word_byte : ℕ → Bool
is_word_byte b = is_wide_byte b || b == dollar || nat_le 128 b || b == byte "." || b == byte "@"

-- the word that the text before ends in, its last byte first, in lower case
abbrev pub last_word : List Token → List ℕ
last_word (Plain b ∷ before) =
    if is_word_byte b then to_ascii_lowercase b ∷ last_word before else []
last_word before = []

-- the tokens before that word
abbrev pub before_word : List Token → List Token
before_word (Plain b ∷ before) = if is_word_byte b then before_word before else Plain b ∷ before
before_word before = before

-- the text before ends in this word, in any case
abbrev pub ends_in : List ℕ → List Token → Bool
ends_in word before = bytes_eq (last_word before) (reverse word)

-- the first token is this sign
abbrev pub begins_at : ℕ → List Token → Bool
begins_at sign (Plain b ∷ ts) = b == sign
begins_at sign ts = false

-- apart from gaps, the token before, or the token after, is `)`
abbrev pub closes : List Token → Bool
closes ts = begins_at (byte ")") (past_gaps ts)

-- a sign behind which `(` begins a row or another bracket, and no call
abbrev pub is_separator : ℕ → Bool
is_separator b = b == byte "(" || b == byte ","

-- a sign of a comparison
abbrev pub is_comparison : ℕ → Bool
is_comparison b = b == byte "=" || b == byte "<" || b == byte ">" || b == byte "!"

-- apart from gaps, the text before ends in such a sign, or in a comparison behind `)`
abbrev pub follows_row_sign : List Token → Bool
follows_row_sign [] = false
follows_row_sign (Plain b ∷ before) =
    if is_white_space b then follows_row_sign before
    else is_separator b || (is_comparison b && (closes before || follows_row_sign before))
follows_row_sign (t ∷ before) = is_gap t && follows_row_sign before

-- the text before ends in VALUES, or in VALUE behind `)`
abbrev pub ends_in_values : List Token → Bool
ends_in_values before =
    ends_in (codes "values") before
    || (ends_in (codes "value") before && closes (before_word before))

-- the same apart from gaps
abbrev pub follows_values : List Token → Bool
follows_values before = ends_in_values (past_gaps before)

-- a row may begin after these tokens
abbrev pub may_begin_row : List Token → Bool
may_begin_row before = follows_row_sign before || follows_values before

-- the text before ends in IN, in ROW where a row may begin, or as `ends_in_values` says
abbrev pub ends_in_list_word : List Token → Bool
ends_in_list_word before =
    ends_in (codes "in") before
    || (ends_in (codes "row") before && may_begin_row (before_word before))
    || ends_in_values before

-- a bracket after these tokens may hold a list
abbrev pub may_open : List Token → Bool
may_open before = follows_row_sign before || ends_in_list_word (past_gaps before)

-- the last token is a bracket that may hold a list
abbrev pub is_open : List Token → Bool
is_open (Plain b ∷ before) = b == byte "(" && may_open before
is_open before = false

-- apart from gaps, the token before is a bracket that may hold a list
abbrev pub opens : List Token → Bool
opens before = is_open (past_gaps before)

-- a place between these tokens is all that stands between two brackets that may hold a list
abbrev pub stands_in_brackets : (before after : List Token) → Bool
stands_in_brackets before after = opens before && closes after

-- a fragment may stand between these tokens: any that the program said, a list alone between
-- brackets, and rows there or where `follows_values` holds
abbrev pub may_stand : Implicit → (before after : List Token) → Bool
may_stand No before after = true
may_stand AList before after = stands_in_brackets before after
may_stand Rows before after = follows_values before || stands_in_brackets before after

-- number and position of the first place that may not have its fragment, if `place` places and `at`
-- bytes come before these tokens
abbrev pub first_unbracketed_from : Kinds → (place at : ℕ) → (before ts : List Token) →
    Option (ℕ × ℕ)
first_unbracketed_from kinds place at before [] = None
first_unbracketed_from kinds place at before (Name name ∷ ts) =
    if may_stand (kinds place) before ts
    then first_unbracketed_from kinds (place + 1) (at + length (bytes_of (Name name)))
    (Name name ∷ before) ts
    else Some (place, at)
first_unbracketed_from kinds place at before (Mark ∷ ts) =
    if may_stand (kinds place) before ts
    then first_unbracketed_from kinds (place + 1) (at + length (bytes_of Mark)) (Mark ∷ before) ts
    else Some (place, at)
first_unbracketed_from kinds place at before (t ∷ ts) =
    first_unbracketed_from kinds place (at + length (bytes_of t)) (t ∷ before) ts

-- number and position of the first place of a query that may not have its fragment
abbrev pub first_unbracketed : Kinds → List Token → Option (ℕ × ℕ)
first_unbracketed kinds = first_unbracketed_from kinds 0 0 []

-- these tokens, the last of them first, before others
abbrev pub onto : List Token → List Token → List Token
onto [] before = before
onto (t ∷ ts) before = onto ts (t ∷ before)

-- the place of this number, at this position, may not have its fragment
pub record IsUnbracketed (kinds : Kinds) (ts : List Token) (place at : ℕ) : Type 0 where
  -- the tokens before it, the place itself, and the tokens after it
  pub front : List Token
  pub found : Token
  pub back : List Token
  pub split : front ++ found ∷ back ≡ ts
  pub is_place : IsPlace found
  pub number : place_count front ≡ place
  pub position : length (text_of front) ≡ at
  pub may_not : may_stand (kinds place) (onto front []) back ≡ false

-- each place may have its fragment
abbrev pub AllMayStand : Kinds → List Token → Type 0
AllMayStand kinds ts = (front : List Token) (t : Token) (back : List Token) →
    front ++ t ∷ back ≡ ts → IsPlace t →
    may_stand (kinds (place_count front)) (onto front []) back ≡ true
