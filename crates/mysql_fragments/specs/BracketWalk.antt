-- What the walk of `first_unbracketed` keeps of the tokens before a place. For private functions of
-- `brackets.rt`; no public contract cites it.
use Rattle.std.specs.Prelude.{◌+◌, ◌==◌, ◌&&◌, ◌||◌, not, nat_lt, ℕ, Bool, true, false, List, [], ◌∷◌, if◌then◌else◌, get_or, codes, length}
use Rattle.std.specs.Char.{to_ascii_lowercase}
use Rattle.std.specs.Str.{byte}
use Rattle.mysql_named_params.specs.Bytes.{dash, exclamation_mark, hash, slash, is_white_space}
use Rattle.mysql_named_params.specs.Tokens.{Token, HashComment, DashComment, BlockComment, Plain}
use Rattle.mysql_fragments.specs.Brackets.{closes, is_comparison, is_separator, is_word_byte, may_execute}
use Rattle.mysql_fragments.specs.declared.brackets.Implicit.{Implicit}
use Rattle.mysql_fragments.specs.declared.brackets.Implicit.TheVariants.{No, List as AList, Rows}
use Rattle.mysql_fragments.specs.declared.brackets.Seen.{Seen}

-- the first token of this text, of this length, is a gap
abbrev pub is_gap_at : (text : List ℕ) → (len : ℕ) → Bool
is_gap_at text len =
    is_white_space (get_or text 0 0) || get_or text 0 0 == hash
    || (get_or text 0 0 == dash && nat_lt 1 len)
    || (get_or text 0 0 == slash && nat_lt 1 len && not (get_or text 3 0 == exclamation_mark))

-- how many letters of this word the text ends in with this byte in lower case, if it was so many;
-- one more than the word has if it is another word
abbrev pub next_letters : List ℕ → (letters lower : ℕ) → ℕ
next_letters word letters lower =
    if nat_lt letters (length word) && lower == get_or word letters 0 then letters + 1
    else length word + 1

-- the text ends in VALUES, or in VALUE behind `)`
abbrev pub has_values : Seen → Bool
has_values seen =
    seen.values_letters == 6 || (seen.values_letters == 5 && seen.word_after_close)

-- a row may begin after what was seen
abbrev pub may_begin_row_seen : Seen → Bool
may_begin_row_seen seen = seen.row_sign || has_values seen

-- a bracket after what was seen may hold a list
abbrev pub may_open_seen : Seen → Bool
may_open_seen seen =
    seen.row_sign
    || (seen.in_letters == 2 || (seen.row_letters == 3 && seen.word_begins_row)
    || has_values seen)

-- after a gap
abbrev pub past_gap : Seen → Seen
past_gap seen = record seen { ended = true }

-- after a token that is no gap and no byte of a word
abbrev pub past_sign : (opened closed row_sign : Bool) → Seen
past_sign opened closed row_sign = record {
  opened = opened;
  closed = closed;
  row_sign = row_sign;
  ended = true;
  word_after_close = closed;
  word_begins_row = row_sign;
  in_letters = 0;
  row_letters = 0;
  values_letters = 0;
}

-- after a byte of a word, in lower case
abbrev pub past_letter : Seen → ℕ → Seen
past_letter seen lower = record {
  opened = false;
  closed = false;
  row_sign = false;
  ended = false;
  word_after_close = if seen.ended then seen.closed else seen.word_after_close;
  word_begins_row = if seen.ended then may_begin_row_seen seen else seen.word_begins_row;
  in_letters = next_letters (codes "in") (if seen.ended then 0 else seen.in_letters) lower;
  row_letters = next_letters (codes "row") (if seen.ended then 0 else seen.row_letters) lower;
  values_letters =
      next_letters (codes "values") (if seen.ended then 0 else seen.values_letters) lower;
}

-- after a plain byte that is no gap and no byte of a word
abbrev pub past_other : Seen → ℕ → Seen
past_other seen b =
    past_sign (b == byte "(" && may_open_seen seen) (b == byte ")")
    (is_separator b || (is_comparison b && (seen.closed || seen.row_sign)))

-- after a plain byte that is no gap
abbrev pub past_byte : Seen → ℕ → Seen
past_byte seen b =
    if is_word_byte b then past_letter seen (to_ascii_lowercase b) else past_other seen b

-- after the first token of this text, of this length
abbrev pub past_first : Seen → (text : List ℕ) → (len : ℕ) → Seen
past_first seen text len =
    if is_gap_at text len then past_gap seen else past_byte seen (get_or text 0 0)

-- after a token
abbrev pub past_token : Seen → Token → Seen
past_token seen (HashComment tail) = past_gap seen
past_token seen (DashComment gap tail) = past_gap seen
past_token seen (BlockComment tail) =
    if not (may_execute tail) then past_gap seen else past_sign false false false
past_token seen (Plain b) = if is_white_space b then past_gap seen else past_byte seen b
past_token seen t = past_sign false false false

-- after tokens
abbrev pub past_tokens : Seen → List Token → Seen
past_tokens seen [] = seen
past_tokens seen (t ∷ ts) = past_tokens (past_token seen t) ts

-- whether the fragment may stand after what was seen, before these tokens
abbrev pub may_stand_seen : Implicit → Seen → List Token → Bool
may_stand_seen No seen after = true
may_stand_seen AList seen after = seen.opened && closes after
may_stand_seen Rows seen after = has_values seen || (seen.opened && closes after)
