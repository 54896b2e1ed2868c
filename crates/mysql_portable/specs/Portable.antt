-- Portable queries: every honest server reads them like the grammar (the laws `portable_reading`
-- and `portable_is_sharp`). As a further condition, no place is directly after the sign of a
-- number's exponent, since a value's digits would join the number.
use Rattle.std.specs.Prelude.{ℕ, IsTrue, IsFalse, Bool, true, false, not, ◌==◌, ◌&&◌, ◌||◌, List, [], ◌∷◌, ◌++◌, ⊤}
use Rattle.std.specs.Char.{is_ascii_digit}
use Rattle.std.specs.Str.{byte}
use Rattle.mysql_named_params.specs.Bytes.{asterisk, dash, double_quote, newline, plus, slash, space, begins, point}
use Rattle.mysql_named_params.specs.Tokens.{Token, text_of, text_then, QuotedString, QuotedIdentifier, HashComment, DashComment, BlockComment, Plain}
use Rattle.mysql_portable.specs.ServerTokens.{keeps_dashes, begins_special, begins_own, begins_place, holds_return, escapes_backquote}
use Rattle.mysql_portable.specs.Quiet.{IsQuietComment, is_quiet, begins_quiet, plain_then}

-- the byte is among the bytes before the last one
abbrev pub stands_inside : ℕ → List ℕ → Bool
stands_inside q [] = false
stands_inside q (b ∷ []) = false
stands_inside q (b ∷ c ∷ bs) = b == q || stands_inside q (c ∷ bs)

-- after a `-`: another one, and a byte before which only some servers open a comment
abbrev pub may_open_line : List ℕ → Bool
may_open_line [] = false
may_open_line (b ∷ []) = false
may_open_line (b ∷ gap ∷ bs) =
    b == dash && not (gap == space || (gap == newline || keeps_dashes gap))

-- this plain byte, before this text, begins a construct that servers read in different ways
abbrev pub differs_at : ℕ → List ℕ → Bool
differs_at b rest =
    (b == slash && begins (λ c. c == asterisk) rest)
    || ((b == dash && may_open_line rest) || begins_own b rest)

-- Every honest server ends this token, before this text, at the index at which the grammar ends it.
-- Or it is a quiet comment, or its `/` begins one.
abbrev pub is_read_alike : Token → List ℕ → Bool
is_read_alike (QuotedString quote tail) rest =
    not (quote == double_quote && stands_inside quote tail)
is_read_alike (QuotedIdentifier tail) rest = not (escapes_backquote tail)
is_read_alike (HashComment tail) rest = not (holds_return tail)
is_read_alike (DashComment gap tail) rest = gap == space && not (holds_return tail)
is_read_alike (BlockComment tail) rest = not (begins_special tail) || is_quiet (tail ++ rest)
is_read_alike (Plain b) rest = not (differs_at b rest) || (b == slash && begins_quiet rest)
is_read_alike t rest = true

-- each of the tokens passes `is_read_alike`, before a rest
abbrev pub AreReadAlikeBefore : List ℕ → List Token → Type 0
AreReadAlikeBefore rest [] = ⊤
AreReadAlikeBefore rest (t ∷ ts) =
    IsTrue (is_read_alike t (text_then rest ts)) × AreReadAlikeBefore rest ts

-- each of the tokens of a query passes `is_read_alike`
abbrev pub AreReadAlike : List Token → Type 0
AreReadAlike = AreReadAlikeBefore []

-- the text begins with `e` or `E`, then `+` or `-`, and then a place
abbrev pub begins_exponent : List ℕ → Bool
begins_exponent [] = false
begins_exponent (e ∷ []) = false
begins_exponent (e ∷ sign ∷ bs) =
    (e == byte "e" || e == byte "E") && ((sign == plus || sign == dash) && begins_place bs)

-- A digit or a point before such a text, such as in `1e+?` or `1.5E-:a`. The test finds more than
-- needed: the digit of `x1e+?` and the point of `t.e+?` belong to no number.
abbrev pub joins_number : Token → List ℕ → Bool
joins_number (Plain b) rest = (is_ascii_digit b || b == point) && begins_exponent rest
joins_number t rest = false

-- no place is directly after an exponent's sign, if `rest` follows the tokens
abbrev pub JoinNoNumberBefore : List ℕ → List Token → Type 0
JoinNoNumberBefore rest [] = ⊤
JoinNoNumberBefore rest (t ∷ ts) =
    IsFalse (joins_number t (text_then rest ts)) × JoinNoNumberBefore rest ts

-- no place of a query is directly after an exponent's sign
abbrev pub JoinNoNumber : List Token → Type 0
JoinNoNumber = JoinNoNumberBefore []

-- the query of these tokens is portable
pub record IsPortable (ts : List Token) : Type 0 where
  -- every honest server reads it like the grammar
  pub alike : AreReadAlike ts
  -- no value's digits join a number of the query
  pub apart : JoinNoNumber ts

-- The tokens of the grammar, and those of an honest server. On the server, `--` before a newline
-- may be one comment. A quiet comment may be one comment or plain bytes in either.
pub data IsReadAs : List Token → List Token → Type 0 where
  read_all : IsReadAs [] []
  read_same : {t : Token} {ts us : List Token} → IsReadAs ts us →
      IsReadAs (t ∷ ts) (t ∷ us)
  read_empty_comment : {ts us : List Token} → IsReadAs ts us →
      IsReadAs (Plain dash ∷ Plain dash ∷ Plain newline ∷ ts) (DashComment newline [] ∷ us)
  -- the server skips a comment that the grammar reads
  read_skipped : {ts us : List Token} (tail : List ℕ) → IsQuietComment tail (text_of ts) →
      IsReadAs ts us →
      IsReadAs (Plain slash ∷ Plain asterisk ∷ plain_then ts tail) (BlockComment tail ∷ us)
  -- the server reads a comment that the grammar skips
  read_executed : {ts us : List Token} (tail : List ℕ) → IsQuietComment tail (text_of ts) →
      IsReadAs ts us →
      IsReadAs (BlockComment tail ∷ ts) (Plain slash ∷ Plain asterisk ∷ plain_then us tail)
