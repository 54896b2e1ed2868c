-- A server, by the points in which servers read queries differently from the grammar of
-- Tokens.antt, and the tokens of a query on it. A server is data without laws: each point is used
-- only where servers may differ, so every record is a server, even one that no one has built. The
-- points:
--   `/*!`, `/*+`    MySQL Reference Manual, "Comments" and "Optimizer Hints"
--   `/*M!`          MariaDB Knowledge Base, "Comment Syntax"
--   `--`            MySQL Reference Manual, "'--' as the Start of a Comment"; at the very end of a
--                   text all read two plain bytes, although MySQL and MariaDB read an empty comment
--   `"`             MySQL Reference Manual, "Server SQL Modes" (ANSI_QUOTES)
--   `[`             MariaDB Knowledge Base, "SQL_MODE=MSSQL"
--   `$$`, `$tag$`   MySQL Reference Manual 9, "JavaScript Stored Programs" (dollar-quoted text)
--   `1.e--`         MySQL Reference Manual, "Numeric Literals" (an exponent has digits)
--   CR, `--`, `\`   the ends of comments and identifiers to MariaDB's InnoDB, which reads an
--                   `ALTER TABLE` again (MariaDB 10.11, `storage/innobase/dict/dict0dict.cc`): a
--                   carriage return ends a comment of one line, `--` begins one only before a
--                   space, and a backslash escapes in backquotes
-- A point depends only on the text after the construct. MySQL also looks at the text before it:
-- `/*+` is a hint only after some words, and `$$` within a name opens nothing. So for each text
-- MySQL is one of these servers, since no two places of a text have the same text after them. But
-- none of them is MySQL for all texts. InnoDB is one of them with backslash escapes, up to a byte
-- 0, where it stops. No server here has the following readings. MySQL and MariaDB cut off `;` and
-- white space at the end of a text before they read it, so that `--` before them opens a comment;
-- no value is in this comment. TiDB executes `/*T! .. */`. And MySQL and MariaDB refuse each text
-- in which one of them reads a quote, `#` or a byte of `/*` or `*/` as a plain byte: after `1.e`,
-- after a backslash outside of quotes, after `@@`.
use Rattle.std.specs.Prelude.{◌≡◌, ◌≢◌, ℕ, IsTrue, IsFalse, Bool, false, not, ◌==◌, ◌&&◌, ◌||◌, nat_le, if◌then◌else◌, List, [], ◌∷◌, ◌++◌, take, Option, Some, None, ⊤}
use Rattle.std.specs.Char.{is_ascii_digit}
use Rattle.std.specs.Str.{byte}
use Rattle.mysql_named_params.specs.Bytes.{asterisk, backquote, carriage_return, colon, dash, double_quote, exclamation_mark, newline, plus, question_mark, slash, space, is_name_byte, is_start_byte, is_string_quote, is_extension, begins, IsUpTo, bracket, dollar, point}
use Rattle.mysql_named_params.specs.Tokens.{Token, bytes_of, text_of, IsStringTail, IsName, QuotedString, QuotedIdentifier, HashComment, DashComment, BlockComment, Name, Mark, Plain}

-- Before this byte `--` is two plain bytes on every server: printable ASCII except the space and
-- `/`. A server may leave out the comment that the `/` begins, and read the text again. Then `--`
-- is before the text after the comment, as in `5 --/*!99999 x*/ 'a'`.
abbrev pub keeps_dashes : ℕ → Bool
keeps_dashes b = nat_le 33 b && (nat_le b 126 && not (b == slash))

-- after `/*`: `!`, `+` or `M!`, which make it a comment, a hint or a text that is executed
abbrev pub begins_special : List ℕ → Bool
begins_special [] = false
begins_special (b ∷ bs) =
    is_extension b || (b == byte "M" && begins (λ c. c == exclamation_mark) bs)

-- a byte of an identifier other than `$`
abbrev pub is_tag_byte : ℕ → Bool
is_tag_byte b = is_name_byte b || ((nat_le (byte "A") b && nat_le b (byte "Z")) || nat_le 128 b)

-- `?`, or `:` and a start byte
abbrev pub begins_place : List ℕ → Bool
begins_place [] = false
begins_place (b ∷ bs) = b == question_mark || (b == colon && begins is_start_byte bs)

-- after `$`: the rest of `$$` or `$tag$`, or a place, whose value may complete one
abbrev pub begins_tag : List ℕ → Bool
begins_tag [] = false
begins_tag (b ∷ bs) =
    b == dollar || (begins_place (b ∷ bs) || (is_tag_byte b && begins_tag bs))

-- two dashes before a byte that doesn't keep them plain
abbrev pub begins_dashes : List ℕ → Bool
begins_dashes [] = false
begins_dashes (a ∷ []) = false
begins_dashes (a ∷ b ∷ []) = false
begins_dashes (a ∷ b ∷ gap ∷ bs) = a == dash && (b == dash && not (keeps_dashes gap))

-- after an exponent's `e`: such dashes, or a sign and such dashes
abbrev pub begins_exponent_dashes : List ℕ → Bool
begins_exponent_dashes [] = false
begins_exponent_dashes (a ∷ bs) =
    begins_dashes (a ∷ bs) || ((a == plus || a == dash) && begins_dashes bs)

-- after `.`: digits, `e` and such dashes, or digits and a place, whose value may have digits
abbrev pub begins_fraction : List ℕ → Bool
begins_fraction [] = false
begins_fraction (b ∷ bs) =
    begins_place (b ∷ bs)
    || ((is_ascii_digit b && begins_fraction bs)
    || ((b == byte "e" || b == byte "E") && begins_exponent_dashes bs))

-- Some server may read a text of its own from this byte on, which opens nothing in the grammar. `[`
-- opens an identifier, and `$$` and `$tag$` a string. In a number with `.e--`, MySQL's lexer takes
-- the first dash for the exponent's sign, so the second opens no comment. No known server takes one
-- byte more after a sign, in `.e+--` or `.e---`; these two are included to be safe.
abbrev pub begins_own : ℕ → List ℕ → Bool
begins_own b bs =
    b == bracket || ((b == dollar && begins_tag bs) || (b == point && begins_fraction bs))

-- up to its first newline, the text has a carriage return that isn't directly before the newline
abbrev pub holds_return : List ℕ → Bool
holds_return [] = false
holds_return (b ∷ bs) =
    not (b == newline)
    && ((b == carriage_return && not (begins (λ c. c == newline) bs)) || holds_return bs)

-- a backslash is directly before the first backquote of the text
abbrev pub escapes_backquote : List ℕ → Bool
escapes_backquote [] = false
escapes_backquote (b ∷ bs) =
    not (b == backquote)
    && ((b == byte "\\" && begins (λ c. c == backquote) bs) || escapes_backquote bs)

-- how a server reads `/*` and the text after it
pub data Block : Type 0 where
  -- the `/` is a plain byte, and the text after it is read
  executed : Block
  -- a comment up to `*/`
  comment : Block
  -- a comment of this many bytes after `/*`: nested, or skipped by a version
  comment_of : ℕ → Block

-- a server
pub record Server : Type 0 where
  -- how it reads `/*` and the text after it; used only if the text begins with `!`, `+` or `M!`
  pub special : List ℕ → Block
  -- The number of bytes after this byte that belong to its token, a closing quote among them.
  -- `None`: it is a plain byte. Used only if `begins_own`.
  pub quotes : ℕ → List ℕ → Option ℕ
  -- The bytes before which `--` opens a comment, besides the space, before which it always does.
  -- Used only for the newline, with which the comment is empty, and for bytes that don't keep
  -- dashes plain.
  pub also_opens : ℕ → Bool
  -- The number of bytes that belong to a comment of one line, after `#` or after `--` and a byte.
  -- `None`: those up to the newline. Used only if `holds_return`.
  pub lines : List ℕ → Option ℕ
  -- The number of bytes after a backquote that belong to the identifier. `None`: those up to the
  -- next backquote. Used only if `escapes_backquote`.
  pub identifiers : List ℕ → Option ℕ
  -- whether `"` opens an identifier, in which nothing escapes
  pub ansi_quotes : Bool

-- `--` before this byte opens a comment on the server
abbrev pub opens_line : Server → ℕ → Bool
opens_line server b = b == space || (not (keeps_dashes b) && server.also_opens b)

-- the number of bytes of a comment of one line on the server, if it doesn't end at the newline
abbrev pub line_on : Server → List ℕ → Option ℕ
line_on server text = if holds_return text then server.lines text else None

-- the number of bytes of an identifier on the server, if it doesn't end at the next backquote
abbrev pub identifier_on : Server → List ℕ → Option ℕ
identifier_on server text = if escapes_backquote text then server.identifiers text else None

-- the mode in which a text in these quotes is read: that of strings, or the one without escapes
abbrev pub reads_in : Server → Bool → ℕ → Bool
reads_in server mode quote = mode || (server.ansi_quotes && quote == double_quote)

-- how the server reads `/*` and the text after it
abbrev pub block_on : Server → List ℕ → Block
block_on server text = if begins_special text then server.special text else comment

-- the bytes after `/*` in a comment, before a rest
pub data IsBlockTail (server : Server) (tail rest : List ℕ) : Type 0 where
  -- up to `*/`
  usual_block : block_on server (tail ++ rest) ≡ comment →
      IsUpTo (asterisk ∷ slash ∷ []) tail rest → IsBlockTail server tail rest
  -- up to the server's own end
  own_block : (n : ℕ) → block_on server (tail ++ rest) ≡ comment_of n →
      take n (tail ++ rest) ≡ tail → IsBlockTail server tail rest

-- the bytes after the sign that opens a token, before a rest, by the server's own number of them
pub data IsTailBy (own : Option ℕ) (end : ℕ) (tail rest : List ℕ) : Type 0 where
  -- up to the grammar's end
  usual_end : own ≡ None → IsUpTo (end ∷ []) tail rest → IsTailBy own end tail rest
  -- up to the server's own end
  own_end : (n : ℕ) → own ≡ Some n → take n (tail ++ rest) ≡ tail → IsTailBy own end tail rest

-- the bytes after `--` and this byte in a comment, before a rest
pub data IsDashTail (server : Server) (gap : ℕ) (tail rest : List ℕ) : Type 0 where
  -- none, since the byte is a newline
  ended_tail : gap ≡ newline → tail ≡ [] → IsDashTail server gap tail rest
  -- those of a comment of one line
  open_tail : gap ≢ newline → IsTailBy (line_on server (tail ++ rest)) newline tail rest →
      IsDashTail server gap tail rest

-- the bytes after this byte, which opens a text in quotes, before a rest
pub data IsQuotedTail (server : Server) (mode : Bool) (quote : ℕ) (tail rest : List ℕ)
    : Type 0 where
  -- in the quotes of the grammar
  usual_quotes : IsTrue (is_string_quote quote) →
      IsStringTail (reads_in server mode quote) quote tail rest →
      IsQuotedTail server mode quote tail rest
  -- in the server's own quotes
  own_quotes : (n : ℕ) → IsTrue (begins_own quote (tail ++ rest)) →
      server.quotes quote (tail ++ rest) ≡ Some n → take n (tail ++ rest) ≡ tail →
      IsQuotedTail server mode quote tail rest

-- a token other than a plain byte on the server, before a rest
abbrev pub IsNotPlainOn : Server → Bool → Token → List ℕ → Type 0
IsNotPlainOn server mode (QuotedString quote tail) rest = IsQuotedTail server mode quote tail rest
IsNotPlainOn server mode (QuotedIdentifier tail) rest =
    IsTailBy (identifier_on server (tail ++ rest)) backquote tail rest
IsNotPlainOn server mode (HashComment tail) rest =
    IsTailBy (line_on server (tail ++ rest)) newline tail rest
IsNotPlainOn server mode (DashComment gap tail) rest =
    IsTrue (opens_line server gap) × IsDashTail server gap tail rest
IsNotPlainOn server mode (BlockComment tail) rest = IsBlockTail server tail rest
IsNotPlainOn server mode (Name name) rest = IsName name × IsFalse (begins is_name_byte rest)
IsNotPlainOn server mode Mark rest = ⊤
IsNotPlainOn server mode (Plain b) rest = ⊥

-- a token on the server before a rest; a byte is plain if no other token begins with it there
abbrev pub IsTokenOn : Server → Bool → Token → List ℕ → Type 0
IsTokenOn server mode (Plain b) rest =
    (t : Token) (after : List ℕ) → IsNotPlainOn server mode t after →
    bytes_of t ++ after ≢ b ∷ rest
IsTokenOn server mode t rest = IsNotPlainOn server mode t rest

-- each is a token on the server before the text of the tokens after it
abbrev pub AreTokensOn : Server → Bool → List Token → Type 0
AreTokensOn server mode [] = ⊤
AreTokensOn server mode (t ∷ ts) = IsTokenOn server mode t (text_of ts) × AreTokensOn server mode ts

-- the tokens of a query on a server
pub record IsReadOn (server : Server) (mode : Bool) (query : List ℕ) (ts : List Token)
    : Type 0 where
  -- their bytes are the query
  pub text : text_of ts ≡ query
  -- each is a token at its place in the query
  pub each : AreTokensOn server mode ts
