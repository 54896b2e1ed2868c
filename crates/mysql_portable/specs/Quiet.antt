-- Quiet comments: hints and executable comments in whose text, up to `*/` and with it, nothing
-- begins, neither on a server of Server.antt nor in the grammar. Whether such a text is read or
-- skipped, no boundary outside of it moves. An honest server reads or skips each quiet comment, as
-- all known servers do when they first read a text. When they read it again, it may lack the
-- comment, or the comment's signs. The bytes that come together then begin nothing either. For
-- this, white space, `,`, `)`, `;` or the end is after the comment, white space is after the `!` at
-- its front, no `-` is in it, and no `--` is before it (`keeps_dashes`). Example:
-- `/*+ MAX_EXECUTION_TIME(1000) */`, a hint, a comment or plain bytes.
use Rattle.std.specs.Prelude.{◌≡◌, ℕ, ◌+◌, IsTrue, Bool, true, false, not, ◌==◌, ◌&&◌, ◌||◌, if◌then◌else◌, List, [], ◌∷◌, ◌++◌, drop}
use Rattle.std.specs.Char.{is_ascii_digit}
use Rattle.std.specs.Str.{byte}
use Rattle.mysql_named_params.specs.Bytes.{asterisk, backquote, dash, exclamation_mark, hash, slash, is_string_quote, is_white_space, begins, IsUpTo}
use Rattle.mysql_named_params.specs.Tokens.{Token, Plain}
use Rattle.mysql_portable.specs.ServerTokens.{Server, Block, executed, comment, comment_of, begins_special, begins_place, begins_own}

-- `;` or a backslash, which the client `mysql` takes for itself
abbrev pub is_for_client : ℕ → Bool
is_for_client b = b == byte ";" || b == byte "\\"

-- the text is empty, or begins with a byte that begins nothing together with the bytes before it
abbrev pub stands_apart : List ℕ → Bool
stands_apart [] = true
stands_apart (b ∷ rest) =
    is_white_space b || (b == byte ";" || (b == byte "," || b == byte ")"))

-- the byte followed by this text begins with `*/`
abbrev pub closes : ℕ → List ℕ → Bool
closes b rest = b == asterisk && begins (λ c. c == slash) rest

-- After `n` digits of a version: its other digits, followed by white space or `*/`. It has no
-- digits, five or six.
abbrev pub ends_version : ℕ → List ℕ → Bool
ends_version n [] = false
ends_version n (b ∷ rest) =
    if is_ascii_digit b then ends_version (n + 1) rest
    else (n == 0 || (n == 5 || n == 6)) && (is_white_space b || closes b rest)

-- A version or none, followed by white space or `*/`. A 0 in front begins no version: MySQL takes
-- five digits of `/*!090000`.
abbrev pub is_version : List ℕ → Bool
is_version text = not (begins (λ c. c == byte "0") text) && ends_version 0 text

-- This byte, before this text, may begin something: a text in quotes, a comment, a place, or a
-- construct of some server. Together with the text around the comment, a `-`, the bytes after a
-- `*/`, and those after the `!` of the comment's sign may also begin something.
abbrev pub may_begin_something : ℕ → List ℕ → Bool
may_begin_something b rest =
    is_string_quote b
    || (b == backquote
    || (b == hash
    || (b == dash
    || ((b == slash && begins (λ c. c == asterisk) rest)
    || (begins_place (b ∷ rest)
    || (begins_own b rest
    || (is_for_client b
    || ((closes b rest && not (stands_apart (drop 1 rest)))
    || (b == exclamation_mark && not (is_version rest))))))))))

-- the text of a quiet comment, and more: no byte up to its `*/`, with it, may begin something
abbrev pub is_quiet : List ℕ → Bool
is_quiet [] = false
is_quiet (b ∷ rest) = not (may_begin_something b rest) && (closes b rest || is_quiet rest)

-- the bytes after `/*` in a quiet comment, before a rest
pub record IsQuietComment (tail rest : List ℕ) : Type 0 where
  pub special : IsTrue (begins_special (tail ++ rest))
  pub ends : IsUpTo (asterisk ∷ slash ∷ []) tail rest
  pub quiet : IsTrue (is_quiet (tail ++ rest))

-- the text is read, or is a comment up to `*/`; it has no end of the server's own
abbrev pub reads_or_skips : Block → Bool
reads_or_skips executed = true
reads_or_skips comment = true
reads_or_skips (comment_of n) = false

-- the server reads each quiet comment, or takes it for a comment up to `*/`
abbrev pub IsHonest : Server → Type 0
IsHonest server =
    (text : List ℕ) → IsTrue (is_quiet text) → IsTrue (reads_or_skips (server.special text))

-- the server decides about a quiet comment by the comment only, whatever follows it
abbrev pub DecidesWithin : Server → Type 0
DecidesWithin server = (tail rest other : List ℕ) → IsQuietComment tail rest →
    IsQuietComment tail other → server.special (tail ++ rest) ≡ server.special (tail ++ other)

-- after a plain `/`: `*` and a special text that is quiet
abbrev pub begins_quiet : List ℕ → Bool
begins_quiet [] = false
begins_quiet (b ∷ text) = b == asterisk && (begins_special text && is_quiet text)

-- plain bytes, followed by tokens
abbrev pub plain_then : List Token → List ℕ → List Token
plain_then ts [] = ts
plain_then ts (b ∷ bs) = Plain b ∷ plain_then ts bs
