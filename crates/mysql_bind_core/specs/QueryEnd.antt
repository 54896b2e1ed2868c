-- Queries that end within a token. A line with `;` after a query ends it, unless the query's last
-- token is open, as in `SELECT 'a`. Then the `;` and the next statement are part of that token.
use Rattle.std.specs.Prelude.{◌≡◌, ℕ, ◌+◌, nat_lt, List, [], ◌∷◌, ◌++◌, length, codes, if◌then◌else◌, Option, Some, None}
use Rattle.mysql_named_params.specs.Tokens.{Token, bytes_of}
use Rattle.mysql_bind_core.specs.ValueTypes.{newline}

-- the end of a statement: a newline and `;`
abbrev pub end : List ℕ
end = newline ∷ 59 ∷ []

-- The text ends with `--`. Only what ends with it may have a construct together with the end of a
-- statement that it doesn't have by itself: `SELECT 1.e--`.
abbrev pub EndsWithDashes : List ℕ → Type 0
EndsWithDashes text = (front : List ℕ) × (text ≡ front ++ codes "--")

-- the index at which a last token begins, if it has several bytes
abbrev pub last_at : ℕ → ℕ → Option ℕ
last_at at len = if nat_lt 1 len then Some at else None

-- the index at which the last of these tokens begins, if it has several bytes, and the first token
-- begins at this one
abbrev pub long_end_from : ℕ → List Token → Option ℕ
long_end_from at [] = None
long_end_from at (t ∷ []) = last_at at (length (bytes_of t))
long_end_from at (t ∷ u ∷ ts) = long_end_from (at + length (bytes_of t)) (u ∷ ts)

-- The index at which the last token begins, if it has several bytes. In a query with its end this
-- token has the `;` in it, and the query is open. None if the `;` is a token of its own.
abbrev pub long_end : List Token → Option ℕ
long_end = long_end_from 0
