-- The first backslash in a string of a query, which the two modes read in different ways (MySQL
-- Reference Manual, "String Literals", and "Server SQL Modes", NO_BACKSLASH_ESCAPES). Outside of
-- strings a backslash is a byte like any other in both modes.
use Rattle.std.specs.Prelude.{◌+◌, ◌==◌, ℕ, Bool, List, [], ◌∷◌, length, Option, None}
use Rattle.std.specs.List.{position_from}
use Rattle.std.specs.Option.{option_or}
use Rattle.std.specs.Str.{byte}
use Rattle.mysql_named_params.specs.Tokens.{Token, bytes_of, QuotedString}

-- a backslash
abbrev pub is_backslash : ℕ → Bool
is_backslash b = b == byte "\\"

-- the position of the first backslash in a token that begins at this position, if it is a string
abbrev pub backslash_in : ℕ → Token → Option ℕ
backslash_in at (QuotedString quote tail) = position_from is_backslash at (quote ∷ tail)
backslash_in at t = None

-- the position of the first backslash in a string, if the tokens begin at this position
abbrev pub first_backslash_from : ℕ → List Token → Option ℕ
first_backslash_from at [] = None
first_backslash_from at (t ∷ ts) =
    option_or (backslash_in at t) (first_backslash_from (at + length (bytes_of t)) ts)

-- the position of the first backslash in a string of a query
abbrev pub first_backslash : List Token → Option ℕ
first_backslash = first_backslash_from 0
