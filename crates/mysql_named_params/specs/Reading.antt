-- The tokens of a query in a reading: those of the grammar, or those with wide names. The contracts
-- of calls for wide names use the latter.
use Rattle.std.specs.Prelude.{◌≡◌, ℕ, Bool, true, false, List}
use Rattle.mysql_named_params.specs.Tokens.{Token, IsTokens}
use Rattle.mysql_named_params.specs.WideNames.{widened}
use Rattle.mysql_named_params.specs.declared.places.Reading.{Reading}

-- the tokens of a query in a mode, with wide names or without
abbrev pub IsTokensWith : (wide_names mode : Bool) → List ℕ → List Token → Type 0
IsTokensWith false mode query ts = IsTokens mode query ts
IsTokensWith true mode query ts =
    (own : List Token) × IsTokens mode query own × (ts ≡ widened own)

-- the reading in a mode, with wide names or without
abbrev pub reading_with : (wide_names mode : Bool) → Reading
reading_with wide_names mode = record { no_backslash_escape = mode; wide_names = wide_names }

-- the reading with the names of the grammar
abbrev pub grammar_reading : Bool → Reading
grammar_reading mode = record { no_backslash_escape = mode; wide_names = false }

-- the reading with wide names
abbrev pub wide_reading : Bool → Reading
wide_reading mode = record { no_backslash_escape = mode; wide_names = true }

-- the tokens of a query in a reading
abbrev pub IsTokensIn : Reading → List ℕ → List Token → Type 0
IsTokensIn reading = IsTokensWith reading.wide_names reading.no_backslash_escape

-- the query has tokens in the reading, and `P` is true for them; no query has two token lists
abbrev pub OnTokensIn : Reading → List ℕ → (List Token → Type 0) → Type 0
OnTokensIn reading query P = (ts : List Token) × IsTokensIn reading query ts × P ts

-- the query has tokens with wide names in the mode, and `P` is true for them
abbrev pub OnWideTokens : Bool → List ℕ → (List Token → Type 0) → Type 0
OnWideTokens mode = OnTokensIn (wide_reading mode)
