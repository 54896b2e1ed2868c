-- Bytes with which nothing begins that a client finds in quotes. For private functions of
-- `nothing_in_quotes.rt` and `client.rt`; no public contract cites it.
use Rattle.std.specs.Prelude.{◌≡◌, ◌<◌, ℕ, Bool, true, not, ◌||◌, ◌==◌, List}
use Rattle.std.specs.Str.{byte}
use Rattle.mysql_named_params.specs.Lanes.{EachPasses}
use Rattle.mysql_named_params.specs.Bytes.{backquote, newline, is_string_quote, begins}

-- a quote or a backquote
abbrev pub opens_text : ℕ → Bool
opens_text b = is_string_quote b || b == backquote

-- no byte 0, no newline and no backslash
abbrev pub begins_nothing_in_quotes : ℕ → Bool
begins_nothing_in_quotes b = not (b == 0 || b == newline || b == byte "\\")

-- the token of this length at the front of the text is in quotes or backquotes, and none of its
-- bytes begins anything there
abbrev pub HoldsNothingInQuotes : List ℕ → ℕ → Type 0
HoldsNothingInQuotes text len =
    (begins opens_text text ≡ true) × (1 < len) × EachPasses begins_nothing_in_quotes text 0 len
