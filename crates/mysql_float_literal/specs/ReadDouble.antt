-- How a double is read in a text. The reader is std's, which rounds the decimal once, to the
-- nearest double, at a tie to the even one.
use Rattle.std.specs.Prelude.{◌≡◌, ℕ, Bool, false, List, ◌++◌, length, Option, None, Some}
use Rattle.std.specs.Char.{is_ascii_digit}
use Rattle.std.specs.Float.{binary64, float_is_finite}
use Rattle.std.specs.Float.Ieee.{Float, nan}
use Rattle.std.specs.Float.Parse.{parse_float, read_float}
use Rattle.mysql_sql_text.specs.LiteralEnd.{BeginsWithout}

-- before every text that doesn't begin with a digit, the text reads as this float and ends there
abbrev pub ReadsAs : List ℕ → Float → Type 0
ReadsAs text x = (rest : List ℕ) → BeginsWithout is_ascii_digit rest →
    read_float binary64 (text ++ rest) ≡ Some (x, length text)

-- a float was read, and it is finite
abbrev pub is_finite_number : Option Float → Bool
is_finite_number None = false
is_finite_number (Some x) = float_is_finite x

-- all of the text reads as a finite double
abbrev pub reads_finite : List ℕ → Bool
reads_finite text = is_finite_number (parse_float binary64 text)

-- the float that was read, a NaN if there is none
abbrev pub or_nan : Option Float → Float
or_nan None = nan
or_nan (Some x) = x

-- the double that all of the text reads as, a NaN if it is no number
abbrev pub read_double : List ℕ → Float
read_double text = or_nan (parse_float binary64 text)
