-- Decimal texts: an optional sign and one or more ASCII digits, of any length (MySQL Reference
-- Manual, "Numeric Literals").
use Rattle.std.specs.Prelude.{ℕ, ◌==◌, if◌then◌else◌, Bool, true, false, ℤ, pos, neg_ℤ, List, [], ◌∷◌, Option, None}
use Rattle.std.specs.Option.{option_map}
use Rattle.std.specs.Str.{byte}
use Rattle.mysql_sql_text.specs.Digits.{value_of_digits}

-- the sign of a number that is not negative
abbrev pub plus_sign : ℕ
plus_sign = byte "+"

-- the sign of a negative number
abbrev pub minus_sign : ℕ
minus_sign = byte "-"

-- the number with this sign and magnitude
abbrev pub signed_number : Bool → ℕ → ℤ
signed_number true magnitude = neg_ℤ (pos magnitude)
signed_number false magnitude = pos magnitude

-- the number that a decimal text writes
abbrev pub decimal_number : List ℕ → Option ℤ
decimal_number [] = None
decimal_number (first ∷ rest) =
    if first == minus_sign then option_map (signed_number true) (value_of_digits rest)
    else if first == plus_sign then option_map (signed_number false) (value_of_digits rest)
    else option_map (signed_number false) (value_of_digits (first ∷ rest))
