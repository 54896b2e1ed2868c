-- The first and the last byte of a text.
use Rattle.std.specs.Prelude.{◌==◌, ◌||◌, ℕ, Bool, false, List, [], ◌∷◌}
use Rattle.std.specs.Char.{is_ascii_digit}
use Rattle.std.specs.Str.{byte}

-- it begins with a minus or a digit
abbrev pub begins_number : List ℕ → Bool
begins_number [] = false
begins_number (b ∷ bytes) = b == byte "-" || is_ascii_digit b

-- it ends in a digit
abbrev pub ends_in_digit : List ℕ → Bool
ends_in_digit [] = false
ends_in_digit (b ∷ []) = is_ascii_digit b
ends_in_digit (b ∷ c ∷ bytes) = ends_in_digit (c ∷ bytes)
