-- Whether a text is a double, as a test. `laws::is_double_is_shape` says that it tests for the
-- shape.
use Rattle.std.specs.Prelude.{◌==◌, ◌&&◌, not, ℕ, Bool, true, false, List, [], ◌∷◌, if◌then◌else◌}
use Rattle.std.specs.Char.{is_ascii_digit}
use Rattle.std.specs.Str.{byte}

-- only digits; the flag: there was one before
abbrev pub ends_in_digits : Bool → List ℕ → Bool
ends_in_digits digit [] = digit
ends_in_digits digit (b ∷ bytes) = is_ascii_digit b && ends_in_digits true bytes

-- after the `e`: an optional minus and digits
abbrev pub is_exponent : List ℕ → Bool
is_exponent [] = false
is_exponent (b ∷ bytes) =
    if b == byte "-" then ends_in_digits false bytes else ends_in_digits false (b ∷ bytes)

-- digits with at most one point between them, and an exponent; the flags: this part has a digit
-- already, and the point was passed
abbrev pub is_double_from : Bool → Bool → List ℕ → Bool
is_double_from digit point_passed [] = false
is_double_from digit point_passed (b ∷ bytes) =
    if is_ascii_digit b then is_double_from true point_passed bytes
    else if b == byte "." then (digit && not point_passed) && is_double_from false true bytes
    else (b == byte "e" && digit) && is_exponent bytes

-- a double: at most one minus before the digits
abbrev pub is_double : List ℕ → Bool
is_double [] = false
is_double (b ∷ bytes) =
    if b == byte "-" then is_double_from false false bytes
    else is_double_from false false (b ∷ bytes)
