-- The reading of a time text, as a function. The relation `IsTimeText` of TimeText is its meaning:
-- `laws::time_texts_are_read` says that exactly the time texts are read, each with its meaning.
use Rattle.std.specs.Prelude.{ℕ, ◌-◌, ◌*◌, ◌^◌, Bool, true, false, ◌==◌, nat_le, if◌then◌else◌, List, [], ◌∷◌, length, Option, None, Some}
use Rattle.std.specs.Option.{option_map, option_or}
use Rattle.std.specs.Str.{byte}
use Rattle.mysql_sql_text.specs.Digits.{value_of_digits}
use Rattle.mysql_sql_text.specs.TimeText.{total_microseconds}

-- a number, if it is at most the greatest
abbrev pub at_most : ℕ → Option ℕ → Option ℕ
at_most greatest None = None
at_most greatest (Some number) = if nat_le number greatest then Some number else None

-- the microseconds of up to six digits after the point
abbrev pub fraction_microseconds : List ℕ → Option ℕ
fraction_microseconds digits =
    if nat_le (length digits) 6
    then option_map (λ number. number * 10 ^ (6 - length digits)) (value_of_digits digits)
    else None

-- the microseconds of the text after the seconds: nothing, or a point and digits
abbrev pub fraction_of : List ℕ → Option ℕ
fraction_of [] = Some 0
fraction_of (point ∷ digits) = if point == byte "." then fraction_microseconds digits else None

-- the microseconds of the fields, if there are all four
abbrev pub sum_of_fields : Option ℕ → Option ℕ → Option ℕ → Option ℕ → Option ℕ
sum_of_fields (Some hours) (Some minutes) (Some seconds) (Some part) =
    Some (total_microseconds 0 hours minutes seconds part)
sum_of_fields hours minutes seconds part = None

-- the microseconds of a time with these hours, and this text after their colon
abbrev pub time_after_hours : Option ℕ → List ℕ → Option ℕ
time_after_hours hours (a ∷ b ∷ colon ∷ c ∷ d ∷ text) =
    if colon == byte ":"
    then sum_of_fields hours (at_most 59 (value_of_digits (a ∷ b ∷ [])))
    (at_most 59 (value_of_digits (c ∷ d ∷ []))) (fraction_of text)
    else None
time_after_hours hours text = None

-- the microseconds of a text that begins with hours in two digits
abbrev pub time_of_two_digits : List ℕ → Option ℕ
time_of_two_digits (a ∷ b ∷ colon ∷ text) =
    if colon == byte ":" then time_after_hours (value_of_digits (a ∷ b ∷ [])) text else None
time_of_two_digits text = None

-- the microseconds of a text that begins with hours in three digits
abbrev pub time_of_three_digits : List ℕ → Option ℕ
time_of_three_digits (a ∷ b ∷ c ∷ colon ∷ text) =
    if colon == byte ":"
    then time_after_hours (at_most 899 (value_of_digits (a ∷ b ∷ c ∷ []))) text else None
time_of_three_digits text = None

-- the microseconds of a time text without a sign
abbrev pub unsigned_time : List ℕ → Option ℕ
unsigned_time text = option_or (time_of_two_digits text) (time_of_three_digits text)

-- whether a time text is negative, and the number of its microseconds
abbrev pub time_of_text : List ℕ → Option (Bool × ℕ)
time_of_text [] = None
time_of_text (first ∷ text) =
    if first == byte "-" then option_map (λ microseconds. (true, microseconds)) (unsigned_time text)
    else option_map (λ microseconds. (false, microseconds)) (unsigned_time (first ∷ text))
