-- Time texts: an optional `-`, then hours, minutes and seconds with colons between them, and a
-- fraction of a second (MySQL Reference Manual, "Date and Time Literals", the form 'hh:mm:ss' with
-- fractional seconds). docs/RULES.md says where this is narrower than the manual.
use Rattle.std.specs.Prelude.{◌≡◌, ℕ, ◌+◌, ◌-◌, ◌*◌, ◌^◌, ◌≤◌, Bool, true, false, List, [], ◌∷◌, ◌++◌, length, codes, Some, ◌⊎◌}
use Rattle.std.specs.Str.{byte}
use Rattle.mysql_sql_text.specs.Digits.{value_of_digits}

-- the microseconds of days, hours, minutes, seconds and microseconds
abbrev pub total_microseconds : ℕ → ℕ → ℕ → ℕ → ℕ → ℕ
total_microseconds days hours minutes seconds microseconds =
    (((days * 24 + hours) * 60 + minutes) * 60 + seconds) * 1000000 + microseconds

-- `width` digits, of a number that is at most the greatest
pub record IsField (width greatest : ℕ) (digits : List ℕ) (number : ℕ) : Type 0 where
  pub count : length digits ≡ width
  pub value : value_of_digits digits ≡ Some number
  pub bound : number ≤ greatest

-- hours: two digits, or three up to 899
abbrev pub AreHours : List ℕ → ℕ → Type 0
AreHours digits hours = IsField 2 99 digits hours ⊎ IsField 3 899 digits hours

-- nothing, or a point and one to six digits, which are microseconds if zeros fill them up to six
pub data IsFraction (text : List ℕ) (microseconds : ℕ) : Type 0 where
  no_fraction : text ≡ [] → microseconds ≡ 0 → IsFraction text microseconds
  some_fraction : (digits : List ℕ) (number : ℕ) → codes "." ++ digits ≡ text → length digits ≤ 6
      → value_of_digits digits ≡ Some number → microseconds ≡ number * 10 ^ (6 - length digits)
      → IsFraction text microseconds

-- the sign of a time text
abbrev pub sign : Bool → List ℕ
sign true = codes "-"
sign false = []

-- a time text, whether it is negative, and the number of its microseconds
pub record IsTimeText (text : List ℕ) (negative : Bool) (microseconds : ℕ) : Type 0 where
  pub hour_digits : List ℕ
  pub minute_digits : List ℕ
  pub second_digits : List ℕ
  pub fraction : List ℕ
  pub hours : ℕ
  pub minutes : ℕ
  pub seconds : ℕ
  pub fraction_microseconds : ℕ
  -- sign, hours, a colon, minutes, a colon, seconds, and the fraction
  pub parts : text ≡ sign negative
      ++ (hour_digits ++ byte ":" ∷ (minute_digits ++ byte ":" ∷ (second_digits ++ fraction)))
  pub are_hours : AreHours hour_digits hours
  pub are_minutes : IsField 2 59 minute_digits minutes
  pub are_seconds : IsField 2 59 second_digits seconds
  pub is_fraction : IsFraction fraction fraction_microseconds
  pub sum : microseconds ≡ total_microseconds 0 hours minutes seconds fraction_microseconds
