-- The texts of which SQL literals consist (MySQL Reference Manual, "String Literals", "Hexadecimal
-- Literals", "Date and Time Literals"). A mode is the flag `no_backslash_escape`: `true` is the
-- mode without backslash escapes.
use Rattle.std.specs.Prelude.{ℕ, ◌+◌, ◌-◌, ◌*◌, ◌/◌, ◌%◌, nat_lt, Bool, true, false, ◌==◌, ◌&&◌, List, [], ◌∷◌, ◌++◌, length, replicate, codes, if◌then◌else◌}
use Rattle.std.specs.List.{flat_map}
use Rattle.std.specs.Fmt.{decimal}
use Rattle.std.specs.Str.{byte, is_utf8}

-- ASCII's character "substitute", Ctrl-Z
abbrev pub control_z : ℕ
control_z = 26

-- The bytes that stand for a byte between single quotes. With backslash escapes, a zero byte, a
-- newline, a carriage return and Ctrl-Z become a backslash and a letter or digit; a backslash and
-- both quotes get a backslash before them. Without, a single quote is doubled. Every other byte
-- stays.
abbrev pub escaped_byte : Bool → ℕ → List ℕ
escaped_byte false b =
    if b == 0 then codes "\\0" else (
    if b == byte "\n" then codes "\\n" else (
    if b == byte "\r" then codes "\\r" else (
    if b == control_z then codes "\\Z" else (
    if b == byte "\\" then codes "\\\\" else (
    if b == byte "'" then codes "\\'" else (
    if b == byte "\"" then codes "\\\"" else b ∷ []))))))
escaped_byte true b = if b == byte "'" then codes "''" else b ∷ []

-- the bytes that stand for each of the bytes, one after another
abbrev pub escaped : Bool → List ℕ → List ℕ
escaped mode bytes = flat_map (escaped_byte mode) bytes

-- a text between single quotes
abbrev pub quoted : List ℕ → List ℕ
quoted text = codes "'" ++ text ++ codes "'"

-- the hexadecimal digit of a number below 16, in upper case
abbrev pub hexadecimal_digit : ℕ → ℕ
hexadecimal_digit n = if nat_lt n 10 then byte "0" + n else byte "A" + (n - 10)

-- two hexadecimal digits for each of the bytes, the higher first
abbrev pub hexadecimal : List ℕ → List ℕ
hexadecimal bytes =
    flat_map (λ b. hexadecimal_digit (b / 16) ∷ hexadecimal_digit (b % 16) ∷ []) bytes

-- the literal of bytes: a string if they are UTF-8, or else a hexadecimal literal
abbrev pub bytes_literal : Bool → List ℕ → List ℕ
bytes_literal mode bytes =
    if is_utf8 bytes then quoted (escaped mode bytes) else codes "0x" ++ hexadecimal bytes

-- the decimal digits of a number, with zeros before them up to the width
abbrev pub padded : ℕ → ℕ → List ℕ
padded width n = replicate (width - length (decimal n)) (byte "0") ++ decimal n

-- the fraction of a second: none if there are no microseconds, or else at least six digits
abbrev pub fraction : ℕ → List ℕ
fraction microseconds = if microseconds == 0 then [] else codes "." ++ padded 6 microseconds

-- `:MM:SS`, and the fraction
abbrev pub after_hours : ℕ → ℕ → ℕ → List ℕ
after_hours minutes seconds microseconds =
    codes ":" ++ padded 2 minutes ++ codes ":" ++ padded 2 seconds ++ fraction microseconds

-- `YYYY-MM-DD`
abbrev pub day_text : ℕ → ℕ → ℕ → List ℕ
day_text year month day = padded 4 year ++ codes "-" ++ padded 2 month ++ codes "-" ++ padded 2 day

-- whether the time of day is all zero
abbrev pub is_midnight : ℕ → ℕ → ℕ → ℕ → Bool
is_midnight hour minute second microseconds =
    hour == 0 && minute == 0 && second == 0 && microseconds == 0

-- the text between the quotes of a date: only the day at midnight
abbrev pub date_text : ℕ → ℕ → ℕ → ℕ → ℕ → ℕ → ℕ → List ℕ
date_text year month day hour minute second microseconds =
    if is_midnight hour minute second microseconds then day_text year month day
    else day_text year month day ++ codes " "
    ++ padded 2 hour ++ after_hours minute second microseconds

-- the text between the quotes of a time: each day counts as 24 hours
abbrev pub time_text : Bool → ℕ → ℕ → ℕ → ℕ → ℕ → List ℕ
time_text negative days hours minutes seconds microseconds =
    (if negative then codes "-" else [])
    ++ padded 3 (days * 24 + hours) ++ after_hours minutes seconds microseconds
