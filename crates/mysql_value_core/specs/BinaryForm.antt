-- Values written in binary form (MySQL client/server protocol, "Binary Protocol Value").
use Rattle.std.specs.Prelude.{ℕ, Bool, ◌==◌, ◌&&◌, List, [], ◌∷◌, ◌++◌, if◌then◌else◌}
use Rattle.std.specs.Int.{w64, cast_unsigned}
use Rattle.byteorder.specs.Endian.{little_bytes}
use Rattle.mysql_wire_part.specs.Lenenc.{lenenc_spelling}
use Rattle.mysql_value_core.specs.declared.value.Value.{Value}
use Rattle.mysql_value_core.specs.declared.value.Value.TheVariants.{NULL, Bytes, Int, UInt, Float, Double, Date, Time}

-- the day of a date: the year in two bytes, the month, the day
abbrev pub day_bytes : ℕ → ℕ → ℕ → List ℕ
day_bytes year month day = little_bytes 2 year ++ month ∷ day ∷ []

-- A date: the number of the bytes after the first, and the shortest of four forms in which all
-- missing fields are 0.
abbrev pub date_form : ℕ → ℕ → ℕ → ℕ → ℕ → ℕ → ℕ → List ℕ
date_form year month day hour minute second microseconds =
    let no_microseconds = microseconds == 0 in
    let midnight = hour == 0 && minute == 0 && second == 0 && no_microseconds in
    let all_zero = year == 0 && month == 0 && day == 0 && midnight in
    if all_zero then 0 ∷ [] else (
    if midnight then 4 ∷ day_bytes year month day else (
    if no_microseconds then 7 ∷ (day_bytes year month day ++ hour ∷ minute ∷ second ∷ []) else
    11 ∷ (day_bytes year month day ++ hour ∷ minute ∷ second ∷ little_bytes 4 microseconds)))

-- the sign of a time: 1 if it is negative
abbrev pub sign_byte : Bool → ℕ
sign_byte negative = if negative then 1 else 0

-- A time: the number of the bytes after the first, and the shortest of three forms in which all
-- missing fields are 0. The shortest has no sign.
abbrev pub time_form : Bool → ℕ → ℕ → ℕ → ℕ → ℕ → List ℕ
time_form negative days hours minutes seconds microseconds =
    let no_microseconds = microseconds == 0 in
    let all_zero = days == 0 && hours == 0 && minutes == 0 && seconds == 0 && no_microseconds in
    let whole_seconds =
    sign_byte negative ∷ (little_bytes 4 days ++ hours ∷ minutes ∷ seconds ∷ []) in
    if all_zero then 0 ∷ [] else (
    if no_microseconds then 8 ∷ whole_seconds else
    12 ∷ (whole_seconds ++ little_bytes 4 microseconds))

-- whole numbers and floats have a fixed length, and NULL has none
abbrev pub binary_form : Value → List ℕ
binary_form NULL = []
binary_form (Bytes bytes) = lenenc_spelling bytes
binary_form (Int number) = little_bytes 8 (cast_unsigned w64 number)
binary_form (UInt number) = little_bytes 8 number
binary_form (Float bits) = little_bytes 4 bits
binary_form (Double bits) = little_bytes 8 bits
binary_form (Date year month day hour minute second microseconds) =
    date_form year month day hour minute second microseconds
binary_form (Time negative days hours minutes seconds microseconds) =
    time_form negative days hours minutes seconds microseconds
