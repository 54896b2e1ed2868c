-- Conversions to a duration. Contracts see its nanoseconds.
use Rattle.std.specs.Prelude.{◌≡◌, ◌≤◌, ℕ, ◌*◌, ◌/◌, ◌^◌, Bool, true, false, List, Result, Ok, Err, Option, None, Some, ⊤}
use Rattle.std.specs.Option.{option_map, option_and_then}
use Rattle.std.specs.Duration.{as_nanos}
use Rattle.std.specs.declared.time.Duration.{Duration}
use Rattle.mysql_sql_text.specs.TimeText.{IsTimeText, total_microseconds}
use Rattle.mysql_sql_text.specs.ReadTimeText.{time_of_text}
use Rattle.mysql_value_core.specs.ValueOf.{Meaning}
use Rattle.mysql_value_core.specs.DurationValue.{rounded_microseconds}
use Rattle.mysql_value_core.specs.declared.value.Value.{Value}
use Rattle.mysql_value_core.specs.declared.value.Value.TheVariants.{Bytes, Time}
use Rattle.mysql_value_core.specs.declared.value.convert.FromValueError.{FromValueError}
use Rattle.mysql_values.specs.Intermediate.{committed}
use Rattle.mysql_values.specs.declared.value.convert.intermediate.ParseIrOpt.{ParseIrOpt}
use Rattle.mysql_values.specs.declared.value.convert.intermediate.ParseIrOpt.TheVariants.{Ready, Parsed}

-- the view of an intermediate, by the view of its `T`
abbrev pub seen_intermediate : {T Seen : Type 0} → (T → Seen) → ParseIrOpt T → ParseIrOpt Seen
seen_intermediate seen (Ready x) = Ready (seen x)
seen_intermediate seen (Parsed x value) = Parsed (seen x) value

-- the nanoseconds of a time that isn't negative, given in microseconds
abbrev pub nanoseconds_unless_negative : Bool × ℕ → Option ℕ
nanoseconds_unless_negative (true, microseconds) = None
nanoseconds_unless_negative (false, microseconds) = Some (microseconds * 1000)

-- the nanoseconds of a time text without `-`
abbrev pub nanoseconds_of_text : List ℕ → Option ℕ
nanoseconds_of_text text = option_and_then nanoseconds_unless_negative (time_of_text text)

-- the conversion of a value: a time that isn't negative converts, and a time text without `-`
abbrev pub duration_conversion : Value → Option (ParseIrOpt ℕ)
duration_conversion (Time false days hours minutes seconds microseconds) =
    Some (Parsed (total_microseconds days hours minutes seconds microseconds * 1000)
    (Time false days hours minutes seconds microseconds))
duration_conversion (Bytes bytes) =
    option_map (λ nanoseconds. Parsed nanoseconds (Bytes bytes)) (nanoseconds_of_text bytes)
duration_conversion _ = None

-- The value of a duration converts back to the duration rounded to microseconds. If there is no
-- value, 32 bits don't hold the days of the rounded duration.
abbrev pub ConvertsBackRounded : Duration → Meaning → Type 0
ConvertsBackRounded duration (Ok value) =
    option_map committed (duration_conversion value) ≡ Some (rounded_microseconds duration * 1000)
ConvertsBackRounded duration (Err too_long) =
    2 ^ 32 ≤ rounded_microseconds duration / 1000000 / 86400

-- Bytes convert if and only if they are a time text without `-`. They convert to a duration of its
-- microseconds. Nothing is said about other values.
abbrev pub ConvertsTimeTexts : Value → Result (ParseIrOpt Duration) FromValueError → Type 0
ConvertsTimeTexts (Bytes text) (Ok ir) =
    (microseconds : ℕ) × IsTimeText text false microseconds
    × (as_nanos (committed ir) ≡ microseconds * 1000)
ConvertsTimeTexts (Bytes text) (Err error) =
    (microseconds : ℕ) → IsTimeText text false microseconds → ⊥
ConvertsTimeTexts value result = ⊤
