-- The value of a duration.
use Rattle.std.specs.Prelude.{ℕ, ◌+◌, ◌/◌, ◌%◌, ◌^◌, nat_lt, false, if◌then◌else◌, Ok, Err}
use Rattle.std.specs.Duration.{as_nanos}
use Rattle.std.specs.declared.time.Duration.{Duration}
use Rattle.mysql_value_core.specs.ValueOf.{Meaning}
use Rattle.mysql_value_core.specs.declared.value.Value.TheVariants.{Time}

-- the microseconds of a duration, rounded half up
abbrev pub rounded_microseconds : Duration → ℕ
rounded_microseconds duration = (as_nanos duration + 500) / 1000

-- The time of these seconds and microseconds, with seconds and minutes below 60, hours below 24,
-- and days. If 32 bits don't hold the days, the duration.
abbrev pub carried_time : Duration → ℕ → ℕ → Meaning
carried_time duration seconds microseconds =
    if nat_lt (seconds / 86400) (2 ^ 32)
    then Ok (Time false (seconds / 86400) (seconds / 3600 % 24) (seconds / 60 % 60) (seconds % 60)
    microseconds)
    else Err duration

-- the time of the rounded duration, or the duration itself if 32 bits don't hold its days
abbrev pub duration_value : Duration → Meaning
duration_value duration =
    carried_time duration (rounded_microseconds duration / 1000000)
    (rounded_microseconds duration % 1000000)
