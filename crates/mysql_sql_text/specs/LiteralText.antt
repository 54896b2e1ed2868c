-- The literals of a date and of a time, by their fields, and whether a byte needs an escape. The
-- texts of which literals consist are re-exported.
use Rattle.std.specs.Prelude.{ℕ, Bool, ◌==◌, List, length}
use Rattle.mysql_sql_text.specs.declared.dates.DateFields.{DateFields}
use Rattle.mysql_sql_text.specs.declared.dates.TimeFields.{TimeFields}
pub use Rattle.mysql_sql_text.specs.LiteralParts.{control_z, escaped_byte, escaped, quoted, hexadecimal_digit, hexadecimal, bytes_literal, padded, fraction, after_hours, day_text, is_midnight, date_text, time_text}

-- whether a byte needs an escape, which has two bytes
abbrev pub needs_escape : Bool → ℕ → Bool
needs_escape mode b = length (escaped_byte mode b) == 2

-- the literal of a date
abbrev pub date_literal : DateFields → List ℕ
date_literal date =
    quoted (date_text date.year date.month date.day
    date.hour date.minute date.second date.microseconds)

-- the literal of a time
abbrev pub time_literal : TimeFields → List ℕ
time_literal time =
    quoted (time_text time.negative time.days time.hours
    time.minutes time.seconds time.microseconds)
