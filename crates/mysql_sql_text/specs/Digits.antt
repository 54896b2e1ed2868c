-- The number that digits write, of any length (MySQL Reference Manual, "Numeric Literals").
use Rattle.std.specs.Prelude.{ℕ, nat_lt, ◌&&◌, if◌then◌else◌, List, length, Option, None, Some}
use Rattle.std.specs.Char.{is_ascii_digit}
use Rattle.std.specs.List.{list_all}
use Rattle.std.specs.Str.Parse.{digits_value}

-- the number that one or more ASCII digits write
abbrev pub value_of_digits : List ℕ → Option ℕ
value_of_digits digits =
    if nat_lt 0 (length digits) && list_all is_ascii_digit digits
    then Some (digits_value 10 digits) else None
