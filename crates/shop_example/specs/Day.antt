-- The value of a day.
use Rattle.std.specs.Prelude.{Ok}
use Rattle.mysql_values.specs.ValueOf.{Meaning}
use Rattle.mysql_values.specs.declared.value.Value.TheVariants.{Date}
use Rattle.shop_example.specs.declared.day.Day.{Day}

-- a date, at midnight
abbrev pub day_value : Day → Meaning
day_value day = Ok (Date day.year day.month day.day 0 0 0 0)
