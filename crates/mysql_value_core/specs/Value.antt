-- Values of the MySQL client/server protocol: those that are bytes, and the ranges of the fields.
use Rattle.std.specs.Prelude.{◌<◌, ◌^◌, FitsSigned, ⊤}
use Rattle.std.specs.Int.{w64}
use Rattle.mysql_value_core.specs.Bytes.{AreBytes}
use Rattle.mysql_value_core.specs.declared.value.Value.{Value}
use Rattle.mysql_value_core.specs.declared.value.Value.TheVariants.{NULL, Bytes, Int, UInt, Float, Double, Date, Time}

-- the value is bytes; only a value of bytes allocates
abbrev pub IsBytes : Value → Type 0
IsBytes (Bytes bytes) = ⊤
IsBytes _ = ⊥

-- each field is in the range of its type
abbrev pub FieldsInRange : Value → Type 0
FieldsInRange NULL = ⊤
FieldsInRange (Bytes bytes) = AreBytes bytes
FieldsInRange (Int number) = FitsSigned w64 number
FieldsInRange (UInt number) = number < 2 ^ 64
FieldsInRange (Float bits) = bits < 2 ^ 32
FieldsInRange (Double bits) = bits < 2 ^ 64
FieldsInRange (Date year month day hour minute second microseconds) =
    (year < 2 ^ 16) × (month < 2 ^ 8) × (day < 2 ^ 8)
    × (hour < 2 ^ 8) × (minute < 2 ^ 8) × (second < 2 ^ 8) × (microseconds < 2 ^ 32)
FieldsInRange (Time negative days hours minutes seconds microseconds) =
    (days < 2 ^ 32) × (hours < 2 ^ 8) × (minutes < 2 ^ 8)
    × (seconds < 2 ^ 8) × (microseconds < 2 ^ 32)
