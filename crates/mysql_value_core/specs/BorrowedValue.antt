-- The owned values of borrowed values.
use Rattle.std.specs.Prelude.{List, map}
use Rattle.mysql_value_core.specs.declared.value.Value.{Value}
use Rattle.mysql_value_core.specs.declared.value.Value.TheVariants.{NULL, Bytes, Int, UInt, Float, Double, Date, Time}
use Rattle.mysql_value_core.specs.declared.value.ValueRef.{ValueRef}
use Rattle.mysql_value_core.specs.declared.value.ValueRef.TheVariants as borrowed

-- the owned value of a borrowed one: the same variant, with the same bytes or fields
abbrev pub owned : ValueRef → Value
owned borrowed.NULL = NULL
owned (borrowed.Bytes bytes) = Bytes bytes.now
owned (borrowed.Int number) = Int number
owned (borrowed.UInt number) = UInt number
owned (borrowed.Float bits) = Float bits
owned (borrowed.Double bits) = Double bits
owned (borrowed.Date year month day hour minute second microseconds) =
    Date year month day hour minute second microseconds
owned (borrowed.Time negative days hours minutes seconds microseconds) =
    Time negative days hours minutes seconds microseconds

-- the owned values of a list of borrowed ones, in order
abbrev pub owned_values : List ValueRef → List Value
owned_values values = map owned values
