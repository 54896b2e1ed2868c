-- The types and the bytes that JSON values give to names.
use Rattle.std.specs.Prelude.{ℕ, true, false, List, [], codes, if◌then◌else◌, Option, None, Some, is_some}
use Rattle.json.specs.Json.{Json, null, boolean, number, string, array, object}
use Rattle.mysql_bind_core.specs.Tables.{CellSaid}
use Rattle.mysql_bind_core.specs.ValueTypes.{number_value}
use Rattle.mysql_bind_core.specs.declared.json_value.Decimals.{Decimals}
use Rattle.mysql_bind_core.specs.declared.json_value.Decimals.TheVariants as decimals
use Rattle.mysql_bind_core.specs.declared.value_type.ValueType.{ValueType}
use Rattle.mysql_bind_core.specs.declared.value_type.ValueType.TheVariants as type

-- the type of a number that isn't a whole number of 64 bits; as `Number` it has no value
abbrev pub type_of_decimals : Decimals → ValueType
type_of_decimals decimals.Refused = type.Number
type_of_decimals decimals.Text = type.Text
type_of_decimals decimals.Exact = type.Decimal
type_of_decimals decimals.Double = type.Double

-- the type of a number with this text
abbrev pub number_type : Decimals → List ℕ → ValueType
number_type decimals text =
    if is_some (number_value text) then type.Number else type_of_decimals decimals

-- the type and the bytes of a JSON value; none of a list and of an object
abbrev pub scalar_said : Decimals → Json → Option CellSaid
scalar_said decimals null = Some (type.Null, [])
scalar_said decimals (boolean true) = Some (type.Bool, codes "true")
scalar_said decimals (boolean false) = Some (type.Bool, codes "false")
scalar_said decimals (number text) = Some (number_type decimals text, text)
scalar_said decimals (string text) = Some (type.Text, text)
scalar_said decimals (array _) = None
scalar_said decimals (object _) = None
