-- The states of orders, as a column of type TINYINT numbers them.
use Rattle.std.specs.Prelude.{◌≡◌, ℕ, ◌==◌, Option, Some, None, Result, Ok, Err, if◌then◌else◌}
use Rattle.std.specs.Option.{option_and_then, option_map}
use Rattle.mysql_values.specs.Intermediate.{committed}
use Rattle.mysql_values.specs.WholeNumber.{u8_type, whole_conversion}
use Rattle.mysql_values.specs.declared.value.Value.{Value}
use Rattle.mysql_values.specs.declared.value.convert.FromValueError.{FromValueError}
use Rattle.shop_example.specs.declared.state.State.{State}
use Rattle.shop_example.specs.declared.state.State.TheVariants.{Open, Paid, Sent}

-- the number of a state
abbrev pub state_number : State → ℕ
state_number Open = 0
state_number Paid = 1
state_number Sent = 2

-- the state of a number
abbrev pub state_of : ℕ → Option State
state_of number =
    if number == 0 then Some Open
    else if number == 1 then Some Paid
    else if number == 2 then Some Sent
    else None

-- the number that a value converts to, as a `u8`
abbrev pub byte_of : Value → Option ℕ
byte_of value = option_map committed
    (whole_conversion u8_type.is_signed u8_type.width u8_type.of_number value)

-- The value converts to this number, and stands beside it; or it doesn't convert, and the refusal
-- holds it.
abbrev pub IsByteReading : Value → Result (ℕ × Value) FromValueError → Type 0
IsByteReading value (Ok pair) = (byte_of value ≡ Some pair.0) × (pair.1 ≡ value)
IsByteReading value (Err error) = (byte_of value ≡ None) × (error.0 ≡ value)

-- the state that a value says
abbrev pub state_conversion : Value → Option State
state_conversion value = option_and_then state_of (byte_of value)
