-- The values of Rust types.
use Rattle.std.specs.Prelude.{ℕ, ◌-◌, ◌^◌, ℤ, pos, negsuc, int_lt, int_le, unsigned_abs, nat_lt, ◌&&◌, Bool, true, false, if◌then◌else◌, List, Option, None, Some, Result, Ok, Err}
use Rattle.std.specs.Fmt.{decimal, signed_decimal}
use Rattle.std.specs.declared.time.Duration.{Duration}
use Rattle.mysql_value_core.specs.Value.{IsBytes}
use Rattle.mysql_value_core.specs.declared.value.Value.{Value}
use Rattle.mysql_value_core.specs.declared.value.Value.TheVariants.{NULL, Bytes, Int, UInt}
use Rattle.mysql_value_core.specs.declared.value.convert.ToValueError.{ToValueError}
use Rattle.mysql_value_core.specs.declared.value.convert.ToValueError.TheVariants.{DurationTooLong, Memory}

-- the value of an argument, or the duration that is too long for one
abbrev pub Meaning : Type 0
Meaning = Result Value Duration

-- the value is bytes; only a value of bytes allocates
abbrev pub MeansBytes : Meaning → Type 0
MeansBytes (Ok value) = IsBytes value
MeansBytes (Err duration) = ⊥

-- the duration that is too long for a value; none if the error is out of memory
abbrev pub too_long_duration : ToValueError → Option Duration
too_long_duration (DurationTooLong duration) = Some duration
too_long_duration (Memory error) = None

-- the value of a whole number with a sign, of up to 64 bits
abbrev pub int_value : ℤ → Meaning
int_value number = Ok (Int number)

-- the value of a whole number without a sign, of up to 64 bits
abbrev pub uint_value : ℕ → Meaning
uint_value number = Ok (UInt number)

-- the number is one of `i64`
abbrev pub is_int : ℤ → Bool
is_int number = int_le (negsuc (2 ^ 63 - 1)) number && int_lt number (pos (2 ^ 63))

-- the number is one of `u64`
abbrev pub is_uint : ℤ → Bool
is_uint number = int_le (pos 0) number && int_lt number (pos (2 ^ 64))

-- the value of an `i128`: an `Int` or else a `UInt` that holds it, or else its decimal text
abbrev pub wide_int_value : ℤ → Meaning
wide_int_value number =
    if is_int number then Ok (Int number)
    else if is_uint number then Ok (UInt (unsigned_abs number))
    else Ok (Bytes (signed_decimal number))

-- the value of a `u128`: a `UInt` that holds it, or else its decimal text
abbrev pub wide_uint_value : ℕ → Meaning
wide_uint_value number =
    if nat_lt number (2 ^ 64) then Ok (UInt number) else Ok (Bytes (decimal number))

-- the value of a Boolean
abbrev pub bool_value : Bool → Meaning
bool_value true = Ok (Int (pos 1))
bool_value false = Ok (Int (pos 0))

-- the value of bytes, or of a text
abbrev pub bytes_value : List ℕ → Meaning
bytes_value bytes = Ok (Bytes bytes)

-- the value of an option: that of its content, or NULL for none
abbrev pub option_value : {T : Type 0} → (T → Meaning) → Option T → Meaning
option_value value_of None = Ok NULL
option_value value_of (Some argument) = value_of argument
