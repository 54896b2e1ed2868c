-- The value of each Rust type. The `to_value` of the type cites its row. A row takes the view that
-- contracts have of the argument: for bytes and texts it is the list of their bytes.
use Rattle.std.specs.Prelude.{ℕ, ℤ, Bool, List, Option, Ok}
use Rattle.std.specs.declared.time.Duration.{Duration}
use Rattle.mysql_value_core.specs.declared.value.Value.{Value}
use Rattle.mysql_value_core.specs.ValueOf.{Meaning, bool_value, bytes_value, int_value, option_value, uint_value, wide_int_value, wide_uint_value}
use Rattle.mysql_value_core.specs.DurationValue.{duration_value}

-- `i8`: an `Int`
abbrev pub value_of_i8 : ℤ → Meaning
value_of_i8 = int_value

-- `i16`: an `Int`
abbrev pub value_of_i16 : ℤ → Meaning
value_of_i16 = int_value

-- `i32`: an `Int`
abbrev pub value_of_i32 : ℤ → Meaning
value_of_i32 = int_value

-- `i64`: an `Int`
abbrev pub value_of_i64 : ℤ → Meaning
value_of_i64 = int_value

-- `isize`: an `Int`
abbrev pub value_of_isize : ℤ → Meaning
value_of_isize = int_value

-- `u8`: a `UInt`
abbrev pub value_of_u8 : ℕ → Meaning
value_of_u8 = uint_value

-- `u16`: a `UInt`
abbrev pub value_of_u16 : ℕ → Meaning
value_of_u16 = uint_value

-- `u32`: a `UInt`
abbrev pub value_of_u32 : ℕ → Meaning
value_of_u32 = uint_value

-- `u64`: a `UInt`
abbrev pub value_of_u64 : ℕ → Meaning
value_of_u64 = uint_value

-- `usize`: a `UInt`
abbrev pub value_of_usize : ℕ → Meaning
value_of_usize = uint_value

-- `i128`: an `Int` or a `UInt` that holds it, or else `Bytes`, its decimal text
abbrev pub value_of_i128 : ℤ → Meaning
value_of_i128 = wide_int_value

-- `u128`: a `UInt` that holds it, or else `Bytes`, its decimal text
abbrev pub value_of_u128 : ℕ → Meaning
value_of_u128 = wide_uint_value

-- `bool`: an `Int`, 1 or 0
abbrev pub value_of_bool : Bool → Meaning
value_of_bool = bool_value

-- `Duration`: a `Time`, or none if it is too long
abbrev pub value_of_duration : Duration → Meaning
value_of_duration = duration_value

-- `&[u8]`: `Bytes`
abbrev pub value_of_byte_slice : List ℕ → Meaning
value_of_byte_slice = bytes_value

-- `Vec<u8>`: `Bytes`
abbrev pub value_of_byte_vec : List ℕ → Meaning
value_of_byte_vec = bytes_value

-- `[u8; N]`: `Bytes`
abbrev pub value_of_byte_array : List ℕ → Meaning
value_of_byte_array = bytes_value

-- `CowSlice<u8>`: `Bytes`
abbrev pub value_of_byte_cow : List ℕ → Meaning
value_of_byte_cow = bytes_value

-- `&str`: `Bytes`
abbrev pub value_of_str : List ℕ → Meaning
value_of_str = bytes_value

-- `String`: `Bytes`
abbrev pub value_of_string : List ℕ → Meaning
value_of_string = bytes_value

-- `CowStr`: `Bytes`
abbrev pub value_of_str_cow : List ℕ → Meaning
value_of_str_cow = bytes_value

-- `&T`: that of the `T`
abbrev pub value_of_reference : {T : Type 0} → (T → Meaning) → T → Meaning
value_of_reference value_of argument = value_of argument

-- `Option<T>`: that of the `T`, or `NULL` for none
abbrev pub value_of_option : {T : Type 0} → (T → Meaning) → Option T → Meaning
value_of_option = option_value

-- `Value`: itself
abbrev pub value_of_value : Value → Meaning
value_of_value value = Ok value
