-- Whole-number types: the numbers that they hold, and the conversions of values to them.
use Rattle.std.specs.Prelude.{ℕ, ◌-◌, ◌^◌, nat_lt, Bool, true, false, ◌||◌, if◌then◌else◌, ℤ, pos, negsuc, unsigned_abs, Option, None, Some}
use Rattle.std.specs.Option.{option_map, option_and_then}
use Rattle.mysql_value_core.specs.ValueOf.{is_int, is_uint}
use Rattle.mysql_value_core.specs.declared.value.Value.{Value}
use Rattle.mysql_value_core.specs.declared.value.Value.TheVariants.{Bytes, Int, UInt}
use Rattle.mysql_values.specs.declared.value.convert.intermediate.ParseIrOpt.{ParseIrOpt}
use Rattle.mysql_values.specs.declared.value.convert.intermediate.ParseIrOpt.TheVariants.{Ready, Parsed}
use Rattle.mysql_values.specs.Decimal.{decimal_number}

-- The parameters of a whole-number type. Contracts see its numbers as those of `T`.
pub record WholeType (T : Type 0) : Type 0 where
  -- whether it has negative numbers
  pub is_signed : Bool
  -- the bits of a number
  pub width : ℕ
  -- a number that it holds, as a number of the type
  pub of_number : ℤ → T

-- a type of this width with negative numbers
abbrev pub signed_type : ℕ → WholeType ℤ
signed_type width = record { is_signed = true; width = width; of_number = λ number. number }

-- a type of this width without negative numbers
abbrev pub unsigned_type : ℕ → WholeType ℕ
unsigned_type width = record { is_signed = false; width = width; of_number = unsigned_abs }

-- `i8`: 8 bits, with negative numbers
abbrev pub i8_type : WholeType ℤ
i8_type = signed_type 8

-- `i16`: 16 bits, with negative numbers
abbrev pub i16_type : WholeType ℤ
i16_type = signed_type 16

-- `i32`: 32 bits, with negative numbers
abbrev pub i32_type : WholeType ℤ
i32_type = signed_type 32

-- `i64`: 64 bits, with negative numbers
abbrev pub i64_type : WholeType ℤ
i64_type = signed_type 64

-- `i128`: 128 bits, with negative numbers
abbrev pub i128_type : WholeType ℤ
i128_type = signed_type 128

-- `isize`: 64 bits, with negative numbers
abbrev pub isize_type : WholeType ℤ
isize_type = signed_type 64

-- `u8`: 8 bits, without negative numbers
abbrev pub u8_type : WholeType ℕ
u8_type = unsigned_type 8

-- `u16`: 16 bits, without negative numbers
abbrev pub u16_type : WholeType ℕ
u16_type = unsigned_type 16

-- `u32`: 32 bits, without negative numbers
abbrev pub u32_type : WholeType ℕ
u32_type = unsigned_type 32

-- `u64`: 64 bits, without negative numbers
abbrev pub u64_type : WholeType ℕ
u64_type = unsigned_type 64

-- `u128`: 128 bits, without negative numbers
abbrev pub u128_type : WholeType ℕ
u128_type = unsigned_type 128

-- `usize`: 64 bits, without negative numbers
abbrev pub usize_type : WholeType ℕ
usize_type = unsigned_type 64

-- A type of this width, with negative numbers or without, holds the number. `negsuc n` is the
-- number -(n + 1).
abbrev pub holds : Bool → ℕ → ℤ → Bool
holds true width (pos n) = nat_lt n (2 ^ (width - 1))
holds true width (negsuc n) = nat_lt n (2 ^ (width - 1))
holds false width (pos n) = nat_lt n (2 ^ width)
holds false width (negsuc n) = false

-- the number as a number of the type, if the type holds it
abbrev pub number_in_type : {T : Type 0} → Bool → ℕ → (ℤ → T) → ℤ → Option T
number_in_type is_signed width of_number number =
    if holds is_signed width number then Some (of_number number) else None

-- the conversion of a value, by a conversion of its number
abbrev pub conversion_by : {T : Type 0} → (ℤ → Option T) → Value → Option (ParseIrOpt T)
conversion_by to_type (Int number) = option_map Ready (to_type number)
conversion_by to_type (UInt number) = option_map Ready (to_type (pos number))
conversion_by to_type (Bytes bytes) =
    option_map (λ x. Parsed x (Bytes bytes)) (option_and_then to_type (decimal_number bytes))
conversion_by to_type _ = None

-- the conversion of a value to a whole-number type
abbrev pub whole_conversion : {T : Type 0} → Bool → ℕ → (ℤ → T) → Value → Option (ParseIrOpt T)
whole_conversion is_signed width of_number =
    conversion_by (number_in_type is_signed width of_number)

-- the number is that of an `Int` or a `UInt`
abbrev pub is_int_or_uint : ℤ → Bool
is_int_or_uint number = is_int number || is_uint number
