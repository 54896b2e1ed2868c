-- What the steps to the digits of a double say. They speak of the double above 0 with some bits,
-- and of the decimal digits * 10 ^ (power - 342).
use Rattle.std.specs.Prelude.{◌≡◌, ◌⊎◌, ◌<◌, ◌≤◌, ◌+◌, ◌-◌, ◌*◌, ◌/◌, ◌%◌, ◌^◌, ℕ, false, from_bits}
use Rattle.std.specs.Float.{binary64}
use Rattle.std.specs.Float.Ieee.{Float}
use Rattle.fast_float.specs.Rounding.{scaled_bits}
use Rattle.ryu.specs.Scaled.{IsScaled}
use Rattle.mysql_float_literal.specs.DoubleDigits.{Decimal, nearest_double, size_above, size_below, IsNoFarther, IsEvenBeside}
use Rattle.mysql_float_literal.specs.declared.quick.Scaled.{Scaled}

-- the decimal digits * 10 ^ (power - 342)
abbrev pub with_power : ℕ → ℕ → Decimal
with_power power digits = record { digits = digits; tens = power - 342; places = 342 - power }

-- it reads as the double with these bits
abbrev pub IsReadAs : ℕ → ℕ → ℕ → Type 0
IsReadAs bits power digits =
    nearest_double false (with_power power digits) ≡ from_bits binary64 bits

-- the bits of a finite double above 0
abbrev pub AreFiniteBits : ℕ → Type 0
AreFiniteBits bits = (0 < bits) × (bits < 0x7ff0000000000000)

-- a decimal of at most 18 digits that reads as the double
pub record IsReading (bits power digits : ℕ) : Type 0 where
  pub finite : AreFiniteBits bits
  pub digits_fit : (0 < digits) × (digits < 10 ^ 18)
  pub power_fits : power < 651
  pub read : IsReadAs bits power digits

-- neither the multiple of ten below nor the one above reads as the double
abbrev pub IsWithinTen : ℕ → ℕ → ℕ → Type 0
IsWithinTen bits power digits =
    ¬ (IsReadAs bits power (10 * (digits / 10))) × ¬ (IsReadAs bits power (10 * (digits / 10 + 1)))

-- it has one digit, or none of its digits can go
abbrev pub HasNoDigitToSpare : ℕ → ℕ → ℕ → Type 0
HasNoDigitToSpare bits power digits = (digits < 10) ⊎ IsWithinTen bits power digits

-- d is as close to x as e, at a tie the even one, or e reads as another double
abbrev pub IsBetter : Float → Decimal → Decimal → Type 0
IsBetter x d e = ¬ (nearest_double false e ≡ x)
    ⊎ (IsNoFarther x d e × (IsNoFarther x e d → IsEvenBeside d e))

-- and so it is beside the next one in its last place
abbrev pub IsBetterThanNext : ℕ → ℕ → ℕ → Type 0
IsBetterThanNext bits power digits =
    IsBetter (from_bits binary64 bits) (with_power power digits) (with_power power (digits + 1))

-- the double is significand * 2 ^ exponent / 2 ^ 1074, which is the least double above 0
pub record IsSignificandOf (bits significand exponent : ℕ) : Type 0 where
  pub fits : significand < 2 ^ 53
  pub normal : 0 < exponent → 2 ^ 52 ≤ significand
  pub exponent_fits : exponent ≤ 2045
  pub bits_are : scaled_bits binary64 significand exponent ≡ bits
  pub size : size_above (from_bits binary64 bits) * 2 ^ 1074
      ≡ significand * 2 ^ exponent * size_below (from_bits binary64 bits)

-- the decimal is at most the double
abbrev pub IsAtMostDouble : ℕ → ℕ → ℕ → Type 0
IsAtMostDouble bits power digits =
    digits * 10 ^ (power - 342) * size_below (from_bits binary64 bits)
    ≤ size_above (from_bits binary64 bits) * 10 ^ (342 - power)

-- the decimal is above the double
abbrev pub IsAboveDouble : ℕ → ℕ → ℕ → Type 0
IsAboveDouble bits power digits =
    size_above (from_bits binary64 bits) * 10 ^ (342 - power)
    < digits * 10 ^ (power - 342) * size_below (from_bits binary64 bits)

-- ---- by one product

-- the same decimal, and the last digit isn't a zero
pub record IsLessZeros (power digits found_power found : ℕ) : Type 0 where
  pub zeros : ℕ
  pub power_is : found_power ≡ power + zeros
  pub digits_are : digits ≡ found * 10 ^ zeros
  pub last : 0 < found % 10

-- the double m * 2 ^ k / 2 ^ 1074 over 10 ^ (power - 341), as ryu scales it: its power is 58 more
abbrev pub IsScaledDouble : ℕ → ℕ → Scaled → Type 0
IsScaledDouble m k s = IsScaled binary64 m k
    (record { whole = s.whole; fraction = s.fraction; half_gap = s.half_gap; power = s.power + 58 })

-- the whole part and the 64 bits after the point, as one number
abbrev pub fixed : Scaled → ℕ
fixed s = s.whole * 2 ^ 64 + s.fraction

-- Which decimals read as the double, where those bits tell it. A decimal at this power has 2 ^ 64
-- where the fixed number has ten.
pub record IsTold (bits : ℕ) (s : Scaled) (up_gap : ℕ) : Type 0 where
  pub finite : AreFiniteBits bits
  pub sizes : (s.power < 645) × (s.whole ≤ 2 ^ 54)
  pub large : 922337203685477600 < s.half_gap → 1 < s.whole
  pub read : (d : ℕ) → 10 * (fixed s + 2) ≤ d * 2 ^ 64 + 10 * s.half_gap
      → d * 2 ^ 64 < 10 * fixed s + 10 * s.half_gap → IsReadAs bits s.power d
  pub low : (d : ℕ) → d * 2 ^ 64 + 10 * (s.half_gap + 1) ≤ 10 * fixed s
      → ¬ (IsReadAs bits s.power d)
  pub high : (d : ℕ) → 10 * (fixed s + 2) + 10 * (up_gap + 2) ≤ d * 2 ^ 64
      → ¬ (IsReadAs bits s.power d)
  -- twice the double against a decimal
  pub less : (d : ℕ) → 20 * (fixed s + 2) ≤ d * 2 ^ 64
      → 2 * size_above (from_bits binary64 bits) * 10 ^ (342 - s.power)
      < d * 10 ^ (s.power - 342) * size_below (from_bits binary64 bits)
  pub more : (d : ℕ) → d * 2 ^ 64 < 20 * fixed s
      → d * 10 ^ (s.power - 342) * size_below (from_bits binary64 bits)
      < 2 * size_above (from_bits binary64 bits) * 10 ^ (342 - s.power)
