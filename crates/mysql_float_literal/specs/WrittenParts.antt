-- The text of a decimal, by numbers: the parts of the text and how many digits each has.
use Rattle.std.specs.Prelude.{◌≡◌, ◌⊎◌, ◌<◌, ◌≤◌, ◌+◌, ◌-◌, ◌*◌, ◌/◌, ◌%◌, ◌^◌, ℕ, zero, suc, Bool, true, false, List, [], ◌∷◌, ◌++◌, length, nat_lt, if◌then◌else◌}
use Rattle.std.specs.Float.Numeral.{Parts, dot, exponent_text}
use Rattle.mysql_float_literal.specs.DoubleDigits.{Decimal, AreSameDecimal, IsShortest, IsClosest}
use Rattle.mysql_float_literal.specs.DigitSteps.{with_power, IsReadAs}
use Rattle.mysql_float_literal.specs.declared.write.Layout.{Layout}

-- so many digits of a number, with zeros in front
abbrev pub padded : ℕ → ℕ → List ℕ
padded zero n = []
padded (suc width) n = padded width (n / 10) ++ (48 + n % 10) ∷ []

-- a point and digits, or nothing if there are no digits
abbrev pub fraction_text : ℕ → ℕ → List ℕ
fraction_text width n = if nat_lt 0 width then dot ∷ padded width n else []

-- the parts of the text that the layout writes
abbrev pub layout_parts : Layout → Parts
layout_parts l = record {
  whole = padded l.whole_width l.whole;
  point = nat_lt 0 l.fraction_width;
  fraction = padded l.fraction_width l.fraction;
  exponent_negative = l.exponent_negative;
  exponent = padded l.exponent_width l.exponent;
  len = length (padded l.whole_width l.whole ++ (fraction_text l.fraction_width l.fraction
      ++ exponent_text l.exponent_negative (padded l.exponent_width l.exponent)));
}

-- the number that the layout writes
abbrev pub layout_decimal : Layout → Decimal
layout_decimal l = record {
  digits = l.whole * 10 ^ l.fraction_width + l.fraction;
  tens = if l.exponent_negative then 0 else l.exponent;
  places = l.fraction_width + (if l.exponent_negative then l.exponent else 0);
}

-- no zero in front of other digits
abbrev pub IsTight : ℕ → ℕ → Type 0
IsTight width n = (0 < width) × (n < 10 ^ width) × ((width ≡ 1) ⊎ (10 ^ (width - 1) ≤ n))

-- a zero alone, or digits that don't end in one
abbrev pub IsTrimmed : ℕ → ℕ → Type 0
IsTrimmed width n = ((width ≡ 1) × (n ≡ 0)) ⊎ (0 < n % 10)

-- with the exponent 0
pub record IsNearLayout (l : Layout) : Type 0 where
  pub exponent_is : (l.exponent ≡ 0) × (l.exponent_width ≡ 1) × (l.exponent_negative ≡ false)
  pub whole_is : l.whole_width ≤ 16
  pub fraction_is : (0 < l.fraction_width) × IsTrimmed l.fraction_width l.fraction
  pub few_zeros : l.whole ≡ 0 → ((l.fraction_width ≡ 1) × (l.fraction ≡ 0))
      ⊎ (10 ^ (l.fraction_width - 5) ≤ l.fraction)

-- with another one
pub record IsFarLayout (l : Layout) : Type 0 where
  pub whole_is : (l.whole_width ≡ 1) × (0 < l.whole)
  pub fraction_is : 0 < l.fraction_width → 0 < l.fraction % 10
  pub exponent_is : (if l.exponent_negative then 6 else 16) ≤ l.exponent

-- it is that of a spelled number, with room for it
pub record IsSpelledLayout (l : Layout) : Type 0 where
  pub whole_fits : IsTight l.whole_width l.whole
  pub fraction_fits : l.fraction < 10 ^ l.fraction_width
  pub exponent_fits : IsTight l.exponent_width l.exponent
  pub near_or_far : IsNearLayout l ⊎ IsFarLayout l
  pub room : l.whole_width + l.fraction_width + l.exponent_width
      + (if l.exponent_negative then 1 else 0) ≤ 24

-- it writes this decimal, perhaps with zeros behind its digits
pub record IsLayoutOf (power digits : ℕ) (l : Layout) : Type 0 where
  pub same : AreSameDecimal (with_power power digits) (layout_decimal l)
  pub zeros : ℕ
  pub digits_are : l.whole * 10 ^ l.fraction_width + l.fraction ≡ digits * 10 ^ zeros

-- the exponent of a number with one digit before the point, where `point` - 342 digits stand before
-- the point without it
abbrev pub IsFarExponent : ℕ → Bool → ℕ → Type 0
IsFarExponent point true exponent = (point + exponent ≡ 343) × (6 ≤ exponent)
IsFarExponent point false exponent = (point ≡ 343 + exponent) × (16 ≤ exponent)

-- it is that of the double above 0 or at 0 with these bits: of its shortest digits the closest
pub record IsLayoutOfDouble (bits : ℕ) (l : Layout) : Type 0 where
  pub spelled : IsSpelledLayout l
  pub power : ℕ
  pub digits : ℕ
  pub value : IsLayoutOf power digits l
  pub read : IsReadAs bits power digits
  pub shortest : IsShortest false (with_power power digits)
  pub closest : IsClosest false (with_power power digits)
