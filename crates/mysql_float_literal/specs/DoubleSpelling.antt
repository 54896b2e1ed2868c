-- The spelling of a double's number. A decimal number has only one, as the law `one_double_text`
-- says: the number of 1.5 is `1.5e0`, and neither `15e-1` nor `01.5e0` nor `1.50e0`.
-- The parts of a number are those by which std reads it: `12.5e-7` has the whole part `12`, a
-- point, the fraction `5` and the exponent `7`, which is negative.
use Rattle.std.specs.Prelude.{◌≡◌, ◌⊎◌, ◌<◌, ◌≤◌, ◌-◌, ◌*◌, ◌^◌, ℕ, Bool, true, false, List, ◌++◌, codes, length, slice_index, if◌then◌else◌}
use Rattle.std.specs.Fmt.{sign_text}
use Rattle.std.specs.Float.Numeral.{Parts, numeral_digits, tens_up, tens_down, text_of, IsWellFormed}
use Rattle.std.specs.Str.{byte}
use Rattle.std.specs.Str.Parse.{digits_value}

-- at least one digit, and a zero before others never
abbrev pub HasNoZeroInFront : List ℕ → Type 0
HasNoZeroInFront digits =
    (0 < length digits) × (slice_index digits 0 ≡ byte "0" → length digits ≡ 1)

-- the digit at this index isn't a zero
abbrev pub IsAboveZeroAt : List ℕ → ℕ → Type 0
IsAboveZeroAt digits index = byte "0" < slice_index digits index

-- at least one digit, and the last isn't a zero
abbrev pub EndsAboveZero : List ℕ → Type 0
EndsAboveZero digits = IsAboveZeroAt digits (length digits - 1)

-- a number near 1, spelled with the exponent 0: `1.5e0`, `12.0e0`, `0.00001e0`
pub record IsSpelledNear (p : Parts) : Type 0 where
  pub exponent_is : (p.exponent ≡ codes "0") × (p.exponent_negative ≡ false)
  -- At most 16 digits stand before the point.
  pub whole_is : HasNoZeroInFront p.whole × (length p.whole ≤ 16)
  -- After the point stands a zero, or digits that don't end in one.
  pub fraction_is : (p.point ≡ true)
      × ((p.fraction ≡ codes "0") ⊎ EndsAboveZero p.fraction)
  -- After `0.` at most four zeros come first, except for zero itself, which is `0.0e0`.
  pub few_zeros : slice_index p.whole 0 ≡ byte "0" → (p.fraction ≡ codes "0")
      ⊎ ((zeros : ℕ) × (zeros ≤ 4) × IsAboveZeroAt p.fraction zeros)

-- any other number, spelled with one digit before the point: `1e16`, `1.5e-7`
pub record IsSpelledFar (p : Parts) : Type 0 where
  pub whole_is : (length p.whole ≡ 1) × IsAboveZeroAt p.whole 0
  pub fraction_is : p.point ≡ true → EndsAboveZero p.fraction
  -- The exponent is at least 16, or at most -6.
  pub exponent_is : HasNoZeroInFront p.exponent
      × ((if p.exponent_negative then 6 else 16) ≤ digits_value 10 p.exponent)

-- the parts are those of a number, in one of the two spellings
pub record IsSpelled (p : Parts) : Type 0 where
  pub well_formed : IsWellFormed p
  pub near_or_far : IsSpelledNear p ⊎ IsSpelledFar p

-- a spelling of the text of a double: an optional minus, and parts in their spelling
pub record DoubleSpelling (text : List ℕ) : Type 0 where
  pub negative : Bool
  pub parts : Parts
  pub spelled : IsSpelled parts
  pub text_is : text ≡ sign_text negative ++ text_of parts

-- the text has such a spelling (`∥ .. ∥₁` says that there is one)
abbrev pub IsSpelledDouble : List ℕ → Type 0
IsSpelledDouble text = ∥ DoubleSpelling text ∥₁

-- The parts write the same number, by std's reading: the digits times a power of ten, over another
-- one. Both sides are multiplied by both divisors.
abbrev pub AreSameNumber : Parts → Parts → Type 0
AreSameNumber p q =
    numeral_digits p * 10 ^ tens_up p * 10 ^ tens_down q
    ≡ numeral_digits q * 10 ^ tens_up q * 10 ^ tens_down p
