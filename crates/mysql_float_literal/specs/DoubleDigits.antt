-- The digits of a double's number: the fewest with which a number reads as the double, and of these
-- the closest to it. `one_double_text` says that only one text has them.
use Rattle.std.specs.Prelude.{◌≡◌, ◌⊎◌, ◌<◌, ◌≤◌, ◌+◌, ◌-◌, ◌*◌, ◌^◌, ℕ, Bool, List, ◌==◌, drop, slice_index}
use Rattle.std.specs.Float.{binary64}
use Rattle.std.specs.Float.Ieee.{Float, nan, inf, fin, up, down, round}
use Rattle.std.specs.Float.Numeral.{minus, Parts, scan_numeral, numeral_digits, tens_up, tens_down}
use Rattle.std.specs.Float.Parse.{sign_len}

-- the number digits * 10 ^ tens / 10 ^ places: 1.5 is 15 / 10 ^ 1
pub record Decimal : Type 0 where
  pub digits : ℕ
  pub tens : ℕ
  pub places : ℕ

-- the number of these parts
abbrev pub decimal_of : Parts → Decimal
decimal_of p = record { digits = numeral_digits p; tens = tens_up p; places = tens_down p }

-- the number with this sign reads as this double: the nearest one, at a tie the even one
abbrev pub nearest_double : Bool → Decimal → Float
nearest_double negative d = round binary64 negative (d.digits * 10 ^ d.tens) (10 ^ d.places)

-- ---- as few digits

-- its digits are at most so many, and then zeros: 15000 has two
abbrev pub HasAtMost : ℕ → Decimal → Type 0
HasAtMost count d =
    (digits : ℕ) × (zeros : ℕ) × (digits < 10 ^ count) × (d.digits ≡ digits * 10 ^ zeros)

-- no number with fewer digits reads as the double
abbrev pub IsShortest : Bool → Decimal → Type 0
IsShortest negative d =
    (other : Decimal) (count : ℕ) → nearest_double negative other ≡ nearest_double negative d
    → HasAtMost count other → HasAtMost count d

-- ---- as close

-- one number: both sides are multiplied by both divisors
abbrev pub AreSameDecimal : Decimal → Decimal → Type 0
AreSameDecimal d e = d.digits * 10 ^ d.tens * 10 ^ e.places ≡ e.digits * 10 ^ e.tens * 10 ^ d.places

-- the size of a finite float is size_above / size_below: what stands above
abbrev pub size_above : Float → ℕ
size_above nan = 0
size_above (inf s) = 0
size_above (fin s m e) = m * up e

-- and what stands below
abbrev pub size_below : Float → ℕ
size_below nan = 1
size_below (inf s) = 1
size_below (fin s m e) = down e

-- how far two numbers lie apart
abbrev pub apart : ℕ → ℕ → ℕ
apart a b = (a - b) + (b - a)

-- how far the number lies from the float's size, times both divisors
abbrev pub distance : Float → Decimal → ℕ
distance x d = apart (d.digits * 10 ^ d.tens * size_below x) (size_above x * 10 ^ d.places)

-- d is as close to the float as e, or closer
abbrev pub IsNoFarther : Float → Decimal → Decimal → Type 0
IsNoFarther x d e = distance x d * 10 ^ e.places ≤ distance x e * 10 ^ d.places

-- d has at most as many digits as e
abbrev pub HasNoMoreDigits : Decimal → Decimal → Type 0
HasNoMoreDigits d e = (count : ℕ) → HasAtMost count e → HasAtMost count d

-- in one unit, a power of ten, d is even and e is odd: 12 beside 13, or 10 beside 9
abbrev pub IsEvenBeside : Decimal → Decimal → Type 0
IsEvenBeside d e =
    (half : ℕ) × (other_half : ℕ) × (tens : ℕ) × (places : ℕ)
    × AreSameDecimal d (record { digits = 2 * half; tens = tens; places = places })
    × AreSameDecimal e (record { digits = 2 * other_half + 1; tens = tens; places = places })

-- Of the numbers that read as the double with as few digits it is the closest. Of two that are as
-- close it is the even one.
abbrev pub IsClosest : Bool → Decimal → Type 0
IsClosest negative d =
    (other : Decimal) → nearest_double negative other ≡ nearest_double negative d
    → HasNoMoreDigits other d
    → IsNoFarther (nearest_double negative d) d other
    × (IsNoFarther (nearest_double negative d) other d
    → AreSameDecimal d other ⊎ IsEvenBeside d other)

-- ---- a text

-- the number that std reads in a text, without its sign
abbrev pub number_in : List ℕ → Decimal
number_in text = decimal_of (scan_numeral (drop (sign_len text) text))

-- a minus comes first
abbrev pub begins_minus : List ℕ → Bool
begins_minus text = slice_index text 0 == minus

-- No number with fewer digits reads as the double that the text reads as (`∥ .. ∥₁`: there is a
-- proof of it).
abbrev pub HasShortestDigits : List ℕ → Type 0
HasShortestDigits text = ∥ IsShortest (begins_minus text) (number_in text) ∥₁

-- of the numbers with as few digits that do it is the closest to the double
abbrev pub HasClosestDigits : List ℕ → Type 0
HasClosestDigits text = ∥ IsClosest (begins_minus text) (number_in text) ∥₁
