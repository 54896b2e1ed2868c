-- Which of two decimals beside each other is closer to a double.
use Rattle.std.proofs.Common.{◌≡◌, ℕ, ◌+◌, ◌-◌, ◌*◌, ◌/◌, ◌%◌, ◌^◌, ◌<◌, ◌≤◌, ◌⊎◌, inl, inr, refl, sym, ap, ◌∙◌, subst, arith, pow-add, mul_assoc, mul_comm, mul_right_comm, mul-le-mul_right, mul-lt-mul_of_pos_right, mul-pos, le_of_mul-le-mul_right}
use lib.Ieee.{Float, binary64, of_bits}
use Rattle.mysql_float_literal.specs.DoubleDigits.{Decimal, AreSameDecimal, apart, size_above, size_below, IsNoFarther, IsShortest, IsClosest}
use Rattle.mysql_float_literal.specs.DigitSteps.{with_power, IsReadAs, IsReading, IsWithinTen, HasNoDigitToSpare, IsBetter, IsBetterThanNext}
use Rattle.mysql_float_literal.proofs.DigitLemmas.{order, ten_pos}
use Rattle.mysql_float_literal.proofs.ShortestLemmas.{at, shortest_at, shortest_digit}
use Rattle.mysql_float_literal.proofs.ClosestLemmas.{below_pos, digit_count, closest_at}
use Rattle.mysql_float_literal.proofs.ReadsLemmas.{not_zero, less_zero}

-- ---- by twice the double against the two together

line_low : (m n x : ℕ) → m ≤ n → 2 * x ≤ m + n → apart m x ≤ apart n x
line_low m n x h l = omega arith

line_high : (m n x : ℕ) → m ≤ n → m + n ≤ 2 * x → apart n x ≤ apart m x
line_high m n x h l = omega arith

line_low_only : (m n x : ℕ) → m < n → 2 * x < m + n → apart n x ≤ apart m x → ⊥
line_low_only m n x h l k = omega arith

line_high_only : (m n x : ℕ) → m < n → m + n < 2 * x → apart m x ≤ apart n x → ⊥
line_high_only m n x h l k = omega arith

module _ (tens places m : ℕ) (x : Float) where
  abbrev X : ℕ
  X = size_above x * 10 ^ places

  abbrev M : ℕ
  M = m * 10 ^ tens * size_below x

  abbrev N : ℕ
  N = (m + 1) * 10 ^ tens * size_below x

  abbrev twice : ℕ
  twice = 2 * size_above x * 10 ^ places

  abbrev middle : ℕ
  middle = (2 * m + 1) * 10 ^ tens * size_below x

  twice_is : twice ≡ 2 * X
  twice_is = mul_assoc 2 (size_above x) (10 ^ places)

  middle_is : middle ≡ M + N
  middle_is = sum m (10 ^ tens) (size_below x)
    where
      sum : (m t b : ℕ) → (2 * m + 1) * t * b ≡ m * t * b + (m + 1) * t * b
      sum m t b =
          let one : (m + 1) * t ≡ m * t + t = omega arith in
          let both : (2 * m + 1) * t ≡ m * t + (m + 1) * t = omega arith in
          ap (λ n. n * b) both ∙ omega (arith, mul_comm (m * t + (m + 1) * t) b, mul_comm (m * t) b, mul_comm ((m + 1) * t) b)

  less : M < N
  less = mul-lt-mul_of_pos_right (mul-lt-mul_of_pos_right (omega arith) (ten_pos tens)) (below_pos x)

  abbrev low : Decimal
  low = at tens places m

  abbrev high : Decimal
  high = at tens places (m + 1)

  low_near : twice ≤ middle → IsNoFarther x low high
  low_near h = mul-le-mul_right (10 ^ places) (line_low M N X (omega (arith, less)) (omega (arith, h, twice_is, middle_is)))

  high_near : middle ≤ twice → IsNoFarther x high low
  high_near h = mul-le-mul_right (10 ^ places) (line_high M N X (omega (arith, less)) (omega (arith, h, twice_is, middle_is)))

  low_only : twice < middle → IsNoFarther x high low → ⊥
  low_only h near = line_low_only M N X less (omega (arith, h, twice_is, middle_is)) (le_of_mul-le-mul_right {k = 10 ^ places} near (ten_pos places))

  high_only : middle < twice → IsNoFarther x low high → ⊥
  high_only h near = line_high_only M N X less (omega (arith, h, twice_is, middle_is)) (le_of_mul-le-mul_right {k = 10 ^ places} near (ten_pos places))

  -- the same digits by another name
  at_same : (k n : ℕ) → k ≡ n → AreSameDecimal (at tens places k) (at tens places n)
  at_same k n e = ap (λ d. d * 10 ^ tens * 10 ^ places) e

  pub low_better : twice < middle → IsBetter x low high
  low_better h = inr (low_near (omega (arith, h)), λ near. absurd (low_only h near))

  pub high_better : middle < twice → IsBetter x high low
  high_better h = inr (high_near (omega (arith, h)), λ near. absurd (high_only h near))

  pub low_even : twice ≡ middle → m % 2 ≡ 0 → IsBetter x low high
  low_even h even = inr (low_near (omega (arith, h)), λ near. (m / 2, m / 2, tens, places, at_same _ _ (omega arith), at_same _ _ (omega arith)))

  pub high_even : twice ≡ middle → m % 2 ≡ 1 → IsBetter x high low
  high_even h odd = inr (high_near (omega (arith, h)), λ near. ((m + 1) / 2, m / 2, tens, places, at_same _ _ (omega arith), at_same _ _ (omega arith)))

-- ---- the decimal that no step betters

pub last_above : (bits power digits : ℕ) → IsReadAs bits power digits → IsWithinTen bits power digits → 0 < digits % 10
last_above bits power digits read within =
    elim (order 0 (digits % 10)) [
      | inl l ↦ l
      | inr g ↦ let e : digits ≡ 10 * (digits / 10) = omega arith in absurd (within.0 (subst (IsReadAs bits power) e read))
    ]

-- a decimal beside it that reads as the double has no digit to spare either
pub within_next : (bits power digits : ℕ) → IsReadAs bits power (digits + 1) → IsWithinTen bits power digits → (digits % 10 < 9) × IsWithinTen bits power (digits + 1)
within_next bits power digits read within =
    let few : digits % 10 < 9 = elim (order (digits % 10) 9) [
      | inl l ↦ l
      | inr g ↦ let e : digits + 1 ≡ 10 * (digits / 10 + 1) = omega arith in absurd (within.1 (subst (IsReadAs bits power) e read))
    ] in
    let same : digits / 10 ≡ (digits + 1) / 10 = omega arith in
    (few, subst (λ q. (IsReadAs bits power (10 * q) → ⊥) × (IsReadAs bits power (10 * (q + 1)) → ⊥)) same within)

pub reading_next : (bits power digits : ℕ) → IsReading bits power digits → IsReadAs bits power (digits + 1) → IsWithinTen bits power digits
    → IsReading bits power (digits + 1) × IsWithinTen bits power (digits + 1)
reading_next bits power digits h read within =
    let next = within_next bits power digits read within in
    (record { finite = h.finite; digits_fit = (omega arith, omega (arith, next.0, h.digits_fit.1)); power_fits = h.power_fits; read = read }, next.1)

pub within_previous : (bits power digits : ℕ) → IsReadAs bits power digits → IsWithinTen bits power digits → IsWithinTen bits power (digits - 1)
within_previous bits power digits read within =
    let some = last_above bits power digits read within in
    let same : digits / 10 ≡ (digits - 1) / 10 = omega arith in
    subst (λ q. (IsReadAs bits power (10 * q) → ⊥) × (IsReadAs bits power (10 * (q + 1)) → ⊥)) same within

pub spare_previous : (bits power digits : ℕ) → IsReadAs bits power digits → HasNoDigitToSpare bits power digits → HasNoDigitToSpare bits power (digits - 1)
spare_previous bits power digits read h = elim h [ inl few ↦ inl (omega arith) | inr within ↦ inr (within_previous bits power digits read within) ]

pub shortest_here : (bits power digits : ℕ) → IsReading bits power digits → HasNoDigitToSpare bits power digits → IsShortest Rattle.std.proofs.Common.false (with_power power digits)
shortest_here bits power digits h spare =
    elim spare [
      | inl few ↦ shortest_digit (power - 342) (342 - power) digits few (λ same. not_zero bits power h.finite (same ∙ h.read))
      | inr within ↦ shortest_at (power - 342) (342 - power) digits (of_bits binary64 bits) h.read within.0 within.1
    ]

-- one digit fewer than the digits that it has, and it is no power of ten
not_ten : (bits power digits n : ℕ) → IsReading bits power digits → HasNoDigitToSpare bits power digits → 1 < digits → 10 ^ n ≤ digits → 10 ^ n < digits
not_ten bits power digits Rattle.std.proofs.Common.zero h spare more many = omega (arith, more)
not_ten bits power digits (Rattle.std.proofs.Common.suc n) h spare more many =
    let ten : 10 ^ Rattle.std.proofs.Common.suc n ≡ 10 ^ n * 10 = Rattle.std.proofs.Common.pow-suc 10 n in
    let some : 1 ≤ 10 ^ n = ten_pos n in
    elim spare [
      | inl few ↦ absurd (omega (arith, ten, some, few, many))
      | inr within ↦ let last = last_above bits power digits h.read within in omega (arith, ten, many, last)
    ]

pub closest_here : (bits power digits fine_power fine_digits : ℕ) → IsReading bits power digits → HasNoDigitToSpare bits power digits
    → AreSameDecimal (with_power power digits) (with_power fine_power fine_digits) → (digits ≡ 1 → fine_digits ≡ 10) → (1 < digits → fine_digits ≡ digits)
    → IsBetter (of_bits binary64 bits) (with_power power digits) (with_power fine_power (fine_digits - 1)) → IsBetterThanNext bits power digits
    → IsClosest Rattle.std.proofs.Common.false (with_power power digits)
closest_here bits power digits fine_power fine_digits h spare same one more down up =
    let count = digit_count digits 18 h.digits_fit.0 h.digits_fit.1 in
    closest_at (power - 342) (342 - power) digits count.0 (fine_power - 342) (342 - fine_power) fine_digits (of_bits binary64 bits) h.read count.1 count.2 same
    (large count.0 count.1 (order 1 digits)) down up
  where
    large : (n : ℕ) → 10 ^ n ≤ digits → (1 < digits) ⊎ (digits ≤ 1) → 10 ^ n < fine_digits
    large n many (inl above) = let e = more above in omega (arith, e, not_ten bits power digits n h spare above many)
    large n many (inr below) = let e = one (omega (arith, below, h.digits_fit.0)) in omega (arith, e, many, below)

-- a 1 is a 10 in the unit below
pub ten_below : (power : ℕ) → 0 < power → AreSameDecimal (with_power power 1) (with_power (power - 1) 10)
ten_below power some =
    let up : power - 1 + 1 ≡ power = omega arith in
    sym (subst (λ p. AreSameDecimal (with_power (power - 1) (10 * 1)) (with_power p 1)) up (less_zero (power - 1) 1))

pub spare_finer : (bits power digits fine_power fine_digits : ℕ) → IsReading bits power digits → HasNoDigitToSpare bits power digits
    → (digits ≡ 1 → (fine_power + 1 ≡ power) × (fine_digits ≡ 10)) → (1 < digits → (fine_power ≡ power) × (fine_digits ≡ digits)) → HasNoDigitToSpare bits fine_power (fine_digits - 1)
spare_finer bits power digits fine_power fine_digits h spare one more =
    elim (order 1 digits) [
      | inl l ↦ let e = more l in subst (λ p. HasNoDigitToSpare bits p (fine_digits - 1)) (sym e.0) (subst (λ d. HasNoDigitToSpare bits power (d - 1)) (sym e.1) (spare_previous bits power digits h.read spare))
      | inr g ↦ let e = one (omega (arith, g, h.digits_fit.0)) in inl (omega (arith, e.1))
    ]

-- its last digit isn't a zero
pub trimmed_here : (bits power digits : ℕ) → IsReading bits power digits → HasNoDigitToSpare bits power digits → 0 < digits % 10
trimmed_here bits power digits h spare = elim spare [ inl few ↦ omega (arith, few, h.digits_fit.0) | inr within ↦ last_above bits power digits h.read within ]
