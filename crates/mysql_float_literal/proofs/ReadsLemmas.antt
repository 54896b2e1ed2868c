-- Which bits a decimal reads as.
use Rattle.std.proofs.Common.{◌≡◌, ℕ, ◌+◌, ◌-◌, ◌*◌, ◌%◌, ◌^◌, ◌<◌, ◌≤◌, Bool, false, not, T, inl, inr, sym, ap, ◌∙◌, subst, arith, mod-eq_of_lt, mul_assoc, pow-add}
use Rattle.std.proofs.lemmas.Float.{not_nan_f64_bits}
use lib.Ieee.{binary64, of_bits, to_bits}
use lib.Ieee.Bits.{nan_bits_is, to_bits-of_bits}
use lib.Dec.{lit≤}
use lib.Ieee.Scale.{round_same}
use Rattle.fast_float.specs.Rounding.{IsNearestBits}
use Rattle.core.proofs.dec2flt.Extremes.{nearest_of_tiny, nearest_of_huge, nearest_of_zero, tens_le, tens_eq}
use Rattle.mysql_float_literal.specs.DoubleDigits.{Decimal, nearest_double, AreSameDecimal}
use Rattle.mysql_float_literal.specs.DigitSteps.{with_power, IsReadAs, AreFiniteBits, IsReading}
use Rattle.mysql_float_literal.proofs.DigitLemmas.{order, ten_pos}

number_bits : (b : ℕ) → b ≤ 0x7ff0000000000000 → to_bits binary64 (of_bits binary64 b) ≡ b
number_bits b h =
    let small : b % 0x8000000000000000 ≡ b = mod-eq_of_lt (omega (arith, h)) in
    to_bits-of_bits binary64 b (omega (arith, h)) (subst (λ k. T (not k)) (nan_bits_is binary64 b) (not_nan_f64_bits b (omega (arith, h, small))))

-- bits up to infinity's stand for one float each
pub same_bits : (a b : ℕ) → a ≤ 0x7ff0000000000000 → b ≤ 0x7ff0000000000000 → of_bits binary64 a ≡ of_bits binary64 b → a ≡ b
same_bits a b h k e = sym (number_bits a h) ∙ (ap (to_bits binary64) e ∙ number_bits b k)

pub other_bits : (bits power digits found : ℕ) → bits < 0x7ff0000000000000 → IsNearestBits binary64 (digits * 10 ^ (power - 342)) (10 ^ (342 - power)) found → IsReadAs bits power digits → found ≡ bits
other_bits bits power digits found h near read = same_bits found bits near.1 (omega (arith, h)) (near.0 ∙ read)

-- numbers of one value read alike
pub read_same : (negative : Bool) (d e : Decimal) → AreSameDecimal d e → nearest_double negative d ≡ nearest_double negative e
read_same negative d e h = round_same binary64 negative _ _ _ _ (ten_pos d.places) (ten_pos e.places) h

-- nothing reads as a double above 0
pub not_zero : (bits power : ℕ) → AreFiniteBits bits → IsReadAs bits power 0 → ⊥
not_zero bits power h read = omega (arith, h.0, other_bits bits power 0 0 h.1 (nearest_of_zero binary64 (0 * 10 ^ (power - 342)) (10 ^ (342 - power)) (ten_pos (342 - power)) (omega arith)) read)

-- a zero can be taken off the digits of a decimal
pub less_zero : (power digits : ℕ) → AreSameDecimal (with_power power (10 * digits)) (with_power (power + 1) digits)
less_zero power digits = turned (power - 342) (342 - (power + 1)) (power + 1 - 342) (342 - power) (omega arith)
  where
    turned : (a b c d : ℕ) → 1 + a + b ≡ c + d → 10 * digits * 10 ^ a * 10 ^ b ≡ digits * 10 ^ c * 10 ^ d
    turned a b c d e =
        let ten : 10 * digits ≡ digits * 10 ^ 1 = omega arith in
        let left : digits * 10 ^ 1 * 10 ^ a * 10 ^ b ≡ digits * 10 ^ (1 + a) * 10 ^ b = ap (λ n. n * 10 ^ b) (mul_assoc digits (10 ^ 1) (10 ^ a) ∙ ap (λ n. digits * n) (sym (pow-add 10 1 a))) in
        ap (λ n. n * 10 ^ a * 10 ^ b) ten ∙ (left ∙ tens_eq digits (1 + a) b c d e)

-- a decimal that reads as a finite double has a power below 651
pub power_below : (bits power digits : ℕ) → AreFiniteBits bits → 0 < digits → IsReadAs bits power digits → power < 651
power_below bits power digits h some read =
    elim (order power 651) [
      | inl l ↦ l
      | inr g ↦
          let large = tens_le 1 digits 309 (342 - power) (power - 342) 0 some (omega arith) in
          absurd (omega (arith, h.1, other_bits bits power digits _ h.1 (nearest_of_huge binary64 _ _ (ten_pos (342 - power)) (omega (arith, large))) read))
    ]

-- a decimal without its last zero
pub without_zero : (bits power digits front : ℕ) → IsReading bits power digits → 0 < front → front ≤ digits → IsReadAs bits power (10 * front) → IsReading bits (power + 1) front
without_zero bits power digits front h some few read =
    let same : IsReadAs bits (power + 1) front = sym (read_same false _ _ (less_zero power front)) ∙ read in
    record {
      finite = h.finite;
      digits_fit = (some, omega (arith, few, h.digits_fit.1));
      power_fits = power_below bits (power + 1) front h.finite some same;
      read = same;
    }

-- a decimal of one digit that reads as a double above 0 has a power above 0
pub power_above : (bits power : ℕ) → AreFiniteBits bits → IsReadAs bits power 1 → 0 < power
power_above bits power h read =
    elim (order 0 power) [
      | inl l ↦ l
      | inr g ↦
          let none : power ≡ 0 = omega arith in
          let read_there : IsReadAs bits 0 1 = subst (λ n. IsReadAs bits n 1) none read in
          absurd (omega (arith, h.0, other_bits bits 0 1 0 h.1 (nearest_of_tiny binary64 (1 * 10 ^ (0 - 342)) (10 ^ (342 - 0)) (ten_pos 342) (lit≤ tt)) read_there))
    ]
