-- A double as a whole number times a power of two.
use Rattle.std.proofs.Common.{◌≡◌, ℕ, suc, ◌+◌, ◌-◌, ◌*◌, ◌/◌, ◌%◌, ◌^◌, ◌<◌, ◌≤◌, min, Bool, false, inl, inr, sym, ap, ◌∙◌, subst, arith, pow-add, pow_pos, mul_assoc, mul_comm, mul_right_comm, mul-pos, mul-le-mul_right, mul-lt-mul_of_pos_right, le_of_mul-le-mul_right}
use native.Mathlib.Nat.{lt_of_mul-lt-mul_right, mul-le-mul, le_refl, le_trans, le_of_eq, not-le_of_lt}
use lib.Pow.{pow_mono}
use lib.Dec.{lit≤, lit<}
use lib.Ieee.{Float, nan, inf, fin, binary64, of_bits}
use lib.Ieee.Exact.{HasValue}
use Rattle.core.proofs.num.Products.{mul-pow}
use Rattle.core.proofs.dec2flt.Patterns.{of_bits_value}
use Rattle.core.proofs.dec2flt.RoundingLemmas.{nearest_of_near}
use Rattle.std.specs.Ordering.{nat_cmp}
use Rattle.mysql_float_literal.specs.DoubleDigits.{size_above, size_below}
use Rattle.mysql_float_literal.specs.DigitSteps.{AreFiniteBits, IsSignificandOf, IsAtMostDouble, IsAboveDouble, IsReadAs, IsReading}
use Rattle.mysql_float_literal.proofs.DigitLemmas.{order, ten_pos, tens_grow}
use Rattle.mysql_float_literal.proofs.ClosestLemmas.{below_pos}
use Rattle.mysql_float_literal.proofs.ReadsLemmas.{less_zero}
use Rattle.mysql_float_literal.proofs.WideLemmas.{scaled_order}

value_size : (x : Float) (s : Bool) (a c : ℕ) → HasValue x s a c → size_above x * c ≡ a * size_below x
value_size nan s a c h = absurd h
value_size (inf t) s a c h = absurd h
value_size (fin t m e) s a c h = h.1

-- without the hidden bit
pub small_significand : (bits : ℕ) → bits < 2 ^ 52 → IsSignificandOf bits bits 0
small_significand bits h = record {
  fits = omega (arith, h);
  normal = λ l. absurd (omega (arith, l));
  exponent_fits = omega arith;
  bits_are = omega (arith, h);
  size = subst (λ b. size_above (of_bits binary64 b) * 2 ^ 1074 ≡ bits * 2 ^ 0 * size_below (of_bits binary64 b)) (omega arith) (value_size _ false _ _ (of_bits_value binary64 0 bits (omega arith) h));
}

-- with it
pub large_significand : (bits : ℕ) → 2 ^ 52 ≤ bits → bits < 0x7ff0000000000000 → IsSignificandOf bits (bits % 2 ^ 52 + 2 ^ 52) (bits / 2 ^ 52 - 1)
large_significand bits h finite =
    let up : suc (bits / 2 ^ 52 - 1) ≡ bits / 2 ^ 52 = omega (arith, h) in
    let back : bits / 2 ^ 52 * 2 ^ 52 + bits % 2 ^ 52 ≡ bits = omega arith in
    let value = value_size _ false _ _ (of_bits_value binary64 (suc (bits / 2 ^ 52 - 1)) (bits % 2 ^ 52) (omega (arith, up, finite)) (omega arith)) in
    let here : suc (bits / 2 ^ 52 - 1) * 2 ^ 52 + bits % 2 ^ 52 ≡ bits = omega (arith, up, back) in
    let turn : 2 ^ 52 + bits % 2 ^ 52 ≡ bits % 2 ^ 52 + 2 ^ 52 = omega arith in
    record {
      fits = omega arith;
      normal = λ _. omega arith;
      exponent_fits = omega (arith, finite);
      bits_are = omega (arith, up, back, finite);
      size = subst (λ b. size_above (of_bits binary64 b) * 2 ^ 1074 ≡ (bits % 2 ^ 52 + 2 ^ 52) * 2 ^ (bits / 2 ^ 52 - 1) * size_below (of_bits binary64 b)) here
          (subst (λ n. size_above (of_bits binary64 (suc (bits / 2 ^ 52 - 1) * 2 ^ 52 + bits % 2 ^ 52)) * 2 ^ 1074 ≡ n * 2 ^ (bits / 2 ^ 52 - 1) * size_below (of_bits binary64 (suc (bits / 2 ^ 52 - 1) * 2 ^ 52 + bits % 2 ^ 52))) turn value);
    }

pub significand_of : (bits : ℕ) → bits < 0x7ff0000000000000 → (m : ℕ) × (k : ℕ) × IsSignificandOf bits m k
significand_of bits h = elim (order bits (2 ^ 52)) [ inl l ↦ (bits, 0, small_significand bits l) | inr g ↦ (bits % 2 ^ 52 + 2 ^ 52, bits / 2 ^ 52 - 1, large_significand bits g h) ]

-- ---- twice the double against a decimal, without powers of ten

-- ten is two times five
tens_split : (n : ℕ) → 10 ^ n ≡ 2 ^ n * 5 ^ n
tens_split n = mul-pow 2 5 n

module _ (bits m k power middle : ℕ) (h : IsSignificandOf bits m k) where
  abbrev x : Float
  x = of_bits binary64 bits

  abbrev tens : ℕ
  tens = power - 342

  abbrev places : ℕ
  places = 342 - power

  abbrev up : ℕ
  up = k + 1 + places

  abbrev down : ℕ
  down = 1074 + tens

  abbrev shared : ℕ
  shared = min up down

  abbrev left : ℕ
  left = m * 5 ^ places * 2 ^ (up - down)

  abbrev right : ℕ
  right = middle * 5 ^ tens * 2 ^ (down - up)

  left_is : left * 2 ^ shared ≡ m * 2 ^ (k + 1) * 10 ^ places
  left_is =
      let sum : up - down + shared ≡ k + 1 + places = omega arith in
      let joined : 2 ^ (up - down) * 2 ^ shared ≡ 2 ^ (k + 1) * 2 ^ places = sym (pow-add 2 (up - down) shared) ∙ (ap (λ n. 2 ^ n) sum ∙ pow-add 2 (k + 1) places) in
      mul_assoc (m * 5 ^ places) (2 ^ (up - down)) (2 ^ shared) ∙ (ap (λ n. m * 5 ^ places * n) joined ∙ (turn m (5 ^ places) (2 ^ (k + 1)) (2 ^ places) ∙ ap (λ n. m * 2 ^ (k + 1) * n) (sym (tens_split places))))
    where
      turn : (m f t p : ℕ) → m * f * (t * p) ≡ m * t * (p * f)
      turn m f t p = grind arith

  right_is : right * 2 ^ shared ≡ middle * 10 ^ tens * 2 ^ 1074
  right_is =
      let sum : down - up + shared ≡ tens + 1074 = omega arith in
      let joined : 2 ^ (down - up) * 2 ^ shared ≡ 2 ^ tens * 2 ^ 1074 = sym (pow-add 2 (down - up) shared) ∙ (ap (λ n. 2 ^ n) sum ∙ pow-add 2 tens 1074) in
      mul_assoc (middle * 5 ^ tens) (2 ^ (down - up)) (2 ^ shared) ∙ (ap (λ n. middle * 5 ^ tens * n) joined ∙ (turn middle (5 ^ tens) (2 ^ tens) (2 ^ 1074) ∙ ap (λ n. middle * n * 2 ^ 1074) (sym (tens_split tens))))
    where
      turn : (m f t p : ℕ) → m * f * (t * p) ≡ m * (t * f) * p
      turn m f t p = grind arith

  pub without_tens : nat_cmp left right ≡ nat_cmp (2 * size_above x * 10 ^ places) (middle * 10 ^ tens * size_below x)
  without_tens =
      scaled_order _ _ left right (2 ^ 1074) (2 ^ shared * size_below x) (pow_pos 1074) (mul-pos (pow_pos shared) (below_pos x))
      (double_side (size_above x) (size_below x) (2 ^ 1074) m (2 ^ k) (2 ^ (k + 1)) (10 ^ places) left (2 ^ shared) h.size (pow-add 2 k 1) left_is)
      (decimal_side (middle * 10 ^ tens) (size_below x) (2 ^ 1074) right (2 ^ shared) right_is)
    where
      double_side : (a b c m t u p l s : ℕ) → a * c ≡ m * t * b → u ≡ t * 2 → l * s ≡ m * u * p → 2 * a * p * c ≡ l * (s * b)
      double_side a b c m t u p l s size next is =
          let one : 2 * a * p * c ≡ a * c * (2 * p) = grind arith in
          let two : m * t * b * (2 * p) ≡ m * (t * 2) * p * b = grind arith in
          let three : l * (s * b) ≡ l * s * b = sym (mul_assoc l s b) in
          one ∙ (ap (λ n. n * (2 * p)) size ∙ (two ∙ (ap (λ n. m * n * p * b) (sym next) ∙ (ap (λ n. n * b) (sym is) ∙ sym three))))

      decimal_side : (d b c r s : ℕ) → r * s ≡ d * c → d * b * c ≡ r * (s * b)
      decimal_side d b c r s is = mul_right_comm d b c ∙ (ap (λ n. n * b) (sym is) ∙ mul_assoc r s b)

-- ---- a decimal of 17 digits just above the double reads as it

-- a decimal against the double, in units of the least double
module _ (bits m k power digits : ℕ) (h : IsSignificandOf bits m k) where
  unit_low : IsAtMostDouble bits power digits → digits * 10 ^ (power - 342) * 2 ^ 1074 ≤ m * 2 ^ k * 10 ^ (342 - power)
  unit_low l = go (size_above (of_bits binary64 bits)) (size_below (of_bits binary64 bits)) (2 ^ 1074) (m * 2 ^ k) (10 ^ (342 - power)) (digits * 10 ^ (power - 342)) (below_pos _) h.size l
    where
      go : (a b c v p d : ℕ) → 0 < b → a * c ≡ v * b → d * b ≤ a * p → d * c ≤ v * p
      go a b c v p d B e l =
          let left : d * c * b ≡ d * b * c = mul_right_comm d c b in
          let right : a * p * c ≡ v * p * b = mul_right_comm a p c ∙ (ap (λ n. n * p) e ∙ mul_right_comm v b p) in
          le_of_mul-le-mul_right {k = b} (omega (arith, left, right, mul-le-mul_right c l)) B

  unit_high : IsAboveDouble bits power digits → m * 2 ^ k * 10 ^ (342 - power) < digits * 10 ^ (power - 342) * 2 ^ 1074
  unit_high l = go (size_above (of_bits binary64 bits)) (size_below (of_bits binary64 bits)) (2 ^ 1074) (m * 2 ^ k) (10 ^ (342 - power)) (digits * 10 ^ (power - 342)) (pow_pos 1074) h.size l
    where
      go : (a b c v p d : ℕ) → 0 < c → a * c ≡ v * b → a * p < d * b → v * p < d * c
      go a b c v p d C e l =
          let left : d * c * b ≡ d * b * c = mul_right_comm d c b in
          let right : a * p * c ≡ v * p * b = mul_right_comm a p c ∙ (ap (λ n. n * p) e ∙ mul_right_comm v b p) in
          lt_of_mul-lt-mul_right b (omega (arith, left, right, mul-lt-mul_of_pos_right l C))

pub reads_above : (bits m k power digits : ℕ) → IsSignificandOf bits m k → 2 * 10 ^ 16 ≤ digits → IsAtMostDouble bits power digits → IsAboveDouble bits power (digits + 1) → IsReadAs bits power (digits + 1)
reads_above bits m k power digits h large low high =
    let p : ℕ = 10 ^ (342 - power) in
    let num : ℕ = (digits + 1) * 10 ^ (power - 342) in
    let v : ℕ = p * 2 ^ k in
    let u : ℕ = 10 ^ (power - 342) * 2 ^ 1074 in
    let low_units : digits * u ≤ m * v = turned digits (10 ^ (power - 342)) (2 ^ 1074) m (2 ^ k) p (unit_low bits m k power digits h low) in
    let high_units : m * v < num * 2 ^ 1074 = turned_high (num * 2 ^ 1074) m (2 ^ k) p (unit_high bits m k power (digits + 1) h high) in
    let one_more : num * 2 ^ 1074 ≡ digits * u + u = sum digits (10 ^ (power - 342)) (2 ^ 1074) in
    let V : 0 < v = mul-pos (ten_pos (342 - power)) (pow_pos k) in
    let wide : 2 * 10 ^ 16 * u ≤ digits * u = mul-le-mul_right u large in
    let few : m * v ≤ 2 ^ 53 * v = mul-le-mul_right v (omega (arith, h.fits)) in
    let narrow : 2 * u < v = omega (arith, low_units, wide, few, V) in
    let near = nearest_of_near binary64 num p m k (ten_pos (342 - power)) (omega (arith, h.fits)) (λ K. h.normal K)
    (λ K. omega (arith, high_units, mul-le-mul_right v (h.normal K))) (omega (arith, high_units, V)) (omega (arith, one_more, low_units, narrow)) in
    sym near.0 ∙ ap (of_bits binary64) h.bits_are
  where
    turned : (d t c m s p : ℕ) → d * t * c ≤ m * s * p → d * (t * c) ≤ m * (p * s)
    turned d t c m s p l =
        let left : d * t * c ≡ d * (t * c) = mul_assoc d t c in
        let right : m * s * p ≡ m * (p * s) = mul_assoc m s p ∙ ap (λ n. m * n) (mul_comm s p) in
        omega (arith, left, right, l)

    turned_high : (n m s p : ℕ) → m * s * p < n → m * (p * s) < n
    turned_high n m s p l = let right : m * s * p ≡ m * (p * s) = mul_assoc m s p ∙ ap (λ n. m * n) (mul_comm s p) in omega (arith, right, l)

    sum : (d t c : ℕ) → (d + 1) * t * c ≡ d * (t * c) + t * c
    sum d t c = grind arith

-- ---- where such a decimal is found

some_significand : (bits m k : ℕ) → AreFiniteBits bits → IsSignificandOf bits m k → 0 < m
some_significand bits m k finite h =
    elim (order 0 m) [
      | inl l ↦ l
      | inr g ↦ elim (order 0 k) [
        | inl K ↦ absurd (omega (arith, g, h.normal K))
        | inr z ↦ absurd (let bits_zero : bits ≡ 0 = omega (arith, h.bits_are, g, z) in omega (arith, bits_zero, finite.0))
      ]
    ]

-- it is at least 2 * 10 ^ 16 at the least power
pub at_least_there : (bits : ℕ) → AreFiniteBits bits → IsAtMostDouble bits 0 (2 * 10 ^ 16)
at_least_there bits finite =
    let s = significand_of bits finite.1 in
    go (size_above (of_bits binary64 bits)) (size_below (of_bits binary64 bits)) (s.0 * 2 ^ s.1) (2 ^ 1074) (10 ^ 342) (2 * 10 ^ 16) s.2.size
    (mul-pos (some_significand bits s.0 s.1 finite s.2) (pow_pos s.1)) (lit≤ tt) (pow_pos 1074)
  where
    go : (a b v c t d : ℕ) → a * c ≡ v * b → 0 < v → d * c ≤ t → 0 < c → d * b ≤ a * t
    go a b v c t d e V small C =
        let one : b ≤ v * b = omega (arith, mul-le-mul_right b V) in
        let first : d * b * c ≡ d * c * b = mul_right_comm d b c in
        let second : d * c * b ≤ t * b = mul-le-mul_right b small in
        let third : t * b ≤ t * (v * b) = omega (arith, mul_comm t b, mul_comm t (v * b), mul-le-mul_right t one) in
        let fourth : t * (v * b) ≡ a * t * c = ap (λ n. t * n) (sym e) ∙ (sym (mul_assoc t a c) ∙ ap (λ n. n * c) (mul_comm t a)) in
        le_of_mul-le-mul_right {k = c} (omega (arith, first, second, third, fourth)) C

pub power_stays_below : (bits power : ℕ) → AreFiniteBits bits → IsAtMostDouble bits power (2 * 10 ^ 16) → power < 640
power_stays_below bits power finite low =
    let s = significand_of bits finite.1 in
    elim (order power 640) [
      | inl l ↦ l
      | inr g ↦ absurd (go s.0 s.1 s.2 g)
    ]
  where
    go : (m k : ℕ) → IsSignificandOf bits m k → 640 ≤ power → ⊥
    go m k h g =
        let units : 2 * 10 ^ 16 * 10 ^ (power - 342) * 2 ^ 1074 ≤ m * 2 ^ k * 10 ^ (342 - power) = unit_low bits m k power (2 * 10 ^ 16) h low in
        let none : 342 - power ≡ 0 = omega arith in
        let one : m * 2 ^ k * 10 ^ (342 - power) ≡ m * 2 ^ k = ap (λ n. m * 2 ^ k * 10 ^ n) none ∙ omega arith in
        let few : m ≤ 2 ^ 53 = omega (arith, h.fits) in
        let most : m * 2 ^ k ≤ 2 ^ 53 * 2 ^ 2045 = mul-le-mul few (pow_mono h.exponent_fits) in
        let tens : 10 ^ 298 ≤ 10 ^ (power - 342) = tens_grow 298 (power - 342) (omega arith) in
        let least : 2 * 10 ^ 16 * 10 ^ 298 * 2 ^ 1074 ≤ 2 * 10 ^ 16 * 10 ^ (power - 342) * 2 ^ 1074 = mul-le-mul_right (2 ^ 1074) (mul-le-mul (le_refl (2 * 10 ^ 16)) tens) in
        let apart_by : 2 ^ 53 * 2 ^ 2045 < 2 * 10 ^ 16 * 10 ^ 298 * 2 ^ 1074 = lit< tt in
        not-le_of_lt apart_by (le_trans least (le_trans units (le_trans (le_of_eq one) most)))

-- ten times the digits at a power are the digits one power up
pub one_power_up : (bits power digits : ℕ) → IsAboveDouble bits (power + 1) digits → IsAboveDouble bits power (10 * digits)
one_power_up bits power digits h =
    go (size_above (of_bits binary64 bits)) (size_below (of_bits binary64 bits)) (10 * digits * 10 ^ (power - 342)) (digits * 10 ^ (power + 1 - 342)) (10 ^ (342 - (power + 1))) (10 ^ (342 - power)) (ten_pos (342 - power)) (less_zero power digits) h
  where
    go : (a b d e y z : ℕ) → 0 < z → d * y ≡ e * z → a * y < e * b → a * z < d * b
    go a b d e y z Z same l =
        let left : a * z * y ≡ a * y * z = mul_right_comm a z y in
        let right : d * b * y ≡ e * b * z = mul_right_comm d b y ∙ (ap (λ n. n * b) same ∙ mul_right_comm e z b) in
        lt_of_mul-lt-mul_right y (omega (arith, left, right, mul-lt-mul_of_pos_right l Z))

-- ---- a decimal against the double, from their doubles

pub at_most_by_twice : (bits power digits : ℕ) → 2 * digits * 10 ^ (power - 342) * size_below (of_bits binary64 bits) ≤ 2 * size_above (of_bits binary64 bits) * 10 ^ (342 - power) → IsAtMostDouble bits power digits
at_most_by_twice bits power digits h = go (size_above (of_bits binary64 bits)) (size_below (of_bits binary64 bits)) digits (10 ^ (power - 342)) (10 ^ (342 - power)) h
  where
    go : (a b d t p : ℕ) → 2 * d * t * b ≤ 2 * a * p → d * t * b ≤ a * p
    go a b d t p h = let left : 2 * d * t * b ≡ 2 * (d * t * b) = grind arith in let right : 2 * a * p ≡ 2 * (a * p) = mul_assoc 2 a p in omega (arith, left, right, h)

pub above_by_twice : (bits power digits : ℕ) → 2 * size_above (of_bits binary64 bits) * 10 ^ (342 - power) < 2 * digits * 10 ^ (power - 342) * size_below (of_bits binary64 bits) → IsAboveDouble bits power digits
above_by_twice bits power digits h = go (size_above (of_bits binary64 bits)) (size_below (of_bits binary64 bits)) digits (10 ^ (power - 342)) (10 ^ (342 - power)) h
  where
    go : (a b d t p : ℕ) → 2 * a * p < 2 * d * t * b → a * p < d * t * b
    go a b d t p h = let left : 2 * d * t * b ≡ 2 * (d * t * b) = grind arith in let right : 2 * a * p ≡ 2 * (a * p) = mul_assoc 2 a p in omega (arith, left, right, h)

-- the decimal that the search ends with
pub found_above : (bits power low high : ℕ) → AreFiniteBits bits → power < 651 → 2 * 10 ^ 16 ≤ low → high ≤ 2 * 10 ^ 17 → low + 1 ≡ high → IsAtMostDouble bits power low → IsAboveDouble bits power high → IsReading bits power high
found_above bits power low high finite fits least most next at_most above =
    let s = significand_of bits finite.1 in
    record {
      finite = finite;
      digits_fit = (omega (arith, next), omega (arith, most));
      power_fits = fits;
      read = subst (IsReadAs bits power) next (reads_above bits s.0 s.1 power low s.2 least at_most (subst (IsAboveDouble bits power) (sym next) above));
    }
