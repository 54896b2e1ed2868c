-- The closest of the shortest decimals, where one product tells which decimals read as the double.
use Rattle.std.proofs.Common.{◌≡◌, ℕ, ◌⊎◌, ◌+◌, ◌-◌, ◌*◌, ◌/◌, ◌%◌, ◌^◌, ◌<◌, ◌≤◌, false, inl, inr, refl, sym, ap, ◌∙◌, subst, arith, bit_and, pow-add, mul_assoc, mul-le-mul_right}
use lib.Ieee.{binary64, of_bits}
use Rattle.std.proofs.lemmas.Nat.{and_mask}
use Rattle.fast_float.proofs.Extremes.{tens_eq}
use Rattle.mysql_float_literal.specs.declared.quick.Scaled.{Scaled}
use Rattle.mysql_float_literal.specs.DoubleDigits.{AreSameDecimal, size_above, size_below, IsShortest, IsClosest}
use Rattle.mysql_float_literal.specs.DigitSteps.{with_power, AreFiniteBits, IsReadAs, IsReading, IsWithinTen, IsBetter, IsBetterThanNext, IsLessZeros, IsTold}
use Rattle.mysql_float_literal.proofs.DigitLemmas.{order, ten_pos}
use Rattle.mysql_float_literal.proofs.ConvexLemmas.{reads_between}
use Rattle.mysql_float_literal.proofs.ShortestLemmas.{at_in_order}
use Rattle.mysql_float_literal.proofs.ReadsLemmas.{read_same, power_below}
use Rattle.mysql_float_literal.proofs.BesideLemmas.{low_better, high_better, shortest_here, closest_here, ten_below, trimmed_here}

-- all that is to be shown of the digits
pub record IsFound (bits power digits : ℕ) : Type 0 where
  pub reading : IsReading bits power digits
  pub shortest : IsShortest false (with_power power digits)
  pub closest : IsClosest false (with_power power digits)
  pub trimmed : 0 < digits % 10

-- digits, without these zeros after them, at a higher power
same_unit : (power zeros n : ℕ) → AreSameDecimal (with_power power (10 * (n * 10 ^ zeros))) (with_power (power + 1 + zeros) n)
same_unit power zeros n =
    let tens : 10 * (n * 10 ^ zeros) ≡ n * 10 ^ (1 + zeros) =
    let out : 10 * (n * 10 ^ zeros) ≡ n * (10 ^ 1 * 10 ^ zeros) = grind arith in out ∙ ap (λ t. n * t) (sym (pow-add 10 1 zeros)) in
    ap (λ d. d * 10 ^ (power - 342) * 10 ^ (342 - (power + 1 + zeros))) tens
    ∙ (ap (λ t. t * 10 ^ (342 - (power + 1 + zeros))) (mul_assoc n (10 ^ (1 + zeros)) (10 ^ (power - 342)) ∙ ap (λ t. n * t) (sym (pow-add 10 (1 + zeros) (power - 342))))
    ∙ tens_eq n (1 + zeros + (power - 342)) (342 - (power + 1 + zeros)) (power + 1 + zeros - 342) (342 - power) (omega arith))

-- Of the multiples of ten only 10 * n reads as the double. It is m with zeros after it.
module _ (bits power n found m : ℕ) (finite : AreFiniteBits bits) (read : IsReadAs bits power (10 * n)) (not_low : IsReadAs bits power (10 * (n - 1)) → ⊥) (not_high : IsReadAs bits power (10 * (n + 1)) → ⊥)
    (many : 1 < n) (few : n < 10 ^ 17) (less : IsLessZeros (power + 1) n found m) where
  abbrev zeros : ℕ
  zeros = less.zeros

  found_is : found ≡ power + 1 + zeros
  found_is = less.power_is

  above : 0 < found
  above = omega (arith, found_is)

  none_below : (z a : ℕ) → a * 10 ^ z < n → IsReadAs bits (power + 1 + z) a → ⊥
  none_below z a l there =
      not_low (reads_between (of_bits binary64 bits) (with_power power (10 * (a * 10 ^ z))) (with_power power (10 * (n - 1))) (with_power power (10 * n))
      (at_in_order (power - 342) (342 - power) _ _ (omega (arith, l))) (at_in_order (power - 342) (342 - power) _ _ (omega arith))
      (read_same false _ _ (same_unit power z a) ∙ there) read)

  none_above : (a : ℕ) → n < a * 10 ^ zeros → IsReadAs bits found a → ⊥
  none_above a l there =
      not_high (reads_between (of_bits binary64 bits) (with_power power (10 * n)) (with_power power (10 * (n + 1))) (with_power power (10 * (a * 10 ^ zeros)))
      (at_in_order (power - 342) (342 - power) _ _ (omega arith)) (at_in_order (power - 342) (342 - power) _ _ (omega (arith, l)))
      read (read_same false _ _ (same_unit power zeros a) ∙ subst (λ q. IsReadAs bits q a) found_is there))

  less_here : (a : ℕ) → a < m → a * 10 ^ zeros < n
  less_here a l = let next : a + 1 ≤ m = omega (arith, l) in omega (arith, less.digits_are, ten_pos zeros, mul-le-mul_right (10 ^ zeros) next)

  more_here : (a : ℕ) → m < a → n < a * 10 ^ zeros
  more_here a l = let next : m + 1 ≤ a = omega (arith, l) in omega (arith, less.digits_are, ten_pos zeros, mul-le-mul_right (10 ^ zeros) next)

  none_less : (a : ℕ) → a < m → IsReadAs bits found a → ⊥
  none_less a l there = none_below zeros a (less_here a l) (subst (λ q. IsReadAs bits q a) found_is there)

  read_here : IsReadAs bits found m
  read_here = subst (λ q. IsReadAs bits q m) (sym found_is) (sym (read_same false _ _ (same_unit power zeros m)) ∙ subst (λ d. IsReadAs bits power (10 * d)) less.digits_are read)

  some : 0 < m
  some = omega (arith, less.last)

  m_few : m < 10 ^ 17
  m_few = let one : 1 ≤ 10 ^ zeros = ten_pos zeros in omega (arith, few, less.digits_are, product m (10 ^ zeros) one)
    where
      product : (m t : ℕ) → 1 ≤ t → m ≤ m * t
      product m t h = omega (arith, Rattle.std.proofs.Common.mul-le-mul_left m h)

  reading : IsReading bits found m
  reading = record { finite = finite; digits_fit = (some, omega (arith, m_few)); power_fits = power_below bits found m finite some read_here; read = read_here }

  within : IsWithinTen bits found m
  within = (none_less _ (omega (arith, less.last)), λ there. none_above _ (more_here _ (omega arith)) (subst (λ q. IsReadAs bits q (10 * (m / 10 + 1))) refl there))

  next_worse : IsBetterThanNext bits found m
  next_worse = inl (none_above _ (more_here _ (omega arith)))

  nine_below : m ≡ 1 → IsReadAs bits (found - 1) 9 → ⊥
  nine_below e there =
      let all : n ≡ 1 * 10 ^ zeros = less.digits_are ∙ ap (λ d. d * 10 ^ zeros) e in
      elim (order 0 zeros) [
        | inl l ↦
            let back : zeros - 1 + 1 ≡ zeros = omega (arith, l) in
            let tens : 10 ^ zeros ≡ 10 ^ (zeros - 1) * 10 = ap (λ k. 10 ^ k) (sym back) ∙ pow-add 10 (zeros - 1) 1 in
            let unit : found - 1 ≡ power + 1 + (zeros - 1) = omega (arith, found_is, l) in
            none_below (zeros - 1) 9 (omega (arith, all, tens, ten_pos (zeros - 1))) (subst (λ q. IsReadAs bits q 9) unit there)
        | inr g ↦ let none : zeros ≡ 0 = omega (arith, g) in absurd (omega (arith, all, ap (λ k. 10 ^ k) none, many))
      ]

  pub whole_found : IsFound bits found m
  whole_found = record {
    reading = reading;
    shortest = shortest_here bits found m reading (inr within);
    closest = elim (order 1 m) [
      | inl l ↦ closest_here bits found m found m reading (inr within) refl (λ e. absurd (omega (arith, l, e))) (λ _. refl) (inl (none_less _ (omega (arith, l)))) next_worse
      | inr g ↦
          let one : m ≡ 1 = omega (arith, g, some) in
          closest_here bits found m (found - 1) 10 reading (inr within)
          (subst (λ d. AreSameDecimal (with_power found d) (with_power (found - 1) 10)) (sym one) (ten_below found above)) (λ _. refl) (λ l. absurd (omega (arith, l, one)))
          (inl (nine_below one)) next_worse
    ];
    trimmed = less.last;
  }

-- No multiple of ten reads as the double.
pub tenth_found : (bits power n d : ℕ) → AreFiniteBits bits → power < 651 → d < 10 ^ 18 → 10 * n ≤ d → d ≤ 10 * n + 10 → 0 < n
    → IsReadAs bits power d → (IsReadAs bits power (10 * n) → ⊥) → (IsReadAs bits power (10 * (n + 1)) → ⊥)
    → 2 * size_above (of_bits binary64 bits) * 10 ^ (342 - power) < (2 * d + 1) * 10 ^ (power - 342) * size_below (of_bits binary64 bits)
    → (2 * (d - 1) + 1) * 10 ^ (power - 342) * size_below (of_bits binary64 bits) < 2 * size_above (of_bits binary64 bits) * 10 ^ (342 - power)
    → IsFound bits power d
tenth_found bits power n d finite fits few from to some read not_low not_high less more =
    let below : d < 10 * (n + 1) = elim (order d (10 * (n + 1))) [
      | inl l ↦ l
      | inr g ↦ let e : d ≡ 10 * (n + 1) = omega (arith, g, to) in absurd (not_high (subst (IsReadAs bits power) e read))
    ] in
    let tens : d / 10 ≡ n = omega (arith, below, from) in
    let within : IsWithinTen bits power d = subst (λ q. (IsReadAs bits power (10 * q) → ⊥) × (IsReadAs bits power (10 * (q + 1)) → ⊥)) (sym tens) (not_low, not_high) in
    let reading : IsReading bits power d = record { finite = finite; digits_fit = (omega (arith, from, some), few); power_fits = fits; read = read } in
    let back : d - 1 + 1 ≡ d = omega (arith, from, some) in
    let down : IsBetter (of_bits binary64 bits) (with_power power d) (with_power power (d - 1)) =
    subst (λ e. IsBetter (of_bits binary64 bits) (with_power power e) (with_power power (d - 1))) back (high_better (power - 342) (342 - power) (d - 1) (of_bits binary64 bits) more) in
    record {
      reading = reading;
      shortest = shortest_here bits power d reading (inr within);
      closest = closest_here bits power d power d reading (inr within) refl (λ e. absurd (omega (arith, e, from, some))) (λ _. refl) down (low_better (power - 342) (342 - power) d (of_bits binary64 bits) less);
      trimmed = trimmed_here bits power d reading (inr within);
    }

-- the same decimal, perhaps with zeros taken off its digits
pub record IsCutTo (power digits found_power found : ℕ) : Type 0 where
  pub up : power ≤ found_power
  pub some : 0 < found
  pub digits_are : digits ≡ found * 10 ^ (found_power - power)
  pub less : found_power + found ≤ power + digits

-- one step without zeros
pub cut_step : (power digits up rest zeros more : ℕ) → IsCutTo power digits up rest → 0 < more → rest ≡ more * 10 ^ zeros → zeros + more ≤ rest → IsCutTo power digits (up + zeros) more
cut_step power digits up rest zeros more h some cut small =
    let sum : zeros + (up - power) ≡ up + zeros - power = omega (arith, h.up) in
    record {
      up = omega (arith, h.up);
      some = some;
      digits_are = h.digits_are ∙ (ap (λ r. r * 10 ^ (up - power)) cut ∙ (mul_assoc more (10 ^ zeros) (10 ^ (up - power)) ∙ ap (λ t. more * t) (sym (pow-add 10 zeros (up - power)) ∙ ap (λ k. 10 ^ k) sum)));
      less = omega (arith, h.less, small);
    }

pub cut_none : (power digits : ℕ) → 0 < digits → IsCutTo power digits power digits
cut_none power digits some =
    let none : power - power ≡ 0 = omega arith in
    record { up = omega arith; some = some; digits_are = omega (arith, ap (λ k. digits * 10 ^ k) none); less = omega arith }

pub cut_ends : (power digits up rest : ℕ) → IsCutTo power digits up rest → 0 < rest % 10 → IsLessZeros power digits up rest
cut_ends power digits up rest h last = record { zeros = up - power; power_is = omega (arith, h.up); digits_are = h.digits_are; last = last }

-- some zeros, and then the others
pub less_after : (power digits zeros front found_power found : ℕ) → digits ≡ front * 10 ^ zeros → IsLessZeros (power + zeros) front found_power found → IsLessZeros power digits found_power found
less_after power digits zeros front found_power found cut h = record {
  zeros = h.zeros + zeros;
  power_is = omega (arith, h.power_is);
  digits_are = cut ∙ (ap (λ q. q * 10 ^ zeros) h.digits_are ∙ (mul_assoc found (10 ^ h.zeros) (10 ^ zeros) ∙ ap (λ t. found * t) (sym (pow-add 10 h.zeros zeros))));
  last = h.last;
}

-- ---- by the bits after the point

module _ (bits : ℕ) (s : Scaled) (g : ℕ) (told : IsTold bits s g) (wide : 922337203685477600 < s.half_gap) where
  some_whole : 1 < s.whole
  some_whole = told.large wide

  pub tenth_told : (tenths : ℕ) → s.half_gap < s.fraction → s.fraction + g + 4 ≤ 2 ^ 64 → tenths ≡ s.fraction * 10 + 2 ^ 63
      → (bit_and tenths 18446744073709551615 + 18446744073709551615) % 2 ^ 64 ≤ 18446744073709551360 → IsFound bits s.power (s.whole * 10 + tenths / 2 ^ 64)
  tenth_told tenths low high is clear =
      let mask : bit_and tenths 18446744073709551615 ≡ tenths % 2 ^ 64 = and_mask tenths 64 in
      let rest : (0 < tenths % 2 ^ 64) × (tenths % 2 ^ 64 + 20 ≤ 2 ^ 64) = omega (arith, mask, clear) in
      let whole = some_whole in
      let d : ℕ = s.whole * 10 + tenths / 2 ^ 64 in
      tenth_found bits s.power s.whole d told.finite (omega (arith, told.sizes)) (omega (arith, told.sizes, is, high)) (omega arith) (omega (arith, is, high)) (omega (arith, whole))
      (told.read d (omega (arith, is, rest, wide)) (omega (arith, is, rest, wide)))
      (told.low (10 * s.whole) (omega (arith, low)))
      (told.high (10 * (s.whole + 1)) (omega (arith, high)))
      (told.less (2 * d + 1) (omega (arith, is, rest)))
      (told.more (2 * (d - 1) + 1) (omega (arith, is, rest, whole)))

  pub next_told : (found m : ℕ) → s.half_gap < s.fraction → s.fraction < 2 ^ 64 → 2 ^ 64 < s.fraction + s.half_gap → g + 8 ≤ 2 ^ 64 → IsLessZeros (s.power + 1) (s.whole + 1) found m → IsFound bits found m
  next_told found m low small up room less =
      whole_found bits s.power (s.whole + 1) found m told.finite
      (told.read (10 * (s.whole + 1)) (omega (arith, small, wide)) (omega (arith, up)))
      (told.low (10 * (s.whole + 1 - 1)) (omega (arith, low)))
      (told.high (10 * (s.whole + 1 + 1)) (omega (arith, small, room)))
      (omega (arith, some_whole)) (omega (arith, told.sizes)) less

  pub whole_told : (found m : ℕ) → s.fraction + 2 ≤ s.half_gap → s.half_gap < 2 ^ 64 → s.fraction + g + 4 ≤ 2 ^ 64 → IsLessZeros (s.power + 1) s.whole found m → IsFound bits found m
  whole_told found m down narrow high less =
      whole_found bits s.power s.whole found m told.finite
      (told.read (10 * s.whole) (omega (arith, down)) (omega (arith, wide)))
      (told.low (10 * (s.whole - 1)) (omega (arith, narrow, some_whole)))
      (told.high (10 * (s.whole + 1)) (omega (arith, high)))
      some_whole (omega (arith, told.sizes)) less
