-- A decimal is the shortest where neither multiple of ten beside it reads as the double.
use Rattle.std.proofs.Common.{◌≡◌, ℕ, zero, suc, ◌+◌, ◌-◌, ◌*◌, ◌/◌, ◌^◌, ◌<◌, ◌≤◌, Bool, false, inl, inr, refl, sym, ap, ◌∙◌, arith, pow-add, pow-suc, mul_assoc, mul_comm, mul-le-mul_right}
use lib.Ieee.{Float}
use Rattle.mysql_float_literal.specs.DoubleDigits.{Decimal, HasAtMost, IsShortest}
use Rattle.mysql_float_literal.proofs.DigitLemmas.{order, tens_grow}
use Rattle.mysql_float_literal.proofs.ConvexLemmas.{IsAtMost, reads, reads_between, alike_unsigned}

-- the number n * 10 ^ tens / 10 ^ places
abbrev pub at : ℕ → ℕ → ℕ → Decimal
at tens places n = record { digits = n; tens = tens; places = places }

joined : (n a b : ℕ) → n * 10 ^ a * 10 ^ b ≡ n * 10 ^ (a + b)
joined n a b = mul_assoc n (10 ^ a) (10 ^ b) ∙ ap (λ x. n * x) (sym (pow-add 10 a b))

-- a number a with zeros after it, and n at this place, over one divisor
module _ (tens places n a zeros : ℕ) (other : Decimal) (is : other.digits ≡ a * 10 ^ zeros) where
  abbrev pub high : ℕ
  high = zeros + other.tens + places

  abbrev pub low : ℕ
  low = tens + other.places

  pub of_other : other.digits * 10 ^ other.tens * 10 ^ places ≡ a * 10 ^ high
  of_other = ap (λ x. x * 10 ^ other.tens * 10 ^ places) is ∙ (ap (λ x. x * 10 ^ places) (joined a zeros other.tens) ∙ joined a (zeros + other.tens) places)

  pub of_at : n * 10 ^ tens * 10 ^ other.places ≡ n * 10 ^ low
  of_at = joined n tens other.places

  pub at_most_at : a * 10 ^ high ≤ n * 10 ^ low → IsAtMost other (at tens places n)
  at_most_at h = omega (arith, of_other, of_at, h)

  pub at_least_at : n * 10 ^ low ≤ a * 10 ^ high → IsAtMost (at tens places n) other
  at_least_at h = omega (arith, of_other, of_at, h)

pub at_in_order : (tens places m n : ℕ) → m ≤ n → IsAtMost (at tens places m) (at tens places n)
at_in_order tens places m n h = mul-le-mul_right (10 ^ places) (mul-le-mul_right (10 ^ tens) h)

-- a number below 10 ^ count with zeros after it, where 10 ^ count is at most m
fits_tens : (a m count : ℕ) → a < 10 ^ count → 10 ^ count ≤ m → a ≤ 10 * (m / 10)
fits_tens a m zero h g = omega (arith, h)
fits_tens a m (suc count) h g = let step : 10 ^ suc count ≡ 10 ^ count * 10 = pow-suc 10 count in omega (arith, h, g, step)

module _ (tens places m : ℕ) (x : Float) (this : reads (at tens places m) ≡ x) (not_low : reads (at tens places (10 * (m / 10))) ≡ x → ⊥) (not_high : reads (at tens places (10 * (m / 10 + 1))) ≡ x → ⊥) where
  -- no number that reads as the double is at most the multiple of ten below, or at least the one above
  none_low : (other : Decimal) → reads other ≡ x → IsAtMost other (at tens places (10 * (m / 10))) → ⊥
  none_low other same h = not_low (reads_between x other _ (at tens places m) h (at_in_order tens places _ m (omega arith)) same this)

  none_high : (other : Decimal) → reads other ≡ x → IsAtMost (at tens places (10 * (m / 10 + 1))) other → ⊥
  none_high other same h = not_high (reads_between x (at tens places m) _ other (at_in_order tens places m _ (omega arith)) h this same)

  not_fewer : (other : Decimal) (count : ℕ) → reads other ≡ x → HasAtMost count other → 10 ^ count ≤ m → ⊥
  not_fewer other count same h g =
      let a : ℕ = h.0 in
      let zeros : ℕ = h.1 in
      let i : ℕ = high tens places 0 a zeros other h.3 in
      let j : ℕ = low tens places 0 a zeros other h.3 in
      let w : ℕ = a * 10 ^ (i - j - 1) in
      elim (order j i) [
        | inl l ↦
            let up : i - j - 1 + 1 + j ≡ i = omega arith in
            let value : a * 10 ^ i ≡ 10 * w * 10 ^ j = ap (λ n. a * 10 ^ n) (sym up) ∙ value_at a (i - j - 1) j in
            elim (order (m / 10) w) [
              | inl more ↦ none_high other same (at_least_at tens places _ a zeros other h.3 (omega (arith, value, mul-le-mul_right (10 ^ j) (above (m / 10) w more))))
              | inr few ↦ none_low other same (at_most_at tens places _ a zeros other h.3 (omega (arith, value, mul-le-mul_right (10 ^ j) (tens_in_order w (m / 10) few))))
            ]
        | inr l ↦
            let small : a ≤ 10 * (m / 10) = fits_tens a m count h.2 g in
            let grown : a * 10 ^ i ≤ a * 10 ^ j = times a _ _ (tens_grow i j l) in
            none_low other same (at_most_at tens places _ a zeros other h.3 (omega (arith, grown, mul-le-mul_right (10 ^ j) small)))
      ]
    where
      value_at : (a k j : ℕ) → a * 10 ^ (k + 1 + j) ≡ 10 * (a * 10 ^ k) * 10 ^ j
      value_at a k j =
          let one : 10 ^ (k + 1) ≡ 10 ^ k * 10 = pow-add 10 k 1 in
          let out : a * (10 ^ k * 10) ≡ 10 * (a * 10 ^ k) = omega arith in
          ap (λ n. a * n) (pow-add 10 (k + 1) j) ∙ (sym (mul_assoc a (10 ^ (k + 1)) (10 ^ j)) ∙ ap (λ n. n * 10 ^ j) (ap (λ n. a * n) one ∙ out))

      above : (q w : ℕ) → q < w → 10 * (q + 1) ≤ 10 * w
      above q w h = omega arith

      tens_in_order : (w q : ℕ) → w ≤ q → 10 * w ≤ 10 * q
      tens_in_order w q h = omega arith

      times : (a x y : ℕ) → x ≤ y → a * x ≤ a * y
      times a x y h = omega (arith, mul_comm a x, mul_comm a y, mul-le-mul_right a h)

  pub shortest_at : IsShortest false (at tens places m)
  shortest_at other count same h =
      elim (order m (10 ^ count)) [
        | inl few ↦ (m, 0, few, omega arith)
        | inr many ↦ absurd (not_fewer other count (same ∙ this) h many)
      ]

-- a decimal that is the shortest without a sign is the shortest with one
pub shortest_signed : (negative : Bool) (d : Decimal) → IsShortest false d → IsShortest negative d
shortest_signed negative d h other count same few = h other count (alike_unsigned negative other d same) few

-- a decimal of one digit that doesn't read as zero is the shortest
pub shortest_digit : (tens places m : ℕ) → m < 10 → (reads (at tens places 0) ≡ reads (at tens places m) → ⊥) → IsShortest false (at tens places m)
shortest_digit tens places m small not_zero other zero same h =
    let none : other.digits ≡ 0 = let a : h.0 ≡ 0 = omega (arith, h.2) in h.3 ∙ (ap (λ n. n * 10 ^ h.1) a ∙ omega arith) in
    absurd (not_zero (reads_between (reads (at tens places m)) other (at tens places 0) (at tens places m)
    (nothing other none) (at_in_order tens places 0 m (omega arith)) same refl))
  where
    nothing : (other : Decimal) → other.digits ≡ 0 → IsAtMost other (at tens places 0)
    nothing other e = rw e (omega arith)
shortest_digit tens places m small not_zero other (suc count) same h = (m, 0, omega (arith, small, tens_grow 1 (suc count) (omega arith)), omega arith)
