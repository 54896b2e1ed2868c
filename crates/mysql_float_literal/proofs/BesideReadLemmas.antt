-- A number farther from a double than half of the gap reads as another one.
use Rattle.std.proofs.Common.{◌≡◌, ℕ, ◌+◌, ◌*◌, ◌^◌, ◌<◌, ◌≤◌, false, T, inl, inr, sym, ap, ◌∙◌, subst, arith, mul_assoc, mul_comm, mul-pos, mul-le-mul_right, pow_pos}
use lib.Ieee.{Float, binary64, of_bits, le, round}
use lib.Ieee.Fits.{round-fits}
use lib.Ieee.Order.{round_mono}
use Rattle.core.specs.Dec2flt.Rounding.{IsJustAbove}
use Rattle.fast_float.specs.Rounding.{scaled_bits, IsNearestBits}
use Rattle.fast_float.proofs.RoundingLemmas.{nearest_of_near, nearest_above, nearest_below}
use Rattle.mysql_float_literal.proofs.DigitLemmas.{order}
use Rattle.mysql_float_literal.proofs.ConvexLemmas.{both_ways}
use Rattle.mysql_float_literal.proofs.OneWrittenLemmas.{round_minus}
use Rattle.mysql_float_literal.proofs.ReadsLemmas.{same_bits}

abbrev rounds : ℕ → ℕ → Float
rounds num den = round binary64 false num den

-- a number between two that round alike rounds as they do
between : (a x b y c z : ℕ) (f : Float) → 0 < x → 0 < y → 0 < z → a * y ≤ b * x → b * z ≤ c * y → rounds a x ≡ f → rounds c z ≡ f → rounds b y ≡ f
between a x b y c z f X Y Z low high here there =
    let up : T (le (rounds a x) (rounds b y)) = round_mono binary64 a x b y X Y low in
    let down : T (le (rounds b y) (rounds c z)) = round_mono binary64 b y c z Y Z high in
    let back : T (le (rounds b y) (rounds a x)) = subst (λ g. T (le (rounds b y) g)) (there ∙ sym here) down in
    both_ways binary64 (rounds b y) (rounds a x) (round-fits binary64 false _ _) (round-fits binary64 false _ _) (round_minus binary64 false _ _) (round_minus binary64 false _ _) back up ∙ here

-- a double itself
exact : (m k : ℕ) → m ≤ 2 ^ 53 → (0 < k → 2 ^ 52 ≤ m) → IsNearestBits binary64 (m * 2 ^ k) (2 ^ 1074) (scaled_bits binary64 m k)
exact m k M N =
    let e : m * 2 ^ k * 2 ^ 1074 ≡ m * (2 ^ 1074 * 2 ^ k) = mul_assoc m (2 ^ k) (2 ^ 1074) ∙ ap (λ n. m * n) (mul_comm (2 ^ k) (2 ^ 1074)) in
    let some : 0 < 2 ^ 1074 * 2 ^ k = mul-pos (pow_pos 1074) (pow_pos k) in
    nearest_of_near binary64 (m * 2 ^ k) (2 ^ 1074) m k (pow_pos 1074) M N (λ K. omega (arith, e, mul-le-mul_right (2 ^ 1074 * 2 ^ k) (N K))) (omega (arith, e, some)) (omega (arith, e, some))

-- the bits of doubles beside each other
apart_bits : (m k : ℕ) → m < 2 ^ 53 → scaled_bits binary64 (m + 1) k ≡ scaled_bits binary64 m k → 0x7ff0000000000000 ≤ scaled_bits binary64 m k
apart_bits m k M e = omega (arith, e)

not_alike : (m k : ℕ) → m < 2 ^ 53 → scaled_bits binary64 m k < 0x7ff0000000000000 → of_bits binary64 (scaled_bits binary64 (m + 1) k) ≡ of_bits binary64 (scaled_bits binary64 m k) → ⊥
not_alike m k M finite e =
    let same : scaled_bits binary64 (m + 1) k ≡ scaled_bits binary64 m k = same_bits _ _ (omega arith) (omega arith) e in
    omega (arith, finite, apart_bits m k M same)

-- more than half of the gap above it
pub not_above : (m k num den : ℕ) → 0 < den → m < 2 ^ 53 → (0 < k → 2 ^ 52 ≤ m) → scaled_bits binary64 m k < 0x7ff0000000000000
    → (2 * m + 1) * (den * 2 ^ k) < 2 * (num * 2 ^ 1074) → rounds num den ≡ of_bits binary64 (scaled_bits binary64 m k) → ⊥
not_above m k num den D M N finite above read =
    let unit : ℕ = den * 2 ^ k in
    let U : 0 < unit = mul-pos D (pow_pos k) in
    let two : (2 * m + 1) * unit ≡ 2 * (m * unit) + unit = grind arith in
    elim (order (num * 2 ^ 1074) ((m + 1) * unit)) [
      | inl l ↦
          let just : IsJustAbove binary64 num den m k = record { significand = record { fits = M; normal = N }; from = omega (arith, two, above); below = l } in
          let near = nearest_above binary64 num den m k D just above in
          not_alike m k M finite (near.0 ∙ read)
      | inr g ↦
          let more = exact (m + 1) k (omega arith) (λ K. omega (arith, N K)) in
          let here = exact m k (omega arith) N in
          let low : m * 2 ^ k * 2 ^ 1074 ≤ (m + 1) * 2 ^ k * 2 ^ 1074 = mul-le-mul_right (2 ^ 1074) (mul-le-mul_right (2 ^ k) (omega arith)) in
          let turn : (m + 1) * 2 ^ k * den ≡ (m + 1) * unit = mul_assoc (m + 1) (2 ^ k) den ∙ ap (λ n. (m + 1) * n) (mul_comm (2 ^ k) den) in
          let high : (m + 1) * 2 ^ k * den ≤ num * 2 ^ 1074 = omega (arith, turn, g) in
          not_alike m k M finite (more.0 ∙ between _ _ _ _ _ _ _ (pow_pos 1074) (pow_pos 1074) D low high (sym here.0) read)
    ]

-- more than half of the gap below it
pub not_below : (m k num den : ℕ) → 0 < den → m < 2 ^ 53 → (0 < k → 2 ^ 52 ≤ m) → scaled_bits binary64 m k < 0x7ff0000000000000
    → 2 * (num * 2 ^ 1074) < (2 * m + 1) * (den * 2 ^ k) → rounds num den ≡ of_bits binary64 (scaled_bits binary64 (m + 1) k) → ⊥
not_below m k num den D M N finite below read =
    let unit : ℕ = den * 2 ^ k in
    let U : 0 < unit = mul-pos D (pow_pos k) in
    let two : (2 * m + 1) * unit ≡ 2 * (m * unit) + unit = grind arith in
    elim (order (num * 2 ^ 1074) (m * unit)) [
      | inr g ↦
          let next : (m + 1) * unit ≡ m * unit + unit = grind arith in
          let just : IsJustAbove binary64 num den m k = record { significand = record { fits = M; normal = N }; from = g; below = omega (arith, two, below, next, U) } in
          let near = nearest_below binary64 num den m k D just below in
          not_alike m k M finite (sym read ∙ sym near.0)
      | inl l ↦
          let more = exact (m + 1) k (omega arith) (λ K. omega (arith, N K)) in
          let here = exact m k (omega arith) N in
          let high : m * 2 ^ k * 2 ^ 1074 ≤ (m + 1) * 2 ^ k * 2 ^ 1074 = mul-le-mul_right (2 ^ 1074) (mul-le-mul_right (2 ^ k) (omega arith)) in
          let turn : m * 2 ^ k * den ≡ m * unit = mul_assoc m (2 ^ k) den ∙ ap (λ n. m * n) (mul_comm (2 ^ k) den) in
          let low : num * 2 ^ 1074 ≤ m * 2 ^ k * den = omega (arith, turn, l) in
          not_alike m k M finite (sym (between _ _ _ _ _ _ _ D (pow_pos 1074) (pow_pos 1074) low high read (sym more.0)) ∙ sym here.0)
    ]
