-- What a double over a power of ten, cut off, tells of decimals beside it.
use Rattle.std.proofs.Common.{◌≡◌, ℕ, ◌+◌, ◌-◌, ◌*◌, ◌^◌, ◌<◌, ◌≤◌, false, sym, ap, ◌∙◌, subst, arith, pow-add, pow_pos, mul-pos, mul_assoc, mul_right_comm, mul-le-mul_right, mul-lt-mul_of_pos_right}
use native.Mathlib.Nat.{lt_of_mul-lt-mul_right}
use lib.Ieee.{Float, binary64, of_bits}
use Rattle.fast_float.specs.Rounding.{scaled_bits}
use Rattle.ryu.specs.Scaled.{gap_num, gap_den}
use Rattle.ryu.proofs.Gaps.{at_least}
use Rattle.ryu.proofs.Scaling.{nearest_of_close}
use Rattle.mysql_float_literal.specs.declared.quick.Scaled.{Scaled}
use Rattle.mysql_float_literal.specs.DoubleDigits.{size_above, size_below}
use Rattle.mysql_float_literal.specs.DigitSteps.{AreFiniteBits, IsReadAs, IsSignificandOf, IsScaledDouble, IsTold, fixed}
use Rattle.mysql_float_literal.proofs.DigitLemmas.{ten_pos}
use Rattle.mysql_float_literal.proofs.ClosestLemmas.{below_pos}
use Rattle.mysql_float_literal.proofs.BesideReadLemmas.{not_above, not_below}

-- n / u is d * w / 10 in units of b / a, and x of them are at most m
module _ (m d x w a b n u : ℕ) (key : n * (10 * a) ≡ d * w * b * u) (U : 0 < u) where
  far_above : (c g : ℕ) → m * a < (x + 2) * b → a * c < (2 * g + 4) * b → 10 * (x + 2) + 10 * (g + 2) ≤ d * w → (2 * m + c) * u < 2 * n
  far_above c g below gap close =
      let cut : 20 * (m * a) + 10 * (a * c) < 2 * (d * w * b) = omega (arith, below, gap, mul-le-mul_right b close) in
      lt_of_mul-lt-mul_right (10 * a) (omega (arith, key, mul-lt-mul_of_pos_right cut U))

  far_below : (h : ℕ) → x * b ≤ m * a → a < (2 * h + 2) * b → d * w + 10 * (h + 1) ≤ 10 * x → 2 * n + u < 2 * (m * u)
  far_below h from gap close =
      let cut : 2 * (d * w * b) + 10 * a < 20 * (m * a) = omega (arith, from, gap, mul-le-mul_right b close) in
      lt_of_mul-lt-mul_right (10 * a) (omega (arith, key, mul-lt-mul_of_pos_right cut U))

  twice_less : m * a < (x + 2) * b → 20 * (x + 2) ≤ d * w → 2 * (m * u) < n
  twice_less below close =
      let cut : 20 * (m * a) < d * w * b = omega (arith, below, mul-le-mul_right b close) in
      lt_of_mul-lt-mul_right (10 * a) (omega (arith, key, mul-lt-mul_of_pos_right cut U))

  twice_more : 0 < b → x * b ≤ m * a → d * w < 20 * x → n < 2 * (m * u)
  twice_more B from close =
      let cut : d * w * b < 20 * (m * a) = omega (arith, from, mul-lt-mul_of_pos_right close B) in
      lt_of_mul-lt-mul_right (10 * a) (omega (arith, key, mul-lt-mul_of_pos_right cut U))

keyed : (d g l u k w v h : ℕ) → g * 10 * u ≡ v * h → d * g * l * (10 * (u * k * w)) ≡ d * w * (v * l) * (h * k)
keyed d g l u k w v h same =
    let left : d * g * l * (10 * (u * k * w)) ≡ d * l * k * w * (g * 10 * u) = grind arith in
    let right : d * l * k * w * (v * h) ≡ d * w * (v * l) * (h * k) = grind arith in
    left ∙ ap (λ x. d * l * k * w * x) same ∙ right

-- twice the double against a decimal, from units of the least double
to_less : (a b m t p d e c : ℕ) → 0 < b → a * c ≡ m * t * b → 2 * (m * (p * t)) < d * e * c → 2 * a * p < d * e * b
to_less a b m t p d e c B size less =
    let left : 2 * a * p * c ≡ 2 * (m * (p * t)) * b = let one : 2 * a * p * c ≡ a * c * (2 * p) = grind arith in let two : m * t * b * (2 * p) ≡ 2 * (m * (p * t)) * b = grind arith in one ∙ (ap (λ n. n * (2 * p)) size ∙ two) in
    let right : d * e * b * c ≡ d * e * c * b = mul_right_comm (d * e) b c in
    lt_of_mul-lt-mul_right c (omega (arith, left, right, mul-lt-mul_of_pos_right less B))

to_more : (a b m t p d e c : ℕ) → 0 < b → a * c ≡ m * t * b → d * e * c < 2 * (m * (p * t)) → d * e * b < 2 * a * p
to_more a b m t p d e c B size more =
    let left : 2 * a * p * c ≡ 2 * (m * (p * t)) * b = let one : 2 * a * p * c ≡ a * c * (2 * p) = grind arith in let two : m * t * b * (2 * p) ≡ 2 * (m * (p * t)) * b = grind arith in one ∙ (ap (λ n. n * (2 * p)) size ∙ two) in
    let right : d * e * b * c ≡ d * e * c * b = mul_right_comm (d * e) b c in
    lt_of_mul-lt-mul_right c (omega (arith, left, right, mul-lt-mul_of_pos_right more B))

module _ (bits m k : ℕ) (s : Scaled) (c g : ℕ) (finite : AreFiniteBits bits) (scaled : IsScaledDouble m k s) (small : s.fraction < 2 ^ 64) (M : m ≤ 2 ^ 53) (N : 2 ^ 52 < m)
    (bits_are : scaled_bits binary64 m k ≡ bits) (size : size_above (of_bits binary64 bits) * 2 ^ 1074 ≡ m * 2 ^ k * size_below (of_bits binary64 bits))
    (gap : gap_num k (s.power + 58) * c < (2 * g + 4) * gap_den binary64 (s.power + 58)) where
  abbrev p : ℕ
  p = s.power + 58

  abbrev num : ℕ → ℕ
  num d = d * 10 ^ (s.power - 342)

  abbrev den : ℕ
  den = 10 ^ (342 - s.power)

  units : 0 < den * 2 ^ k
  units = mul-pos (ten_pos (342 - s.power)) (pow_pos k)

  some_gap : 0 < gap_den binary64 p
  some_gap = mul-pos (ten_pos (p - 399)) (pow_pos 1074)

  key : (d : ℕ) → num d * 2 ^ 1074 * (10 * gap_num k p) ≡ d * 2 ^ 64 * gap_den binary64 p * (den * 2 ^ k)
  key d =
      let sum : s.power - 342 + 1 + (399 - p) ≡ p - 399 + (342 - s.power) = omega arith in
      let tens : 10 ^ (s.power - 342) * 10 * 10 ^ (399 - p) ≡ 10 ^ (p - 399) * 10 ^ (342 - s.power) =
      ap (λ n. n * 10 ^ (399 - p)) (sym (pow-add 10 (s.power - 342) 1)) ∙ (sym (pow-add 10 (s.power - 342 + 1) (399 - p)) ∙ (ap (λ n. 10 ^ n) sum ∙ pow-add 10 (p - 399) (342 - s.power))) in
      keyed d _ (2 ^ 1074) _ (2 ^ k) (2 ^ 64) _ _ tens

  read_at : (d : ℕ) → 10 * (fixed s + 2) ≤ d * 2 ^ 64 + 10 * s.half_gap → d * 2 ^ 64 < 10 * fixed s + 10 * s.half_gap → IsReadAs bits s.power d
  read_at d low high =
      let near = nearest_of_close binary64 m k d _ (omega (arith, M)) (λ _. omega (arith, N)) scaled (low, high) in
      let up : p - 400 ≡ s.power - 342 = omega arith in
      let down : 400 - p ≡ 342 - s.power = omega arith in
      let there = subst (λ n. of_bits binary64 (scaled_bits binary64 m k) ≡ lib.Ieee.round binary64 false (d * 10 ^ n) (10 ^ (400 - p))) up near.0 in
      let here = subst (λ n. of_bits binary64 (scaled_bits binary64 m k) ≡ lib.Ieee.round binary64 false (num d) (10 ^ n)) down there in
      sym here ∙ ap (of_bits binary64) bits_are

  low_at : (d : ℕ) → d * 2 ^ 64 + 10 * (s.half_gap + 1) ≤ 10 * fixed s → IsReadAs bits s.power d → ⊥
  low_at d close read =
      let far = far_below m d (fixed s) (2 ^ 64) _ _ _ _ (key d) units s.half_gap scaled.from (omega (arith, scaled.gap_below)) close in
      let back : m - 1 + 1 ≡ m = omega (arith, N) in
      let one : m * (den * 2 ^ k) ≡ (m - 1) * (den * 2 ^ k) + den * 2 ^ k = ap (λ n. n * (den * 2 ^ k)) (sym back) ∙ omega arith in
      not_below (m - 1) k (num d) den (ten_pos (342 - s.power)) (omega (arith, M, N)) (λ _. omega (arith, N)) (omega (arith, bits_are, finite.1)) (omega (arith, far, one))
      (subst (λ n. lib.Ieee.round binary64 false (num d) den ≡ of_bits binary64 (scaled_bits binary64 n k)) (sym back) (read ∙ ap (of_bits binary64) (sym bits_are)))

  abbrev pub IsFar : ℕ → Type 0
  IsFar d = (2 * m + c) * (den * 2 ^ k) < 2 * (num d * 2 ^ 1074)

  pub told_of : ((d : ℕ) → IsFar d → IsReadAs bits s.power d → ⊥) → IsTold bits s g
  told_of far = record {
    finite = finite;
    sizes = omega (arith, scaled.sizes);
    large = λ wide. omega (arith, at_least binary64 m k _ scaled wide, small, N);
    read = read_at;
    low = low_at;
    high = λ d close. far d (far_above m d (fixed s) (2 ^ 64) _ _ _ _ (key d) units c g scaled.below gap close);
    less = λ d close. to_less _ _ m (2 ^ k) den d _ _ (below_pos _) size (twice_less m d (fixed s) (2 ^ 64) _ _ _ _ (key d) units scaled.below close);
    more = λ d close. to_more _ _ m (2 ^ k) den d _ _ (below_pos _) size (twice_more m d (fixed s) (2 ^ 64) _ _ _ _ (key d) units some_gap scaled.from close);
  }

-- not a power of two
pub told_within : (bits m k : ℕ) (s : Scaled) → AreFiniteBits bits → IsSignificandOf bits m k → 2 ^ 52 < m → s.fraction < 2 ^ 64 → IsScaledDouble m k s → IsTold bits s s.half_gap
told_within bits m k s finite h N small scaled =
    let gap : gap_num k (s.power + 58) * 1 < (2 * s.half_gap + 4) * gap_den binary64 (s.power + 58) = omega (arith, scaled.gap_below) in
    told_of bits m k s 1 s.half_gap finite scaled small (omega (arith, h.fits)) N h.bits_are h.size gap
    (λ d far read. not_above m k _ _ (ten_pos (342 - s.power)) (omega (arith, h.fits)) (λ _. omega (arith, N)) (omega (arith, h.bits_are, finite.1)) far (read ∙ ap (of_bits binary64) (sym h.bits_are)))

-- a power of two, as twice the significand
pub told_at_edge : (bits k : ℕ) (s : Scaled) → AreFiniteBits bits → IsSignificandOf bits (2 ^ 52) k → 0 < k → s.fraction < 2 ^ 64 → IsScaledDouble (2 ^ 53) (k - 1) s → IsTold bits s (2 * s.half_gap)
told_at_edge bits k s finite h K small scaled =
    let gap : gap_num (k - 1) (s.power + 58) * 2 < (2 * (2 * s.half_gap) + 4) * gap_den binary64 (s.power + 58) = omega (arith, scaled.gap_below) in
    let up : k - 1 + 1 ≡ k = omega (arith, K) in
    let twice : 2 ^ k ≡ 2 ^ (k - 1) * 2 = ap (λ n. 2 ^ n) (sym up) ∙ pow-add 2 (k - 1) 1 in
    let bits_are : scaled_bits binary64 (2 ^ 53) (k - 1) ≡ bits = omega (arith, h.bits_are, K) in
    let same : 2 ^ 52 * 2 ^ k ≡ 2 ^ 53 * 2 ^ (k - 1) = omega (arith, twice) in
    told_of bits (2 ^ 53) (k - 1) s 2 (2 * s.half_gap) finite scaled small (omega arith) (omega arith) bits_are
    (h.size ∙ ap (λ n. n * size_below (of_bits binary64 bits)) same) gap
    (λ d far read. not_above (2 ^ 52) k _ _ (ten_pos (342 - s.power)) (omega arith) (λ _. omega arith) (omega (arith, h.bits_are, finite.1)) (wider _ _ _ _ twice far) (read ∙ ap (of_bits binary64) (sym h.bits_are)))
  where
    wider : (den t half n : ℕ) → t ≡ half * 2 → (2 * 2 ^ 53 + 2) * (den * half) < n → (2 * 2 ^ 52 + 1) * (den * t) < n
    wider den t half n e l = let two : den * t ≡ den * half * 2 = ap (λ x. den * x) e ∙ sym (mul_assoc den half 2) in omega (arith, two, l)
