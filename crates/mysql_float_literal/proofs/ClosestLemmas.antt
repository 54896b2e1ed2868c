-- A decimal is the closest where it is as close as its two neighbours, or these read as another double.
use Rattle.std.proofs.Common.{◌≡◌, ℕ, zero, suc, ◌+◌, ◌-◌, ◌*◌, ◌^◌, ◌<◌, ◌≤◌, ◌⊎◌, Bool, false, inl, inr, sym, ap, ◌∙◌, subst, arith, pow-add, mul_assoc, mul_comm, mul_left_comm, mul_right_comm, mul-le-mul_right, mul-lt-mul_of_pos_right, mul-pos, le_of_mul-le-mul_right}
use native.Mathlib.Nat.{eq_of_mul-eq-mul_right, lt_of_mul-lt-mul_right}
use lib.Ieee.{Float, nan, inf, fin}
use lib.Ieee.Fits.{down_pos}
use Rattle.mysql_float_literal.specs.DoubleDigits.{Decimal, nearest_double, HasAtMost, AreSameDecimal, apart, distance, size_above, size_below, IsNoFarther, IsEvenBeside, IsClosest}
use Rattle.mysql_float_literal.specs.DigitSteps.{IsBetter}
use Rattle.mysql_float_literal.proofs.DigitLemmas.{order, ten_pos, tens_grow}
use Rattle.mysql_float_literal.proofs.ConvexLemmas.{IsAtMost, reads, reads_between, alike_unsigned, distance_unsigned}
use Rattle.mysql_float_literal.proofs.OneDigitsLemmas.{same_through}
use Rattle.mysql_float_literal.proofs.ShortestLemmas.{at, high, low, of_other, of_at, at_most_at, at_least_at}

-- ---- distances over one divisor

apart_times : (a b k : ℕ) → apart a b * k ≡ apart (a * k) (b * k)
apart_times a b k =
    elim (order a b) [
      | inl l ↦ let some : a ≤ b = omega arith in let is : apart a b ≡ b - a = omega arith in ap (λ n. n * k) is ∙ omega (arith, mul-le-mul_right k some, parts a b k some)
      | inr g ↦ let is : apart a b ≡ a - b = omega arith in ap (λ n. n * k) is ∙ omega (arith, mul-le-mul_right k g, parts b a k g)
    ]
  where
    parts : (a b k : ℕ) → a ≤ b → (b - a) * k + a * k ≡ b * k
    parts a b k h = let e : b - a + a ≡ b = omega arith in let join : (b - a) * k + a * k ≡ (b - a + a) * k = omega arith in join ∙ ap (λ n. n * k) e

-- the size of x is above / below; a is one number's digits and tens, and x its divisor; so are b and y
module _ (above below a x b y k : ℕ) where
  one_side : apart (a * below) (above * x) * y * k ≡ apart (a * below * (y * k)) (above * (x * y * k))
  one_side =
      let join : apart (a * below) (above * x) * y * k ≡ apart (a * below) (above * x) * (y * k) = mul_assoc _ y k in
      let turn : above * x * (y * k) ≡ above * (x * y * k) = omega (arith, mul_assoc above x (y * k), ap (λ n. above * n) (mul_assoc x y k)) in
      join ∙ (apart_times _ _ (y * k) ∙ ap (λ n. apart (a * below * (y * k)) n) turn)

  other_side : apart (b * below) (above * y) * x * k ≡ apart (b * below * (x * k)) (above * (x * y * k))
  other_side =
      let join : apart (b * below) (above * y) * x * k ≡ apart (b * below) (above * y) * (x * k) = mul_assoc _ x k in
      let turn : above * y * (x * k) ≡ above * (x * y * k) = mul_assoc above y (x * k) ∙ ap (λ n. above * n) (mul_left_comm y x k ∙ sym (mul_assoc x y k)) in
      join ∙ (apart_times _ _ (x * k) ∙ ap (λ n. apart (b * below * (x * k)) n) turn)

  to_scaled : apart (a * below) (above * x) * y ≤ apart (b * below) (above * y) * x → apart (a * below * (y * k)) (above * (x * y * k)) ≤ apart (b * below * (x * k)) (above * (x * y * k))
  to_scaled h = omega (arith, one_side, other_side, mul-le-mul_right k h)

  from_scaled : 0 < k → apart (a * below * (y * k)) (above * (x * y * k)) ≤ apart (b * below * (x * k)) (above * (x * y * k)) → apart (a * below) (above * x) * y ≤ apart (b * below) (above * y) * x
  from_scaled some h = le_of_mul-le-mul_right {k = k} (omega (arith, one_side, other_side, h)) some

-- ---- on the number line

below_all : (o l m x : ℕ) → o ≤ l → l < m → apart m x ≤ apart l x → (apart m x ≤ apart o x) × (apart o x ≤ apart m x → (o ≡ l) × (apart l x ≤ apart m x))
below_all o l m x h less near = (omega arith, λ back. (omega arith, omega arith))

above_all : (o u m x : ℕ) → u ≤ o → m < u → apart m x ≤ apart u x → (apart m x ≤ apart o x) × (apart o x ≤ apart m x → (o ≡ u) × (apart u x ≤ apart m x))
above_all o u m x h less near = (omega arith, λ back. (omega arith, omega arith))

-- m, its neighbour l and another number o, with their divisors
module _ (above below m x l y o z : ℕ) (B : 0 < below) (X : 0 < x) (Y : 0 < y) (Z : 0 < z) where
  abbrev M : ℕ
  M = m * below * (y * z)

  abbrev L : ℕ
  L = l * below * (x * z)

  abbrev O : ℕ
  O = o * below * (x * y)

  abbrev V : ℕ
  V = above * (x * y * z)

  value : above * (x * z * y) ≡ V
  value = ap (λ n. above * n) (mul_right_comm x z y)

  m_turn : m * below * (z * y) ≡ M
  m_turn = ap (λ n. m * below * n) (mul_comm z y)

  near_scaled : apart (m * below) (above * x) * y ≤ apart (l * below) (above * y) * x → apart M V ≤ apart L V
  near_scaled h = to_scaled above below m x l y z h

  near_back : apart L V ≤ apart M V → apart (l * below) (above * y) * x ≤ apart (m * below) (above * x) * y
  near_back h =
      let turned : above * (y * x * z) ≡ V = ap (λ n. above * (n * z)) (mul_comm y x) in
      from_scaled above below l y m x z Z (subst (λ v. apart L v ≤ apart M v) (sym turned) h)

  other_from : apart M V ≤ apart O V → apart (m * below) (above * x) * z ≤ apart (o * below) (above * z) * x
  other_from h =
      from_scaled above below m x o z y Y (subst (λ v. apart (m * below * (z * y)) v ≤ apart O v) (sym value) (subst (λ n. apart n V ≤ apart O V) (sym m_turn) h))

  other_to : apart (o * below) (above * z) * x ≤ apart (m * below) (above * x) * z → apart O V ≤ apart M V
  other_to h =
      let scaled = to_scaled above below o z m x y h in
      let turned : above * (z * x * y) ≡ V = ap (λ n. above * n) (ap (λ n. n * y) (mul_comm z x) ∙ mul_right_comm x z y) in
      subst (λ v. apart O v ≤ apart M v) turned (subst (λ n. apart O (above * (z * x * y)) ≤ apart n (above * (z * x * y))) m_turn scaled)

  o_is : O ≡ o * y * (below * x)
  o_is = grind arith

  l_is : L ≡ l * z * (below * x)
  l_is = grind arith

  l_also : L ≡ l * x * (below * z)
  l_also = grind arith

  m_is : M ≡ m * y * (below * z)
  m_is = grind arith

  pub low_side : o * y ≤ l * z → l * x < m * y → apart (m * below) (above * x) * y ≤ apart (l * below) (above * y) * x
      → (apart (m * below) (above * x) * z ≤ apart (o * below) (above * z) * x)
      × (apart (o * below) (above * z) * x ≤ apart (m * below) (above * x) * z → (o * y ≡ l * z) × (apart (l * below) (above * y) * x ≤ apart (m * below) (above * x) * y))
  low_side order less near =
      let all = below_all O L M V (omega (arith, o_is, l_is, mul-le-mul_right (below * x) order)) (omega (arith, l_also, m_is, mul-lt-mul_of_pos_right less (mul-pos B Z))) (near_scaled near) in
      (other_from all.0, λ back. let r = all.1 (other_to back) in (eq_of_mul-eq-mul_right (below * x) (mul-pos B X) _ _ (sym o_is ∙ (r.0 ∙ l_is)), near_back r.1))

  pub high_side : l * z ≤ o * y → m * y < l * x → apart (m * below) (above * x) * y ≤ apart (l * below) (above * y) * x
      → (apart (m * below) (above * x) * z ≤ apart (o * below) (above * z) * x)
      × (apart (o * below) (above * z) * x ≤ apart (m * below) (above * x) * z → (o * y ≡ l * z) × (apart (l * below) (above * y) * x ≤ apart (m * below) (above * x) * y))
  high_side order less near =
      let all = above_all O L M V (omega (arith, o_is, l_is, mul-le-mul_right (below * x) order)) (omega (arith, l_also, m_is, mul-lt-mul_of_pos_right less (mul-pos B Z))) (near_scaled near) in
      (other_from all.0, λ back. let r = all.1 (other_to back) in (eq_of_mul-eq-mul_right (below * x) (mul-pos B X) _ _ (sym o_is ∙ (r.0 ∙ l_is)), near_back r.1))

-- ---- decimals

pub below_pos : (x : Float) → 0 < size_below x
below_pos nan = omega arith
below_pos (inf s) = omega arith
below_pos (fin s m e) = down_pos e

-- d is less than e
abbrev pub IsLess : Decimal → Decimal → Type 0
IsLess d e = d.digits * 10 ^ d.tens * 10 ^ e.places < e.digits * 10 ^ e.tens * 10 ^ d.places

-- what `IsClosest` asks of another decimal
abbrev IsFine : Float → Decimal → Decimal → Type 0
IsFine x d e = IsNoFarther x d e × (IsNoFarther x e d → AreSameDecimal d e ⊎ IsEvenBeside d e)

-- ---- of one number

distance_same : (x : Float) (d e : Decimal) → AreSameDecimal d e → distance x d * 10 ^ e.places ≡ distance x e * 10 ^ d.places
distance_same x d e h = equal (size_above x) (size_below x) (d.digits * 10 ^ d.tens) (10 ^ d.places) (e.digits * 10 ^ e.tens) (10 ^ e.places) h
  where
    equal : (above below a x b y : ℕ) → a * y ≡ b * x → apart (a * below) (above * x) * y ≡ apart (b * below) (above * y) * x
    equal above below a x b y h =
        let left : a * below * y ≡ b * below * x = mul_right_comm a below y ∙ (ap (λ n. n * below) h ∙ mul_right_comm b x below) in
        let right : above * x * y ≡ above * y * x = mul_right_comm above x y in
        apart_times (a * below) (above * x) y ∙ ((λ i. apart (left i) (right i)) ∙ sym (apart_times (b * below) (above * y) x))

pub fine_same : (x : Float) (d e : Decimal) → AreSameDecimal d e → IsFine x d e
fine_same x d e h = (omega (arith, distance_same x d e h), λ _. inl h)

pub near_same : (x : Float) (d e f : Decimal) → AreSameDecimal d e → IsNoFarther x e f → IsNoFarther x d f
near_same x d e f h near = go (distance x d) (distance x e) (distance x f) (10 ^ d.places) (10 ^ e.places) (10 ^ f.places) (ten_pos e.places) (distance_same x d e h) near
  where
    go : (a b c x y z : ℕ) → 0 < y → a * y ≡ b * x → b * z ≤ c * y → a * z ≤ c * x
    go a b c x y z some e h =
        let left : a * z * y ≡ b * z * x = mul_right_comm a z y ∙ (ap (λ n. n * z) e ∙ mul_right_comm b x z) in
        let right : c * x * y ≡ c * y * x = mul_right_comm c x y in
        le_of_mul-le-mul_right {k = y} (omega (arith, left, right, mul-le-mul_right x h)) some

pub near_same_too : (x : Float) (d e f : Decimal) → AreSameDecimal d e → IsNoFarther x f d → IsNoFarther x f e
near_same_too x d e f h near = go (distance x d) (distance x e) (distance x f) (10 ^ d.places) (10 ^ e.places) (10 ^ f.places) (ten_pos d.places) (distance_same x d e h) near
  where
    go : (a b c x y z : ℕ) → 0 < x → a * y ≡ b * x → c * x ≤ a * z → c * y ≤ b * z
    go a b c x y z some e h =
        let left : a * z * y ≡ b * z * x = mul_right_comm a z y ∙ (ap (λ n. n * z) e ∙ mul_right_comm b x z) in
        let right : c * x * y ≡ c * y * x = mul_right_comm c x y in
        le_of_mul-le-mul_right {k = x} (omega (arith, left, right, mul-le-mul_right y h)) some

-- another name of a better decimal is better too
pub better_same : (x : Float) (d e f : Decimal) → AreSameDecimal d e → IsBetter x e f → IsBetter x d f
better_same x d e f h (inl other) = inl other
better_same x d e f h (inr b) =
    inr (near_same x d e f h b.0, λ back. let k = b.1 (near_same_too x d e f h back) in (k.0, k.1, k.2, k.3, same_through e d _ (sym h) k.4, k.5))

even_same : (d e f : Decimal) → AreSameDecimal e f → IsEvenBeside d e → IsEvenBeside d f
even_same d e f h k = (k.0, k.1, k.2, k.3, k.4, same_through e f _ h k.5)

module _ (x : Float) (d e f : Decimal) (this : reads d ≡ x) (that : reads f ≡ x) (better : IsBetter x d e) where
  abbrev side : Type 0
  side = (f.digits * 10 ^ f.tens * 10 ^ e.places ≡ e.digits * 10 ^ e.tens * 10 ^ f.places) × IsNoFarther x e d

  finish : (IsNoFarther x e d → IsEvenBeside d e) → IsNoFarther x d f × (IsNoFarther x f d → side) → IsFine x d f
  finish even p = (p.0, λ back. let r = p.1 back in inr (even_same d e f (sym r.0) (even r.1)))

  pub fine_below : IsAtMost f e → IsLess e d → IsFine x d f
  fine_below h less =
      elim better [
        | inl other_double ↦ absurd (other_double (reads_between x f e d h (omega (arith, less)) that this))
        | inr b ↦ finish b.1 (low_side (size_above x) (size_below x) _ _ _ _ _ _ (below_pos x) (ten_pos d.places) (ten_pos e.places) (ten_pos f.places) h less b.0)
      ]

  pub fine_above : IsAtMost e f → IsLess d e → IsFine x d f
  fine_above h less =
      elim better [
        | inl other_double ↦ absurd (other_double (reads_between x d e f (omega (arith, less)) h this that))
        | inr b ↦ finish b.1 (high_side (size_above x) (size_below x) _ _ _ _ _ _ (below_pos x) (ten_pos d.places) (ten_pos e.places) (ten_pos f.places) h less b.0)
      ]

-- ---- the neighbours

-- as many digits as a number has
pub digit_count : (m bound : ℕ) → 0 < m → m < 10 ^ bound → (n : ℕ) × (10 ^ n ≤ m) × (m < 10 ^ (n + 1))
digit_count m zero some h = absurd (omega (arith, some, h))
digit_count m (suc bound) some h =
    elim (order m (10 ^ bound)) [
      | inl l ↦ digit_count m bound some l
      | inr g ↦ let e : suc bound ≡ bound + 1 = omega arith in (bound, g, subst (λ k. m < 10 ^ k) e h)
    ]

-- a number of at most n + 1 digits, in another unit, below k is at most k - 1, and above k at least k + 1
module _ (a n k i j : ℕ) (few : a < 10 ^ (n + 1)) where
  finer : i < j → a * 10 ^ i < 10 ^ n * 10 ^ j
  finer l =
      let grown : 10 ^ i ≤ 10 ^ (j - 1) = tens_grow i (j - 1) (omega arith) in
      let up : n + 1 + (j - 1) ≡ n + j = omega arith in
      let same : 10 ^ (n + 1) * 10 ^ (j - 1) ≡ 10 ^ n * 10 ^ j = sym (pow-add 10 (n + 1) (j - 1)) ∙ (ap (λ e. 10 ^ e) up ∙ pow-add 10 n j) in
      omega (arith, same, mul-lt-mul_of_pos_right few (ten_pos (j - 1)), mul_comm a (10 ^ i), mul_comm a (10 ^ (j - 1)), mul-le-mul_right a grown)

  coarser : j ≤ i → a * 10 ^ i ≡ a * 10 ^ (i - j) * 10 ^ j
  coarser l = let e : i - j + j ≡ i = omega arith in ap (λ n. a * 10 ^ n) (sym e) ∙ (ap (λ n. a * n) (pow-add 10 (i - j) j) ∙ sym (mul_assoc a (10 ^ (i - j)) (10 ^ j)))

  pub next_below : 10 ^ n < k → a * 10 ^ i < k * 10 ^ j → a * 10 ^ i ≤ (k - 1) * 10 ^ j
  next_below large less =
      elim (order i j) [
        | inl l ↦ let h : 10 ^ n ≤ k - 1 = omega arith in omega (arith, finer l, mul-le-mul_right (10 ^ j) h)
        | inr g ↦ elim (order (a * 10 ^ (i - j)) k) [
          | inl l ↦ let h : a * 10 ^ (i - j) ≤ k - 1 = omega arith in omega (arith, coarser g, mul-le-mul_right (10 ^ j) h)
          | inr m ↦ absurd (omega (arith, coarser g, less, mul-le-mul_right (10 ^ j) m))
        ]
      ]

  pub next_above : 10 ^ n ≤ k → k * 10 ^ j < a * 10 ^ i → (k + 1) * 10 ^ j ≤ a * 10 ^ i
  next_above large less =
      elim (order i j) [
        | inl l ↦ absurd (omega (arith, finer l, mul-le-mul_right (10 ^ j) large, less))
        | inr g ↦ elim (order k (a * 10 ^ (i - j))) [
          | inl l ↦ let h : k + 1 ≤ a * 10 ^ (i - j) = omega arith in omega (arith, coarser g, mul-le-mul_right (10 ^ j) h)
          | inr m ↦ absurd (omega (arith, coarser g, less, mul-le-mul_right (10 ^ j) m))
        ]
      ]

less_at : (tens places m n : ℕ) → m < n → IsLess (at tens places m) (at tens places n)
less_at tens places m n h = mul-lt-mul_of_pos_right (mul-lt-mul_of_pos_right h (ten_pos tens)) (ten_pos places)

-- The number is m here, and k in the same or a finer unit: m where that is above 1, and otherwise 10.
module _ (tens places m n finer_tens finer_places k : ℕ) (x : Float) (this : reads (at tens places m) ≡ x)
    (many : 10 ^ n ≤ m) (few : m < 10 ^ (n + 1)) (same : AreSameDecimal (at tens places m) (at finer_tens finer_places k)) (large : 10 ^ n < k)
    (down_better : IsBetter x (at tens places m) (at finer_tens finer_places (k - 1))) (up_better : IsBetter x (at tens places m) (at tens places (m + 1))) where
  abbrev d : Decimal
  d = at tens places m

  pub closest_at : IsClosest false d
  closest_at other alike no_more =
      let h : HasAtMost (n + 1) other = no_more (n + 1) (m, 0, few, omega arith) in
      let a : ℕ = h.0 in
      let zeros : ℕ = h.1 in
      let that : reads other ≡ x = alike ∙ this in
      let i : ℕ = high tens places 0 a zeros other h.3 in
      let j : ℕ = low tens places 0 a zeros other h.3 in
      subst (λ y. IsFine y d other) (sym this)
      (elim (order (a * 10 ^ i) (m * 10 ^ j)) [
        | inl l ↦ lower other a zeros h.2 h.3 that l
        | inr g ↦ elim (order (m * 10 ^ j) (a * 10 ^ i)) [
          | inl l ↦
              fine_above x d (at tens places (m + 1)) other this that up_better
              (at_least_at tens places (m + 1) a zeros other h.3 (next_above a n m i j h.2 many l)) (less_at tens places m (m + 1) (omega arith))
          | inr e ↦ fine_same x d other (omega (arith, of_other tens places m a zeros other h.3, of_at tens places m a zeros other h.3, g, e))
        ]
      ])
    where
      moved : (o m k x y z : ℕ) → 0 < y → o * x < m * z → m * y ≡ k * x → o * y < k * z
      moved o m k x y z some less e =
          let left : o * x * y ≡ o * y * x = mul_right_comm o x y in
          let right : m * z * y ≡ k * z * x = mul_right_comm m z y ∙ (ap (λ n. n * z) e ∙ mul_right_comm k x z) in
          lt_of_mul-lt-mul_right x (omega (arith, left, right, mul-lt-mul_of_pos_right less some))

      lower : (other : Decimal) (a zeros : ℕ) → a < 10 ^ (n + 1) → other.digits ≡ a * 10 ^ zeros → reads other ≡ x
          → a * 10 ^ (zeros + other.tens + places) < m * 10 ^ (tens + other.places) → IsFine x d other
      lower other a zeros small is that l =
          let less : other.digits * 10 ^ other.tens * 10 ^ places < m * 10 ^ tens * 10 ^ other.places = omega (arith, of_other tens places m a zeros other is, of_at tens places m a zeros other is, l) in
          let finer_less : other.digits * 10 ^ other.tens * 10 ^ finer_places < k * 10 ^ finer_tens * 10 ^ other.places = moved _ (m * 10 ^ tens) (k * 10 ^ finer_tens) (10 ^ places) (10 ^ finer_places) (10 ^ other.places) (ten_pos finer_places) less same in
          let here : a * 10 ^ (zeros + other.tens + finer_places) < k * 10 ^ (finer_tens + other.places) = omega (arith, of_other finer_tens finer_places k a zeros other is, of_at finer_tens finer_places k a zeros other is, finer_less) in
          let under : IsLess (at finer_tens finer_places (k - 1)) d = omega (arith, same, less_at finer_tens places (k - 1) k (omega arith)) in
          fine_below x d (at finer_tens finer_places (k - 1)) other this that down_better (at_most_at finer_tens finer_places (k - 1) a zeros other is (next_below a n k _ _ small large here)) under

-- a decimal that is the closest without a sign is the closest with one
pub closest_signed : (negative : Bool) (d : Decimal) → IsClosest false d → IsClosest negative d
closest_signed negative d h other same no_more =
    let fine = h other (alike_unsigned negative other d same) no_more in
    let here = distance_unsigned negative d d in
    let there = distance_unsigned negative d other in (
      subst (λ n. n * 10 ^ other.places ≤ distance (nearest_double negative d) other * 10 ^ d.places) (sym here) (subst (λ n. distance (reads d) d * 10 ^ other.places ≤ n * 10 ^ d.places) (sym there) fine.0),
      λ back. fine.1 (subst (λ n. n * 10 ^ d.places ≤ distance (reads d) d * 10 ^ other.places) there (subst (λ n. distance (nearest_double negative d) other * 10 ^ d.places ≤ n * 10 ^ other.places) here back)),
    )
