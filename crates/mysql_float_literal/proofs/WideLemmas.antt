-- Numbers in limbs, and their order.
use Rattle.std.proofs.Common.{◌≡◌, ℕ, zero, suc, ◌+◌, ◌*◌, ◌/◌, ◌%◌, ◌^◌, ◌<◌, ◌≤◌, List, length, get_or, set, replicate, inl, inr, refl, sym, ap, ◌∙◌, arith, pow-add, mul_assoc, mul-lt-mul_of_pos_right, Less, Equal, Greater, Ordering}
use native.Mathlib.Nat.{eq_of_mul-eq-mul_right, lt_of_mul-lt-mul_right}
use lib.Seq.{get_or-set_other}
use Rattle.std.specs.Prelude.{slice_index}
use Rattle.std.specs.Ordering.{nat_cmp}
use Rattle.core.specs.Cmp.{ranked, nat_cmp_is}
use Rattle.core.specs.Dec2flt.Limbs.{limb_weight, value_below, AreZeroFrom}
use Rattle.core.proofs.dec2flt.LimbsLemmas.{value_below-zero, value_below-suc, value_below-set, limb_weight-zero, limb_weight-suc, value_below_zeros, value_below_less, zeros}
use Rattle.mysql_float_literal.proofs.DigitLemmas.{order}

-- ---- one limb

weight_is : (i : ℕ) → limb_weight i ≡ 2 ^ (64 * i)
weight_is zero = limb_weight-zero
weight_is (suc i) =
    let up : suc i ≡ i + 1 = omega arith in
    let bits : 64 * i + 64 ≡ 64 * suc i = omega arith in
    ap limb_weight up ∙ (limb_weight-suc i ∙ (ap (λ n. n * 2 ^ 64) (weight_is i) ∙ (sym (pow-add 2 (64 * i) 64) ∙ ap (λ n. 2 ^ n) bits)))

none : (room : ℕ) → AreZeroFrom (replicate room 0) 0
none room i h = zeros room i

-- one limb alone, and the other bits of a power of two
pub one_limb : (room n twos : ℕ) → twos / 64 < length {A = ℕ} (replicate room 0) → value_below (set (replicate room 0) (twos / 64) n) (twos / 64 + 1) * 2 ^ (twos % 64) ≡ n * 2 ^ twos
one_limb room n twos within =
    let i : ℕ = twos / 64 in
    let value : value_below (set (replicate room 0) i n) (i + 1) ≡ n * 2 ^ (64 * i) =
    value_below-set (replicate room 0) i n within ∙ ((λ k. (value_below_zeros (replicate room 0) 0 i (none room) (omega arith) ∙ value_below-zero (replicate room 0)) k + n * weight_is i k) ∙ omega arith) in
    let sum : 64 * i + twos % 64 ≡ twos = omega arith in
    ap (λ v. v * 2 ^ (twos % 64)) value ∙ (mul_assoc n (2 ^ (64 * i)) (2 ^ (twos % 64)) ∙ ap (λ x. n * x) (sym (pow-add 2 (64 * i) (twos % 64)) ∙ ap (λ x. 2 ^ x) sum))

pub zeros_after : (room n i : ℕ) → AreZeroFrom (set (replicate room 0) i n) (i + 1)
zeros_after room n i k h = get_or-set_other (replicate room 0) i k n 0 (λ e. omega (arith, e, h)) ∙ zeros room k

-- ---- orders

-- the same order of two other numbers
pub same_order : (x y a b : ℕ) → (x < y → a < b) → (x ≡ y → a ≡ b) → (y < x → b < a) → nat_cmp x y ≡ nat_cmp a b
same_order x y a b less equal more = go (nat_cmp x y) refl
  where
    go : (r : Ordering) → r ≡ nat_cmp x y → r ≡ nat_cmp a b
    go Less e = nat_cmp_is a b Less (less (ranked x y Less e))
    go Equal e = nat_cmp_is a b Equal (equal (ranked x y Equal e))
    go Greater e = nat_cmp_is a b Greater (more (ranked x y Greater e))

-- of two pairs in one proportion
pub scaled_order : (x y a b p q : ℕ) → 0 < p → 0 < q → x * p ≡ a * q → y * p ≡ b * q → nat_cmp a b ≡ nat_cmp x y
scaled_order x y a b p q P Q e f =
    same_order a b x y (λ h. lt_of_mul-lt-mul_right p (omega (arith, e, f, mul-lt-mul_of_pos_right h Q))) (λ h. eq_of_mul-eq-mul_right p P x y (e ∙ (ap (λ n. n * q) h ∙ sym f)))
    (λ h. lt_of_mul-lt-mul_right p (omega (arith, e, f, mul-lt-mul_of_pos_right h Q)))

-- the limbs from i up to n are the same
abbrev pub AgreeBetween : List ℕ → List ℕ → ℕ → ℕ → Type 0
AgreeBetween a b i n = (k : ℕ) → i ≤ k → k < n → slice_index a k ≡ slice_index b k

pub same_above : (a b : List ℕ) (i n : ℕ) → AgreeBetween a b i n → i ≤ n → value_below a n + value_below b i ≡ value_below b n + value_below a i
same_above a b i zero agree h = let e : i ≡ 0 = omega arith in rw e (omega arith)
same_above a b i (suc n) agree h =
    elim (order n i) [
      | inl l ↦ let e : i ≡ suc n = omega arith in rw e (omega arith)
      | inr g ↦
          let up : suc n ≡ n + 1 = omega arith in
          let left : value_below a (suc n) ≡ value_below a n + get_or a n 0 * limb_weight n = ap (value_below a) up ∙ value_below-suc a n in
          let right : value_below b (suc n) ≡ value_below b n + get_or b n 0 * limb_weight n = ap (value_below b) up ∙ value_below-suc b n in
          let below : AgreeBetween a b i n = λ k h l. agree k h (omega arith) in
          let here : get_or a n 0 ≡ get_or b n 0 = agree n g (omega arith) in
          omega (arith, left, right, same_above a b i n below g, ap (λ x. x * limb_weight n) here)
    ]

-- where they differ in limb i, this limb decides
pub limb_decides : (a b : List ℕ) (i n : ℕ) → ((k : ℕ) → get_or a k 0 < 2 ^ 64) → ((k : ℕ) → get_or b k 0 < 2 ^ 64) → i < n → AgreeBetween a b (i + 1) n → (get_or a i 0 ≡ get_or b i 0 → ⊥)
    → nat_cmp (get_or a i 0) (get_or b i 0) ≡ nat_cmp (value_below a n) (value_below b n)
limb_decides a b i n fit_a fit_b within agree differ =
    let sum : value_below a n + value_below b (i + 1) ≡ value_below b n + value_below a (i + 1) = same_above a b (i + 1) n agree (omega arith) in
    same_order (get_or a i 0) (get_or b i 0) (value_below a n) (value_below b n)
    (λ l. let less = value_below_less a b i fit_a l in omega (arith, sum, less))
    (λ e. absurd (differ e))
    (λ l. let less = value_below_less b a i fit_b l in omega (arith, sum, less))

pub all_agree : (a b : List ℕ) (n : ℕ) → AgreeBetween a b 0 n → value_below a n ≡ value_below b n
all_agree a b n agree = omega (arith, same_above a b 0 n agree (omega arith), value_below-zero a, value_below-zero b)
