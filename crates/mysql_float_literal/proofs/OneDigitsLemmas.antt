-- Only one decimal has the fewest digits and is the closest of these.
use Rattle.std.proofs.Common.{◌≡◌, ℕ, ◌+◌, ◌-◌, ◌*◌, ◌^◌, ◌<◌, ◌≤◌, Bool, inl, inr, sym, ap, ◌∙◌, subst, arith, pow-add, mul_assoc, mul_right_comm}
use native.Mathlib.Nat.{eq_of_mul-eq-mul_right}
use Rattle.mysql_float_literal.specs.DoubleDigits.{Decimal, nearest_double, IsShortest, AreSameDecimal, IsNoFarther, HasNoMoreDigits, IsEvenBeside, IsClosest}
use Rattle.mysql_float_literal.proofs.DigitLemmas.{order, ten_pos}

-- two decimals of one number with a third are of one number
pub same_through : (d e f : Decimal) → AreSameDecimal d e → AreSameDecimal d f → AreSameDecimal e f
same_through d e f h k =
    go (d.digits * 10 ^ d.tens) (e.digits * 10 ^ e.tens) (f.digits * 10 ^ f.tens) (10 ^ d.places) (10 ^ e.places) (10 ^ f.places) (ten_pos d.places) h k
  where
    go : (a b c x y z : ℕ) → 0 < x → a * y ≡ b * x → a * z ≡ c * x → b * z ≡ c * y
    go a b c x y z some h k =
        eq_of_mul-eq-mul_right x some _ _ (mul_right_comm b z x ∙ (ap (λ n. n * z) (sym h) ∙ (mul_right_comm a y z ∙ (ap (λ n. n * y) k ∙ mul_right_comm c x y))))

-- the digits of a number with more zeros in front of its place
even_odd : (a b k : ℕ) → 2 * a * 10 ^ k ≡ 2 * b + 1 → ⊥
even_odd a b k e = omega (arith, mul_assoc 2 a (10 ^ k), e)

less_tens : (x y i j : ℕ) → i ≤ j → x * 10 ^ i ≡ y * 10 ^ j → y * 10 ^ (j - i) ≡ x
less_tens x y i j h e =
    let sum : j - i + i ≡ j = omega arith in
    eq_of_mul-eq-mul_right (10 ^ i) (ten_pos i) _ _
    (mul_assoc y (10 ^ (j - i)) (10 ^ i) ∙ (ap (λ n. y * n) (sym (pow-add 10 (j - i) i) ∙ ap (λ n. 10 ^ n) sum) ∙ sym e))

-- they can't both be the even one
pub not_both_even : (d e : Decimal) → IsEvenBeside d e → IsEvenBeside e d → ⊥
not_both_even d e h k =
    let first : 2 * h.0 * 10 ^ (h.2 + k.3) ≡ (2 * k.1 + 1) * 10 ^ (k.2 + h.3) = joined _ _ _ _ _ _ (same_through d _ _ h.4 k.5) in
    let second : (2 * h.1 + 1) * 10 ^ (h.2 + k.3) ≡ 2 * k.0 * 10 ^ (k.2 + h.3) = joined _ _ _ _ _ _ (same_through e _ _ h.5 k.4) in
    elim (order (h.2 + k.3) (k.2 + h.3)) [
      | inl l ↦ even_odd k.0 h.1 (k.2 + h.3 - (h.2 + k.3)) (less_tens _ _ _ _ (omega arith) second)
      | inr g ↦ even_odd h.0 k.1 (h.2 + k.3 - (k.2 + h.3)) (less_tens _ _ _ _ (omega arith) (sym first))
    ]
  where
    joined : (x y a b c f : ℕ) → x * 10 ^ a * 10 ^ b ≡ y * 10 ^ c * 10 ^ f → x * 10 ^ (a + b) ≡ y * 10 ^ (c + f)
    joined x y a b c f e =
        ap (λ n. x * n) (pow-add 10 a b) ∙ (sym (mul_assoc x (10 ^ a) (10 ^ b)) ∙ (e ∙ (mul_assoc y (10 ^ c) (10 ^ f) ∙ ap (λ n. y * n) (sym (pow-add 10 c f)))))

-- a shortest decimal has no more digits than another one that reads as the same double
pub no_more : (negative : Bool) (d e : Decimal) → nearest_double negative d ≡ nearest_double negative e → IsShortest negative e → HasNoMoreDigits e d
no_more negative d e same short count h = short d count same h

pub one_decimal : (negative : Bool) (d e : Decimal) → nearest_double negative d ≡ nearest_double negative e
    → IsShortest negative d → IsShortest negative e → IsClosest negative d → IsClosest negative e → AreSameDecimal d e
one_decimal negative d e same short_d short_e close_d close_e =
    let here = close_d e (sym same) (no_more negative d e same short_e) in
    let there = close_e d same (no_more negative e d (sym same) short_d) in
    let near : IsNoFarther (nearest_double negative d) e d = subst (λ x. IsNoFarther x e d) (sym same) there.0 in
    let far : IsNoFarther (nearest_double negative e) d e = subst (λ x. IsNoFarther x d e) same here.0 in
    elim (here.1 near) [
      | inl equal ↦ equal
      | inr even ↦ elim (there.1 far) [
        | inl equal ↦ sym equal
        | inr also ↦ absurd (not_both_even d e even also)
      ]
    ]
