-- What a written layout promises of its text.
use Rattle.std.proofs.Common.{◌≡◌, ℕ, zero, suc, ◌+◌, ◌*◌, ◌^◌, ◌<◌, ◌≤◌, ◌++◌, ◌⊎◌, Bool, false, List, Some, inl, inr, refl, sym, ap, ◌∙◌, subst, arith, pow-add, mul_assoc}
use Rattle.std.specs.Fmt.{sign_text}
use Rattle.std.specs.Float.{binary64}
use Rattle.std.specs.Float.Numeral.{text_of}
use Rattle.std.specs.Float.Parse.{parse_float}
use lib.Ieee.{Float}
use Rattle.core.proofs.dec2flt.Extremes.{nearest_of_zero}
use Rattle.ryu.specs.Sign.{IsSignAndSize}
use Rattle.ryu.proofs.Signs.{signed}
use Rattle.mysql_float_literal.specs.declared.write.Layout.{Layout}
use Rattle.mysql_float_literal.specs.DoubleShape.{IsDouble}
use Rattle.mysql_float_literal.specs.DoubleSpelling.{DoubleSpelling, IsSpelledDouble}
use Rattle.mysql_float_literal.specs.DoubleDigits.{Decimal, decimal_of, nearest_double, HasAtMost, AreSameDecimal, IsShortest, IsClosest, number_in, HasShortestDigits, HasClosestDigits}
use Rattle.mysql_float_literal.specs.DigitSteps.{with_power, IsReadAs}
use Rattle.mysql_float_literal.specs.WrittenParts.{layout_parts, layout_decimal, IsLayoutOfDouble}
use Rattle.mysql_float_literal.proofs.DigitLemmas.{ten_pos}
use Rattle.mysql_float_literal.proofs.OneDigitsLemmas.{same_through}
use Rattle.mysql_float_literal.proofs.OneWrittenLemmas.{Reading, reading}
use Rattle.mysql_float_literal.proofs.ShortestLemmas.{shortest_signed}
use Rattle.mysql_float_literal.proofs.ClosestLemmas.{near_same, near_same_too, fine_same, closest_signed}
use Rattle.mysql_float_literal.proofs.ReadsLemmas.{read_same}
use Rattle.mysql_float_literal.proofs.PaddedLemmas.{layout_spelled, layout_number, layout_shape}

-- ---- another name of a decimal

with_zeros : (d e : Decimal) (zeros count : ℕ) → e.digits ≡ d.digits * 10 ^ zeros → HasAtMost count d → HasAtMost count e
with_zeros d e zeros count is h =
    (h.0, h.1 + zeros, h.2, is ∙ (ap (λ n. n * 10 ^ zeros) h.3 ∙ (mul_assoc h.0 (10 ^ h.1) (10 ^ zeros) ∙ ap (λ n. h.0 * n) (sym (pow-add 10 h.1 zeros)))))

shortest_same : (negative : Bool) (d e : Decimal) (zeros : ℕ) → AreSameDecimal d e → e.digits ≡ d.digits * 10 ^ zeros → IsShortest negative d → IsShortest negative e
shortest_same negative d e zeros same is h other count read few = with_zeros d e zeros count is (h other count (read ∙ sym (read_same negative d e same)) few)

closest_same : (negative : Bool) (d e : Decimal) (zeros : ℕ) → AreSameDecimal d e → e.digits ≡ d.digits * 10 ^ zeros → IsClosest negative d → IsClosest negative e
closest_same negative d e zeros same is h other read no_more =
    let x : nearest_double negative d ≡ nearest_double negative e = read_same negative d e same in
    let fine = h other (read ∙ sym x) (λ count k. no_more count (with_zeros d e zeros count is k)) in
    subst (λ y. Rattle.mysql_float_literal.specs.DoubleDigits.IsNoFarther y e other × (Rattle.mysql_float_literal.specs.DoubleDigits.IsNoFarther y other e → AreSameDecimal e other ⊎ Rattle.mysql_float_literal.specs.DoubleDigits.IsEvenBeside e other)) x (
      near_same _ e d other (sym same) fine.0,
      λ back. elim (fine.1 (near_same_too _ e d other (sym same) back)) [
        | inl k ↦ inl (same_through d e other same k)
        | inr k ↦ inr (k.0, k.1, k.2, k.3, same_through d e _ same k.4, k.5)
      ],
    )

-- ---- zero

pub zero_read : IsReadAs 0 0 0
zero_read = sym (nearest_of_zero binary64 (0 * 10 ^ 0) (10 ^ 342) (ten_pos 342) (omega arith)).0

pub zero_shortest : IsShortest false (with_power 0 0)
zero_shortest other count read few = (0, 0, ten_pos count, refl)

pub zero_closest : IsClosest false (with_power 0 0)
zero_closest other read no_more =
    let few = no_more 0 (0, 0, omega arith, refl) in
    let first : few.0 ≡ 0 = omega (arith, few.2) in
    let none : other.digits ≡ 0 = few.3 ∙ (ap (λ n. n * 10 ^ few.1) first ∙ omega arith) in
    let left : 0 * 10 ^ 0 * 10 ^ other.places ≡ 0 = zero_times (10 ^ 0) (10 ^ other.places) in
    let right : other.digits * 10 ^ other.tens * 10 ^ 342 ≡ 0 = ap (λ n. n * 10 ^ other.tens * 10 ^ 342) none ∙ zero_times (10 ^ other.tens) (10 ^ 342) in
    fine_same _ (with_power 0 0) other (left ∙ sym right)
  where
    zero_times : (a b : ℕ) → 0 * a * b ≡ 0
    zero_times a b = ap (λ n. n * b) (Rattle.std.proofs.Common.zero-mul a) ∙ Rattle.std.proofs.Common.zero-mul b

-- ---- the text

-- the facts about a text, by the double that it reads as
pub record IsWritten (text : List ℕ) (x : Float) : Type 0 where
  pub exact : parse_float binary64 text ≡ Some x
  pub shape : IsDouble text
  pub spelled : IsSpelledDouble text
  pub shortest : HasShortestDigits text
  pub closest : HasClosestDigits text

pub written : (negative : Bool) (size : ℕ) (x : Float) (l : Layout) → IsSignAndSize binary64 x negative size → IsLayoutOfDouble size l → IsWritten (sign_text negative ++ text_of (layout_parts l)) x
written negative size x l sign h =
    let text : List ℕ = sign_text negative ++ text_of (layout_parts l) in
    let spelling : DoubleSpelling text = record { negative = negative; parts = layout_parts l; spelled = layout_spelled l h.spelled; text_is = refl } in
    let r : Reading text negative (layout_parts l) = reading text spelling in
    let number : decimal_of (layout_parts l) ≡ layout_decimal l = layout_number l h.spelled in
    let d : Decimal = with_power h.power h.digits in
    let value : nearest_double negative (decimal_of (layout_parts l)) ≡ x =
    ap (nearest_double negative) number ∙ (sym (read_same negative d (layout_decimal l) h.value.same) ∙ signed binary64 x negative size _ _ sign (sym h.read)) in
    let short : IsShortest negative (layout_decimal l) = shortest_same negative d (layout_decimal l) h.value.zeros h.value.same h.value.digits_are (shortest_signed negative d h.shortest) in
    let close : IsClosest negative (layout_decimal l) = closest_same negative d (layout_decimal l) h.value.zeros h.value.same h.value.digits_are (closest_signed negative d h.closest) in
    record {
      exact = r.parsed ∙ ap (λ y. Some y) value;
      shape = layout_shape negative l h.spelled;
      spelled = ∣ spelling ∣₁;
      shortest = ∣ subst (λ n. IsShortest n (number_in text)) (sym r.minus) (subst (λ p. IsShortest negative (decimal_of p)) (sym r.parts) (subst (IsShortest negative) (sym number) short)) ∣₁;
      closest = ∣ subst (λ n. IsClosest n (number_in text)) (sym r.minus) (subst (λ p. IsClosest negative (decimal_of p)) (sym r.parts) (subst (IsClosest negative) (sym number) close)) ∣₁;
    }
