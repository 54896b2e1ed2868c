-- A decimal number has one spelling.
use Rattle.std.proofs.Common.{◌≡◌, ℕ, ◌+◌, ◌-◌, ◌*◌, ◌^◌, ◌<◌, ◌≤◌, ◌++◌, ◌⊎◌, Bool, true, false, cond, List, [], ◌∷◌, length, get_or, inl, inr, refl, sym, ap, ◌∙◌, subst, arith, true≢false, pow-add, pow-suc, mul_assoc, mul_comm, mul_right_comm, zero-mul, add-mul, mul-le-mul_right, mul-lt-mul_of_pos_right, mul-one}
use Rattle.std.proofs.lemmas.Int.Digits.{digits_value-lt}
use native.Mathlib.Nat.{eq_of_mul-eq-mul_right}
use Rattle.std.specs.Fmt.{sign_text}
use Rattle.std.specs.Float.Numeral.{Parts, numeral_digits, tens_up, tens_down, exponent_text, text_of}
use Rattle.std.specs.Str.Parse.{digits_value, AllDigits}
use Rattle.fast_float.proofs.DigitsLemmas.{digits_value-append}
use Rattle.mysql_float_literal.specs.DoubleSpelling.{HasNoZeroInFront, IsAboveZeroAt, EndsAboveZero, IsSpelledNear, IsSpelledFar, IsSpelled, DoubleSpelling, AreSameNumber}
use Rattle.mysql_float_literal.proofs.DigitLemmas.{order, ten_pos, tens_grow, digit_range, cut_same, same_digits, same_natural, large_by, large_at_first, no_multiple}

-- ---- powers of ten

-- a number from one power of ten up to the next, times another power
record IsAt (n low : ℕ) : Type 0 where
  from : 10 ^ low ≤ n
  below : n < 10 ^ (low + 1)

moved : (n low k : ℕ) → IsAt n low → IsAt (n * 10 ^ k) (low + k)
moved n low k h = record {
  from = omega (arith, mul-le-mul_right (10 ^ k) h.from, pow-add 10 low k);
  below =
      let e : low + k + 1 ≡ low + 1 + k = omega arith in
      omega (arith, mul-lt-mul_of_pos_right h.below (ten_pos k), pow-add 10 (low + 1) k, ap (λ x. 10 ^ x) e);
}

not_above : (n low high : ℕ) → n < 10 ^ (low + 1) → 10 ^ high ≤ n → low < high → ⊥
not_above n low high b f l = omega (arith, b, f, tens_grow (low + 1) high (omega (arith, l)))

same_low : (m n low high : ℕ) → IsAt m low → IsAt n high → m ≡ n → low ≡ high
same_low m n low high h k e =
    elim (order low high) [
      | inl l ↦ absurd (not_above m low high h.below (omega (arith, e, k.from)) l)
      | inr g ↦ elim (order high low) [
        | inl l ↦ absurd (not_above n high low k.below (omega (arith, e, h.from)) l)
        | inr l ↦ omega (arith, g, l)
      ]
    ]

-- ---- as many digits after the point

-- digits after the point: at least so many, and if more, the last is no zero
record IsCut (least : ℕ) (fraction : List ℕ) : Type 0 where
  some : least ≤ length fraction
  trimmed : least < length fraction → EndsAboveZero fraction

module _ (least : ℕ) (p q : Parts) (ph : AllDigits 10 p.fraction) (qh : AllDigits 10 q.fraction) where
  abbrev f : ℕ
  f = length p.fraction

  abbrev g : ℕ
  g = length q.fraction

  not_fewer : IsCut least p.fraction → IsCut least q.fraction → numeral_digits p * 10 ^ g ≡ numeral_digits q * 10 ^ f → f < g → ⊥
  not_fewer cp cq e l =
      let k : ℕ = g - f - 1 in
      let cut : g ≡ k + 1 + f = omega (arith, l) in
      let tens : 10 ^ g ≡ 10 ^ (k + 1) * 10 ^ f = ap (λ n. 10 ^ n) cut ∙ pow-add 10 (k + 1) f in
      let both : numeral_digits p * 10 ^ (k + 1) * 10 ^ f ≡ numeral_digits q * 10 ^ f =
      mul_assoc (numeral_digits p) (10 ^ (k + 1)) (10 ^ f) ∙ (ap (λ n. numeral_digits p * n) (sym tens) ∙ e) in
      let same : numeral_digits p * 10 ^ (k + 1) ≡ numeral_digits q = eq_of_mul-eq-mul_right (10 ^ f) (ten_pos f) _ _ both in
      let ten : 10 ^ (k + 1) ≡ 10 ^ k * 10 = pow-add 10 k 1 in
      let multiple : numeral_digits q ≡ numeral_digits p * 10 ^ k * 10 =
      sym same ∙ (ap (λ n. numeral_digits p * n) ten ∙ sym (mul_assoc (numeral_digits p) (10 ^ k) 10)) in
      no_multiple q.whole q.fraction (numeral_digits p * 10 ^ k) qh (cq.trimmed (omega (arith, cp.some, l))) multiple

same_places : (least : ℕ) (p q : Parts) → AllDigits 10 p.fraction → AllDigits 10 q.fraction → IsCut least p.fraction → IsCut least q.fraction →
    numeral_digits p * 10 ^ length q.fraction ≡ numeral_digits q * 10 ^ length p.fraction → length p.fraction ≡ length q.fraction
same_places least p q ph qh cp cq e =
    elim (order (length p.fraction) (length q.fraction)) [
      | inl l ↦ absurd (not_fewer least p q ph qh cp cq e l)
      | inr g ↦ elim (order (length q.fraction) (length p.fraction)) [
        | inl l ↦ absurd (not_fewer least q p qh ph cq cp (sym e) l)
        | inr l ↦ omega (arith, g, l)
      ]
    ]

-- the same digits before and after the point
record AreSameDigits (p q : Parts) : Type 0 where
  whole : p.whole ≡ q.whole
  fraction : p.fraction ≡ q.fraction

same_both : (least : ℕ) (p q : Parts) → AllDigits 10 p.whole → AllDigits 10 q.whole → AllDigits 10 p.fraction → AllDigits 10 q.fraction →
    HasNoZeroInFront p.whole → HasNoZeroInFront q.whole → IsCut least p.fraction → IsCut least q.fraction →
    numeral_digits p * 10 ^ length q.fraction ≡ numeral_digits q * 10 ^ length p.fraction → AreSameDigits p q
same_both least p q pw qw pf qf pn qn cp cq e =
    let long : length p.fraction ≡ length q.fraction = same_places least p q pf qf cp cq e in
    let digits : numeral_digits p ≡ numeral_digits q =
    eq_of_mul-eq-mul_right (10 ^ length q.fraction) (ten_pos (length q.fraction)) _ _ (e ∙ ap (λ n. numeral_digits q * 10 ^ n) long) in
    let both : digits_value 10 p.whole * 10 ^ length p.fraction + digits_value 10 p.fraction ≡ digits_value 10 q.whole * 10 ^ length p.fraction + digits_value 10 q.fraction =
    sym (digits_value-append p.whole p.fraction) ∙ (digits ∙ (digits_value-append q.whole q.fraction ∙ ap (λ n. digits_value 10 q.whole * 10 ^ n + digits_value 10 q.fraction) (sym long))) in
    let below : digits_value 10 q.fraction < 10 ^ length p.fraction = subst (λ n. digits_value 10 q.fraction < 10 ^ n) (sym long) (digits_value-lt 10 q.fraction qf) in
    let cut = cut_same (10 ^ length p.fraction) (digits_value 10 p.whole) (digits_value 10 p.fraction) (digits_value 10 q.whole) (digits_value 10 q.fraction) (digits_value-lt 10 p.fraction pf) below both in
    record { whole = same_natural p.whole q.whole pw qw pn qn cut.0; fraction = same_digits p.fraction q.fraction pf qf long cut.1 }

-- the text of the parts, by what it is made of
same_text : (p q : Parts) → AreSameDigits p q → p.point ≡ q.point → p.exponent_negative ≡ q.exponent_negative → p.exponent ≡ q.exponent → text_of p ≡ text_of q
same_text p q d point sign exponent = λ i. d.whole i ++ (cond (point i) (46 ∷ d.fraction i) [] ++ exponent_text (sign i) (exponent i))

-- ---- near 1

near_cut : (p : Parts) → IsSpelledNear p → IsCut 1 p.fraction
near_cut p n =
    elim n.fraction_is.1 [
      | inl e ↦ let one : length p.fraction ≡ 1 = ap length e in record { some = omega (arith, one); trimmed = λ l. absurd (omega (arith, one, l)) }
      | inr above ↦ record { some = some p.fraction above; trimmed = λ l. above }
    ]
  where
    some : (ds : List ℕ) → EndsAboveZero ds → 1 ≤ length ds
    some [] above = absurd (omega (arith, above))
    some (d ∷ ds) above = omega arith

zero_digits : (exponent : List ℕ) → exponent ≡ 48 ∷ [] → digits_value 10 exponent ≡ 0
zero_digits exponent e = rw e refl

near_tens : (p : Parts) → IsSpelledNear p → (tens_up p ≡ 0) × (tens_down p ≡ length p.fraction)
near_tens p n =
    let none : digits_value 10 p.exponent ≡ 0 = zero_digits p.exponent n.exponent_is.0 in
    (rw n.exponent_is.1 none, rw n.exponent_is.1 (omega arith))

near_same : (p q : Parts) → IsSpelled p → IsSpelled q → IsSpelledNear p → IsSpelledNear q → AreSameNumber p q → text_of p ≡ text_of q
near_same p q s t n m e =
    let a = near_tens p n in
    let b = near_tens q m in
    let flat : numeral_digits p * 10 ^ 0 * 10 ^ length q.fraction ≡ numeral_digits q * 10 ^ 0 * 10 ^ length p.fraction =
    (λ i. numeral_digits p * 10 ^ (sym a.0 i) * 10 ^ (sym b.1 i)) ∙ (e ∙ (λ i. numeral_digits q * 10 ^ (b.0 i) * 10 ^ (a.1 i))) in
    let equal : numeral_digits p * 10 ^ length q.fraction ≡ numeral_digits q * 10 ^ length p.fraction =
    ap (λ x. x * 10 ^ length q.fraction) (sym (mul-one (numeral_digits p))) ∙ (flat ∙ ap (λ x. x * 10 ^ length p.fraction) (mul-one (numeral_digits q))) in
    let digits = same_both 1 p q s.well_formed.whole_digits t.well_formed.whole_digits s.well_formed.fraction_digits t.well_formed.fraction_digits
    n.whole_is.0 m.whole_is.0 (near_cut p n) (near_cut q m) equal in
    same_text p q digits (n.fraction_is.0 ∙ sym m.fraction_is.0) (n.exponent_is.1 ∙ sym m.exponent_is.1) (n.exponent_is.0 ∙ sym m.exponent_is.0)

-- ---- far from 1

far_cut : (p : Parts) → IsSpelled p → IsSpelledFar p → IsCut 0 p.fraction
far_cut p s n = record { some = omega arith; trimmed = λ l. go p.point refl l }
  where
    go : (point : Bool) → p.point ≡ point → 0 < length p.fraction → EndsAboveZero p.fraction
    go true e l = n.fraction_is e
    go false e l = absurd (let none : length p.fraction ≡ 0 = ap length (s.well_formed.no_point e) in omega (arith, none, l))

far_front : (p : Parts) → IsSpelledFar p → HasNoZeroInFront p.whole
far_front p n = (omega (arith, n.whole_is.0), λ e. n.whole_is.0)

-- the point stands if digits follow it
far_point : (p : Parts) → IsSpelled p → IsSpelledFar p → (point : Bool) → p.point ≡ point → (point ≡ true → 0 < length p.fraction) × (point ≡ false → length p.fraction ≡ 0)
far_point p s n true e = (λ h. some p.fraction (n.fraction_is e), λ h. absurd (true≢false h))
  where
    some : (ds : List ℕ) → EndsAboveZero ds → 0 < length ds
    some [] above = absurd (omega (arith, above))
    some (d ∷ ds) above = omega arith
far_point p s n false e = (λ h. absurd (true≢false (sym h)), λ h. ap length (s.well_formed.no_point e))

same_point : (p q : Parts) → IsSpelled p → IsSpelled q → IsSpelledFar p → IsSpelledFar q → length p.fraction ≡ length q.fraction → p.point ≡ q.point
same_point p q s t n m long = go p.point q.point refl refl
  where
    go : (a b : Bool) → p.point ≡ a → q.point ≡ b → a ≡ b
    go true true x y = refl
    go false false x y = refl
    go true false x y = absurd (omega (arith, long, (far_point p s n true x).0 refl, (far_point q t m false y).1 refl))
    go false true x y = absurd (omega (arith, long, (far_point p s n false x).1 refl, (far_point q t m true y).0 refl))

far_at : (p : Parts) → IsSpelled p → IsSpelledFar p → IsAt (numeral_digits p) (length p.fraction)
far_at p s n = go p.whole s.well_formed.whole_digits n.whole_is.0 n.whole_is.1
  where
    go : (whole : List ℕ) → AllDigits 10 whole → length whole ≡ 1 → IsAboveZeroAt whole 0 → IsAt (digits_value 10 (whole ++ p.fraction)) (length p.fraction)
    go whole h one above =
        let cut : digits_value 10 (whole ++ p.fraction) ≡ digits_value 10 whole * 10 ^ length p.fraction + digits_value 10 p.fraction = digits_value-append whole p.fraction in
        let large : 10 ^ (length whole - 1) ≤ digits_value 10 whole = large_at_first whole h (omega (arith, one)) above in
        let none : length whole - 1 ≡ 0 = omega (arith, one) in
        let at_least : 1 ≤ digits_value 10 whole = omega (arith, large, ap (λ n. 10 ^ n) none) in
        let below : digits_value 10 whole < 10 ^ 1 = subst (λ n. digits_value 10 whole < 10 ^ n) one (digits_value-lt 10 whole h) in
        let at_most : digits_value 10 whole ≤ 9 = omega (arith, below) in
        record {
          from = omega (arith, cut, mul-le-mul_right (10 ^ length p.fraction) at_least);
          below = omega (arith, cut, mul-le-mul_right (10 ^ length p.fraction) at_most, digits_value-lt 10 p.fraction s.well_formed.fraction_digits, pow-suc 10 (length p.fraction), pow-add 10 (length p.fraction) 1);
        }

-- the powers by the sign of the exponent
far_tens : (p : Parts) (negative : Bool) → p.exponent_negative ≡ negative →
    (tens_up p ≡ cond negative 0 (digits_value 10 p.exponent)) × (tens_down p ≡ length p.fraction + cond negative (digits_value 10 p.exponent) 0)
far_tens p negative e = (rw e refl, rw e refl)

-- both numbers between powers of ten
far_powers : (p q : Parts) → IsSpelled p → IsSpelled q → IsSpelledFar p → IsSpelledFar q → AreSameNumber p q →
    length p.fraction + tens_up p + tens_down q ≡ length q.fraction + tens_up q + tens_down p
far_powers p q s t n m e =
    same_low _ _ _ _ (moved _ _ (tens_down q) (moved _ _ (tens_up p) (far_at p s n))) (moved _ _ (tens_down p) (moved _ _ (tens_up q) (far_at q t m))) e

-- the exponents are the same
far_exponents : (p q : Parts) (a b : Bool) → p.exponent_negative ≡ a → q.exponent_negative ≡ b → IsSpelled p → IsSpelled q → IsSpelledFar p → IsSpelledFar q → AreSameNumber p q →
    (a ≡ b) × (digits_value 10 p.exponent ≡ digits_value 10 q.exponent)
far_exponents p q true true ea eb s t n m e =
    let x = far_tens p true ea in
    let y = far_tens q true eb in
    (refl, omega (arith, far_powers p q s t n m e, x.0, x.1, y.0, y.1))
far_exponents p q false false ea eb s t n m e =
    let x = far_tens p false ea in
    let y = far_tens q false eb in
    (refl, omega (arith, far_powers p q s t n m e, x.0, x.1, y.0, y.1))
far_exponents p q true false ea eb s t n m e =
    let x = far_tens p true ea in
    let y = far_tens q false eb in
    let high : 16 ≤ digits_value 10 q.exponent = rw eb at m.exponent_is.1 in
    absurd (omega (arith, far_powers p q s t n m e, x.0, x.1, y.0, y.1, high))
far_exponents p q false true ea eb s t n m e =
    let x = far_tens p false ea in
    let y = far_tens q true eb in
    let high : 16 ≤ digits_value 10 p.exponent = rw ea at n.exponent_is.1 in
    absurd (omega (arith, far_powers p q s t n m e, x.0, x.1, y.0, y.1, high))

-- of one exponent the digits are left
far_equal : (p q : Parts) (negative : Bool) → p.exponent_negative ≡ negative → q.exponent_negative ≡ negative → digits_value 10 p.exponent ≡ digits_value 10 q.exponent → AreSameNumber p q →
    numeral_digits p * 10 ^ length q.fraction ≡ numeral_digits q * 10 ^ length p.fraction
far_equal p q negative ea eb same e =
    let x = far_tens p negative ea in
    let y = far_tens q negative eb in
    let up : tens_up q ≡ tens_up p = y.0 ∙ (ap (cond negative 0) (sym same) ∙ sym x.0) in
    let k : ℕ = tens_up p + cond negative (digits_value 10 p.exponent) 0 in
    let here : tens_up p + tens_down q ≡ length q.fraction + k = go negative x.0 x.1 y.0 y.1 same in
    let there : tens_up q + tens_down p ≡ length p.fraction + k = omega (arith, up, x.1) in
    let left : numeral_digits p * 10 ^ length q.fraction * 10 ^ k ≡ numeral_digits p * 10 ^ tens_up p * 10 ^ tens_down q =
    joined (numeral_digits p) (length q.fraction) k (tens_up p) (tens_down q) here in
    let right : numeral_digits q * 10 ^ length p.fraction * 10 ^ k ≡ numeral_digits q * 10 ^ tens_up q * 10 ^ tens_down p =
    joined (numeral_digits q) (length p.fraction) k (tens_up q) (tens_down p) there in
    eq_of_mul-eq-mul_right (10 ^ k) (ten_pos k) _ _ (left ∙ (e ∙ sym right))
  where
    joined : (n a b c d : ℕ) → c + d ≡ a + b → n * 10 ^ a * 10 ^ b ≡ n * 10 ^ c * 10 ^ d
    joined n a b c d h =
        mul_assoc n (10 ^ a) (10 ^ b) ∙ (ap (λ x. n * x) (sym (pow-add 10 a b) ∙ (ap (λ x. 10 ^ x) (sym h) ∙ pow-add 10 c d)) ∙ sym (mul_assoc n (10 ^ c) (10 ^ d)))

    go : (negative : Bool) → tens_up p ≡ cond negative 0 (digits_value 10 p.exponent) → tens_down p ≡ length p.fraction + cond negative (digits_value 10 p.exponent) 0 →
        tens_up q ≡ cond negative 0 (digits_value 10 q.exponent) → tens_down q ≡ length q.fraction + cond negative (digits_value 10 q.exponent) 0 →
        digits_value 10 p.exponent ≡ digits_value 10 q.exponent →
        tens_up p + tens_down q ≡ length q.fraction + (tens_up p + cond negative (digits_value 10 p.exponent) 0)
    go true a b c d v = omega (arith, d, v)
    go false a b c d v = omega (arith, d, v)

far_same : (p q : Parts) → IsSpelled p → IsSpelled q → IsSpelledFar p → IsSpelledFar q → AreSameNumber p q → text_of p ≡ text_of q
far_same p q s t n m e =
    let x = far_exponents p q p.exponent_negative q.exponent_negative refl refl s t n m e in
    let equal = far_equal p q p.exponent_negative refl (sym x.0) x.1 e in
    let digits = same_both 0 p q s.well_formed.whole_digits t.well_formed.whole_digits s.well_formed.fraction_digits t.well_formed.fraction_digits
    (far_front p n) (far_front q m) (far_cut p s n) (far_cut q t m) equal in
    same_text p q digits (same_point p q s t n m (ap length digits.fraction)) x.0
    (same_natural p.exponent q.exponent s.well_formed.exponent_digits t.well_formed.exponent_digits n.exponent_is.0 m.exponent_is.0 x.1)

-- ---- one near and one far

-- zero, or at least 10 ^ -5
near_large : (p : Parts) → IsSpelled p → IsSpelledNear p → (numeral_digits p ≡ 0) ⊎ (10 ^ length p.fraction ≤ numeral_digits p * 10 ^ 5)
near_large p s n =
    elim (order 48 (get_or p.whole 0 0)) [
      | inl above ↦
          let large : 10 ^ (length p.whole - 1) ≤ digits_value 10 p.whole = large_at_first p.whole s.well_formed.whole_digits n.whole_is.0.0 above in
          let one : 1 ≤ digits_value 10 p.whole = omega (arith, large, ten_pos (length p.whole - 1)) in
          inr (omega (arith, digits_value-append p.whole p.fraction, mul-le-mul_right (10 ^ length p.fraction) one))
      | inr low ↦ zero_first p.whole p.fraction s.well_formed.whole_digits s.well_formed.fraction_digits n.whole_is.0 low n.few_zeros
    ]
  where
    zero_first : (whole fraction : List ℕ) → AllDigits 10 whole → AllDigits 10 fraction → HasNoZeroInFront whole → get_or whole 0 0 ≤ 48 →
        (get_or whole 0 0 ≡ 48 → (fraction ≡ 48 ∷ []) ⊎ ((zeros : ℕ) × (zeros ≤ 4) × IsAboveZeroAt fraction zeros)) →
        (digits_value 10 (whole ++ fraction) ≡ 0) ⊎ (10 ^ length fraction ≤ digits_value 10 (whole ++ fraction) * 10 ^ 5)
    zero_first [] fraction h k lead low few = absurd (omega (arith, lead.0))
    zero_first (w ∷ ws) fraction h k lead low few = elim (few (is_zero w ws h low)) [
      | inl e ↦ inl (λ i. digits_value 10 (only w ws h low lead i ++ e i))
      | inr z ↦
          let large = large_by fraction z.0 k z.2 in
          let tens : 10 ^ (z.0 + 1) ≤ 10 ^ 5 = tens_grow (z.0 + 1) 5 (omega (arith, z.1)) in
          let value : digits_value 10 (w ∷ ws ++ fraction) ≡ digits_value 10 (w ∷ ws) * 10 ^ length fraction + digits_value 10 fraction = digits_value-append (w ∷ ws) fraction in
          let less : digits_value 10 fraction ≤ digits_value 10 (w ∷ ws ++ fraction) = omega (arith, value) in
          let up : 10 ^ (z.0 + 1) * digits_value 10 fraction ≤ 10 ^ 5 * digits_value 10 fraction = mul-le-mul_right (digits_value 10 fraction) tens in
          inr (omega (arith, large, up, mul-le-mul_right (10 ^ 5) less, mul_comm (10 ^ (z.0 + 1)) (digits_value 10 fraction), mul_comm (10 ^ 5) (digits_value 10 fraction)))
    ]
      where
        is_zero : (w : ℕ) (ws : List ℕ) → AllDigits 10 (w ∷ ws) → w ≤ 48 → w ≡ 48
        is_zero w ws h low = let r = digit_range w h.0 in omega (arith, r.0, low)

        only : (w : ℕ) (ws : List ℕ) → AllDigits 10 (w ∷ ws) → w ≤ 48 → HasNoZeroInFront (w ∷ ws) → w ∷ ws ≡ 48 ∷ []
        only w [] h low lead = ap (λ x. x ∷ []) (is_zero w [] h low)
        only w (x ∷ xs) h low lead = absurd (let one : length (w ∷ x ∷ xs) ≡ 1 = lead.1 (is_zero w (x ∷ xs) h low) in omega (arith, one))

-- below 10 ^ 16
near_small : (p : Parts) → IsSpelled p → IsSpelledNear p → numeral_digits p < 10 ^ (16 + length p.fraction)
near_small p s n =
    let few : digits_value 10 p.whole < 10 ^ 16 = omega (arith, digits_value-lt 10 p.whole s.well_formed.whole_digits, tens_grow (length p.whole) 16 n.whole_is.1) in
    let more : digits_value 10 p.whole + 1 ≤ 10 ^ 16 = omega (arith, few) in
    let step : (digits_value 10 p.whole + 1) * 10 ^ length p.fraction ≤ 10 ^ 16 * 10 ^ length p.fraction = mul-le-mul_right (10 ^ length p.fraction) more in
    let apart : (digits_value 10 p.whole + 1) * 10 ^ length p.fraction ≡ digits_value 10 p.whole * 10 ^ length p.fraction + 1 * 10 ^ length p.fraction = add-mul (digits_value 10 p.whole) 1 (10 ^ length p.fraction) in
    omega (arith, digits_value-append p.whole p.fraction, digits_value-lt 10 p.fraction s.well_formed.fraction_digits, step, apart, pow-add 10 16 (length p.fraction))

less_moved : (n x k : ℕ) → n < 10 ^ x → n * 10 ^ k < 10 ^ (x + k)
less_moved n x k h = omega (arith, mul-lt-mul_of_pos_right h (ten_pos k), pow-add 10 x k)

module _ (p q : Parts) (s : IsSpelled p) (t : IsSpelled q) (n : IsSpelledNear p) (m : IsSpelledFar q) (e : AreSameNumber p q) where
  abbrev up : IsAt (numeral_digits q * 10 ^ tens_up q * 10 ^ tens_down p) (length q.fraction + tens_up q + tens_down p)
  up = moved _ _ (tens_down p) (moved _ _ (tens_up q) (far_at q t m))

  not_large : q.exponent_negative ≡ false → ⊥
  not_large sign =
      let a = near_tens p n in
      let b = far_tens q false sign in
      let high : 16 ≤ digits_value 10 q.exponent = rw sign at m.exponent_is.1 in
      let below : numeral_digits p * 10 ^ tens_up p * 10 ^ tens_down q < 10 ^ (16 + length p.fraction + tens_up p + tens_down q) =
      less_moved _ _ (tens_down q) (less_moved _ _ (tens_up p) (near_small p s n)) in
      let grow : 10 ^ (16 + length p.fraction + tens_up p + tens_down q) ≤ 10 ^ (length q.fraction + tens_up q + tens_down p) =
      tens_grow _ _ (omega (arith, a.0, a.1, b.0, b.1, high)) in
      omega (arith, below, grow, up.from, e)

  not_zero : numeral_digits p ≡ 0 → ⊥
  not_zero none =
      let nothing : numeral_digits p * 10 ^ tens_up p * 10 ^ tens_down q ≡ 0 = ap (λ x. x * 10 ^ tens_up p * 10 ^ tens_down q) none ∙ zero_times (10 ^ tens_up p) (10 ^ tens_down q) in
      omega (arith, nothing, e, up.from, ten_pos (length q.fraction + tens_up q + tens_down p))
    where
      zero_times : (a b : ℕ) → 0 * a * b ≡ 0
      zero_times a b = ap (λ x. x * b) (zero-mul a) ∙ zero-mul b

  not_small : q.exponent_negative ≡ true → 10 ^ length p.fraction ≤ numeral_digits p * 10 ^ 5 → ⊥
  not_small sign large =
      let a = near_tens p n in
      let b = far_tens q true sign in
      let high : 6 ≤ digits_value 10 q.exponent = rw sign at m.exponent_is.1 in
      let left : 10 ^ length p.fraction * 10 ^ tens_up p * 10 ^ tens_down q ≤ numeral_digits p * 10 ^ 5 * 10 ^ tens_up p * 10 ^ tens_down q =
      mul-le-mul_right (10 ^ tens_down q) (mul-le-mul_right (10 ^ tens_up p) large) in
      let tens : 10 ^ (length p.fraction + tens_up p + tens_down q) ≡ 10 ^ length p.fraction * 10 ^ tens_up p * 10 ^ tens_down q =
      pow-add 10 (length p.fraction + tens_up p) (tens_down q) ∙ ap (λ x. x * 10 ^ tens_down q) (pow-add 10 (length p.fraction) (tens_up p)) in
      let swapped : numeral_digits p * 10 ^ 5 * 10 ^ tens_up p * 10 ^ tens_down q ≡ numeral_digits p * 10 ^ tens_up p * 10 ^ tens_down q * 10 ^ 5 =
      out (numeral_digits p) (10 ^ 5) (10 ^ tens_up p) (10 ^ tens_down q) in
      let right : numeral_digits q * 10 ^ tens_up q * 10 ^ tens_down p * 10 ^ 5 < 10 ^ (length q.fraction + tens_up q + tens_down p + 1 + 5) =
      less_moved _ _ 5 up.below in
      let grow : 10 ^ (length q.fraction + tens_up q + tens_down p + 1 + 5) ≤ 10 ^ (length p.fraction + tens_up p + tens_down q) =
      tens_grow _ _ (omega (arith, a.0, a.1, b.0, b.1, high)) in
      let same : numeral_digits p * 10 ^ tens_up p * 10 ^ tens_down q * 10 ^ 5 ≡ numeral_digits q * 10 ^ tens_up q * 10 ^ tens_down p * 10 ^ 5 = ap (λ x. x * 10 ^ 5) e in
      omega (arith, left, tens, swapped, right, grow, same)
    where
      out : (x a b c : ℕ) → x * a * b * c ≡ x * b * c * a
      out x a b c = ap (λ y. y * c) (mul_right_comm x a b) ∙ mul_right_comm (x * b) a c

  pub not_both_ways : ⊥
  not_both_ways = go q.exponent_negative refl
    where
      go : (negative : Bool) → q.exponent_negative ≡ negative → ⊥
      go false sign = not_large sign
      go true sign = elim (near_large p s n) [ inl none ↦ not_zero none | inr large ↦ not_small sign large ]

-- ---- both

pub one_spelling : (p q : Parts) → IsSpelled p → IsSpelled q → AreSameNumber p q → text_of p ≡ text_of q
one_spelling p q s t e =
    elim s.near_or_far [
      | inl n ↦ elim t.near_or_far [
        | inl m ↦ near_same p q s t n m e
        | inr m ↦ absurd (not_both_ways p q s t n m e)
      ]
      | inr n ↦ elim t.near_or_far [
        | inl m ↦ absurd (not_both_ways q p t s m n (sym e))
        | inr m ↦ far_same p q s t n m e
      ]
    ]

pub one_text : (a b : List ℕ) (x : DoubleSpelling a) (y : DoubleSpelling b) → x.negative ≡ y.negative → AreSameNumber x.parts y.parts → a ≡ b
one_text a b x y sign e =
    x.text_is ∙ ((λ i. sign_text (sign i) ++ one_spelling x.parts y.parts x.spelled y.spelled e i) ∙ sym y.text_is)
