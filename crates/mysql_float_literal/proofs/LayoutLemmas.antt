-- The text of a decimal, by numbers.
use Rattle.std.proofs.Common.{◌≡◌, ℕ, ◌+◌, ◌-◌, ◌*◌, ◌/◌, ◌%◌, ◌^◌, ◌<◌, ◌≤◌, Bool, true, false, cond, inl, inr, length, refl, sym, ap, ◌∙◌, subst, arith, pow-add, mul_assoc, mul-le-mul_right, mul-lt-mul_of_pos_right, mod-lt, div-add-mod', le-div_iff_mul-le, div-lt_iff_lt-mul}
use Rattle.std.specs.Fmt.{decimal}
use Rattle.std.proofs.lemmas.Fmt.{decimal_digit}
use Rattle.fast_float.proofs.Extremes.{tens_eq}
use Rattle.mysql_sql_text.proofs.PaddedLemmas.{length-decimal-power}
use Rattle.mysql_float_literal.specs.declared.write.Layout.{Layout}
use Rattle.mysql_float_literal.specs.WrittenParts.{IsTight, IsFarExponent, IsSpelledLayout, IsLayoutOf}
use Rattle.mysql_float_literal.proofs.DigitLemmas.{order, ten_pos, tens_grow}
use Rattle.mysql_float_literal.proofs.ClosestLemmas.{digit_count}

-- ---- tight digits

-- a number's own digits are tight
pub decimal_tight : (n : ℕ) → n < 10 ^ 18 → IsTight (length (decimal n)) n
decimal_tight n small =
    elim (order 0 n) [
      | inl some ↦
          let count = digit_count n 18 some small in
          let long : length (decimal n) ≡ count.0 + 1 = length-decimal-power count.0 n count.1 (omega (arith, count.2, pow-add 10 count.0 1)) (omega (arith, small)) in
          let less : count.0 + 1 - 1 ≡ count.0 = omega arith in
          subst (λ w. IsTight w n) (sym long) (omega arith, count.2, inr (omega (arith, ap (λ k. 10 ^ k) less, count.1)))
      | inr none ↦
          let zero : n ≡ 0 = omega arith in
          let long : length (decimal n) ≡ 1 = ap length (decimal_digit n (omega arith)) in
          subst (λ w. IsTight w n) (sym long) (omega arith, omega arith, inl refl)
    ]

large_tight : (count digits : ℕ) → IsTight count digits → 0 < digits → 10 ^ (count - 1) ≤ digits
large_tight count digits h some =
    elim h.2 [
      | inl one ↦ let none : count - 1 ≡ 0 = omega arith in omega (arith, ap (λ k. 10 ^ k) none, some)
      | inr large ↦ large
    ]

tight_one : IsTight 1 0
tight_one = (omega arith, omega arith, inl refl)

-- behind the multiple of a power of ten the last digit is the same
last_digit : (digits unit k : ℕ) → unit ≡ 10 ^ k → 0 < k → digits % unit % 10 ≡ digits % 10
last_digit digits unit k e some =
    let up : k ≡ k - 1 + 1 = omega arith in
    let ten : unit ≡ 10 ^ (k - 1) * 10 = e ∙ (ap (λ n. 10 ^ n) up ∙ pow-add 10 (k - 1) 1) in
    let split : digits / unit * unit + digits % unit ≡ digits = div-add-mod' digits unit in
    let tens : digits / unit * unit ≡ digits / unit * 10 ^ (k - 1) * 10 = ap (λ n. digits / unit * n) ten ∙ sym (mul_assoc (digits / unit) (10 ^ (k - 1)) 10) in
    omega (arith, split, tens)

-- ---- a whole number

whole_value : (power digits unit count : ℕ) → unit ≡ 10 ^ (power - 342) → IsTight count digits → 0 < digits → IsTight (count + (power - 342)) (digits * unit)
whole_value power digits unit count e h some =
    let tens : ℕ = power - 342 in
    let all : 10 ^ (count + tens) ≡ 10 ^ count * 10 ^ tens = pow-add 10 count tens in
    let long : count + tens - 1 ≡ count - 1 + tens = omega (arith, h.0) in
    let less : 10 ^ (count + tens - 1) ≡ 10 ^ (count - 1) * 10 ^ tens = ap (λ k. 10 ^ k) long ∙ pow-add 10 (count - 1) tens in
    let is : digits * unit ≡ digits * 10 ^ tens = ap (λ n. digits * n) e in
    (omega (arith, h.0), omega (arith, is, all, mul-lt-mul_of_pos_right h.1 (ten_pos tens)), inr (omega (arith, is, less, mul-le-mul_right (10 ^ tens) (large_tight count digits h some))))

module _ (power digits unit count : ℕ) (e : unit ≡ 10 ^ (power - 342)) (h : IsTight count digits) (some : 0 < digits) (large : 342 ≤ power) (small : power + count ≤ 358) where
  abbrev whole_l : Layout
  whole_l = record { whole = digits * unit; whole_width = count + (power - 342); fraction = 0; fraction_width = 1; exponent_negative = false; exponent = 0; exponent_width = 1 }

  pub whole_small : digits * unit < 10 ^ 16
  whole_small = omega (arith, (whole_value power digits unit count e h some).1, tens_grow (count + (power - 342)) 16 (omega arith))

  pub whole_spelled : IsSpelledLayout whole_l
  whole_spelled = record {
    whole_fits = whole_value power digits unit count e h some;
    fraction_fits = omega arith;
    exponent_fits = tight_one;
    near_or_far = inl (record { exponent_is = (refl, refl, refl); whole_is = omega arith; fraction_is = (omega arith, inl (refl, refl)); few_zeros = λ _. inl (refl, refl) });
    room = omega arith;
  }

  pub whole_of : IsLayoutOf power digits whole_l
  whole_of =
      let tens : ℕ = power - 342 in
      let none : 342 - power ≡ 0 = omega arith in
      let value : digits * unit * 10 ^ 1 + 0 ≡ digits * 10 ^ (tens + 1) = (ap (λ n. digits * n * 10 ^ 1 + 0) e ∙ omega (arith, mul_assoc digits (10 ^ tens) (10 ^ 1), ap (λ n. digits * n) (pow-add 10 tens 1))) in
      record {
        same = sym (ap (λ n. n * 10 ^ 0 * 10 ^ (342 - power)) value ∙ (ap (λ k. digits * 10 ^ (tens + 1) * 10 ^ 0 * 10 ^ k) none ∙ omega (arith, mul_assoc digits (10 ^ tens) (10 ^ 1), ap (λ n. digits * n) (pow-add 10 tens 1))));
        zeros = tens + 1;
        digits_are = value;
      }

-- ---- digits on both sides of the point

module _ (power digits unit count : ℕ) (e : unit ≡ 10 ^ (342 - power)) (h : IsTight count digits) (last : 0 < digits % 10) (few : count ≤ 18) (below : power < 342) (above : 342 < power + count) (small : power + count ≤ 358) where
  abbrev places : ℕ
  places = 342 - power

  abbrev pointed_l : Layout
  pointed_l = record { whole = digits / unit; whole_width = count - places; fraction = digits % unit; fraction_width = places; exponent_negative = false; exponent = 0; exponent_width = 1 }

  unit_pos : 0 < unit
  unit_pos = omega (arith, e, ten_pos places)

  digits_pos : 0 < digits
  digits_pos = omega (arith, last)

  whole_least : 10 ^ (count - places - 1) ≤ digits / unit
  whole_least =
      let sum : count - places - 1 + places ≡ count - 1 = omega arith in
      let product : 10 ^ (count - places - 1) * unit ≡ 10 ^ (count - 1) = ap (λ n. 10 ^ (count - places - 1) * n) e ∙ (sym (pow-add 10 (count - places - 1) places) ∙ ap (λ k. 10 ^ k) sum) in
      (le-div_iff_mul-le unit_pos).1 (omega (arith, product, large_tight count digits h digits_pos))

  whole_most : digits / unit < 10 ^ (count - places)
  whole_most =
      let sum : count - places + places ≡ count = omega arith in
      let product : 10 ^ (count - places) * unit ≡ 10 ^ count = ap (λ n. 10 ^ (count - places) * n) e ∙ (sym (pow-add 10 (count - places) places) ∙ ap (λ k. 10 ^ k) sum) in
      (div-lt_iff_lt-mul unit_pos).1 (omega (arith, product, h.1))

  pub pointed_spelled : IsSpelledLayout pointed_l
  pointed_spelled = record {
    whole_fits = (omega arith, whole_most, inr whole_least);
    fraction_fits = omega (arith, e, mod-lt digits unit_pos);
    exponent_fits = tight_one;
    near_or_far = inl (record {
      exponent_is = (refl, refl, refl);
      whole_is = omega arith;
      fraction_is = (omega arith, inr (omega (arith, last_digit digits unit places e (omega arith), last)));
      few_zeros = λ none. absurd (omega (arith, none, whole_least, ten_pos (count - places - 1)));
    });
    room = omega arith;
  }

  pub pointed_of : IsLayoutOf power digits pointed_l
  pointed_of =
      let none : power - 342 ≡ 0 = omega arith in
      let all : places + 0 ≡ places = omega arith in
      let value : digits / unit * 10 ^ places + digits % unit ≡ digits = ap (λ n. digits / unit * n + digits % unit) (sym e) ∙ div-add-mod' digits unit in
      record {
        same = ap (λ k. digits * 10 ^ k * 10 ^ (places + 0)) none ∙ (ap (λ n. n * 10 ^ 0 * 10 ^ (places + 0)) (sym value) ∙ ap (λ k. (digits / unit * 10 ^ places + digits % unit) * 10 ^ 0 * 10 ^ k) all);
        zeros = 0;
        digits_are = value ∙ omega arith;
      }

-- ---- a number below 1

module _ (power digits count : ℕ) (h : IsTight count digits) (last : 0 < digits % 10) (few : count ≤ 18) (least : 338 ≤ power + count) (small : power + count ≤ 342) where
  abbrev small_l : Layout
  small_l = record { whole = 0; whole_width = 1; fraction = digits; fraction_width = 342 - power; exponent_negative = false; exponent = 0; exponent_width = 1 }

  pub small_spelled : IsSpelledLayout small_l
  small_spelled =
      let some : 0 < digits = omega (arith, last) in
      record {
        whole_fits = tight_one;
        fraction_fits = omega (arith, h.1, tens_grow count (342 - power) (omega arith));
        exponent_fits = tight_one;
        near_or_far = inl (record {
          exponent_is = (refl, refl, refl);
          whole_is = omega arith;
          fraction_is = (omega (arith, h.0), inr last);
          few_zeros = λ _. inr (omega (arith, large_tight count digits h some, tens_grow (342 - power - 5) (count - 1) (omega arith)));
        });
        room = omega arith;
      }

  pub small_of : IsLayoutOf power digits small_l
  small_of =
      let places : ℕ = 342 - power in
      let none : power - 342 ≡ 0 = omega (arith, h.0) in
      let all : places + 0 ≡ places = omega arith in
      let value : 0 * 10 ^ places + digits ≡ digits = omega arith in
      record {
        same = ap (λ k. digits * 10 ^ k * 10 ^ (places + 0)) none ∙ (ap (λ n. n * 10 ^ 0 * 10 ^ (places + 0)) (sym value) ∙ ap (λ k. (0 * 10 ^ places + digits) * 10 ^ 0 * 10 ^ k) all);
        zeros = 0;
        digits_are = value ∙ omega arith;
      }

-- ---- a number with another exponent

module _ (power digits unit count : ℕ) (negative : Bool) (exponent width : ℕ) (e : unit ≡ 10 ^ (count - 1)) (h : IsTight count digits) (last : 0 < digits % 10) (few : count ≤ 18)
    (far : IsFarExponent (power + count) negative exponent) (tight : IsTight width exponent) (narrow : width ≤ 3) where
  abbrev far_l : Layout
  far_l = record { whole = digits / unit; whole_width = 1; fraction = digits % unit; fraction_width = count - 1; exponent_negative = negative; exponent = exponent; exponent_width = width }

  one_unit : 0 < unit
  one_unit = omega (arith, e, ten_pos (count - 1))

  some_digits : 0 < digits
  some_digits = omega (arith, last)

  lead_least : 1 ≤ digits / unit
  lead_least = (le-div_iff_mul-le one_unit).1 (omega (arith, e, large_tight count digits h some_digits))

  lead_most : digits / unit < 10 ^ 1
  lead_most =
      let up : count ≡ 1 + (count - 1) = omega (arith, h.0) in
      let product : 10 ^ 1 * unit ≡ 10 ^ count = ap (λ n. 10 ^ 1 * n) e ∙ (sym (pow-add 10 1 (count - 1)) ∙ ap (λ k. 10 ^ k) (sym up)) in
      (div-lt_iff_lt-mul one_unit).1 (omega (arith, product, h.1))

  pub far_spelled : IsSpelledLayout far_l
  far_spelled = record {
    whole_fits = (omega arith, lead_most, inl refl);
    fraction_fits = omega (arith, e, mod-lt digits one_unit);
    exponent_fits = tight;
    near_or_far = inr (record {
      whole_is = (refl, lead_least);
      fraction_is = λ some. omega (arith, last_digit digits unit (count - 1) e some, last);
      exponent_is = least_exponent negative far;
    });
    room = fits negative;
  }
    where
      least_exponent : (b : Bool) → IsFarExponent (power + count) b exponent → cond b 6 16 ≤ exponent
      least_exponent true f = f.1
      least_exponent false f = f.1

      fits : (b : Bool) → 1 + (count - 1) + width + cond b 1 0 ≤ 24
      fits true = omega (arith, h.0)
      fits false = omega (arith, h.0)

  pub far_of : IsLayoutOf power digits far_l
  far_of =
      let value : digits / unit * 10 ^ (count - 1) + digits % unit ≡ digits = ap (λ n. digits / unit * n + digits % unit) (sym e) ∙ div-add-mod' digits unit in
      record {
        same = tens_eq digits (power - 342) (count - 1 + cond negative exponent 0) (cond negative 0 exponent) (342 - power) (same_tens negative far) ∙ ap (λ n. n * 10 ^ cond negative 0 exponent * 10 ^ (342 - power)) (sym value);
        zeros = 0;
        digits_are = value ∙ omega arith;
      }
    where
      same_tens : (b : Bool) → IsFarExponent (power + count) b exponent → power - 342 + (count - 1 + cond b exponent 0) ≡ cond b 0 exponent + (342 - power)
      same_tens true f = omega (arith, h.0, f.0, f.1)
      same_tens false f = omega (arith, h.0, f.0, f.1)

-- ---- zero

pub zero_spelled : IsSpelledLayout (record { whole = 0; whole_width = 1; fraction = 0; fraction_width = 1; exponent_negative = false; exponent = 0; exponent_width = 1 })
zero_spelled = record {
  whole_fits = tight_one;
  fraction_fits = omega arith;
  exponent_fits = tight_one;
  near_or_far = inl (record { exponent_is = (refl, refl, refl); whole_is = omega arith; fraction_is = (omega arith, inl (refl, refl)); few_zeros = λ _. inl (refl, refl) });
  room = omega arith;
}

pub zero_of : IsLayoutOf 0 0 (record { whole = 0; whole_width = 1; fraction = 0; fraction_width = 1; exponent_negative = false; exponent = 0; exponent_width = 1 })
zero_of = record { same = omega arith; zeros = 0; digits_are = omega arith }
