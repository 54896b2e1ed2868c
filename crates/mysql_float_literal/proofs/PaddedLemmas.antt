-- Digits of one width, and the text that they are part of.
use Rattle.std.proofs.Common.{◌≡◌, ◌⊎◌, ℕ, zero, suc, ◌+◌, ◌-◌, ◌*◌, ◌/◌, ◌%◌, ◌^◌, ◌<◌, ◌≤◌, ◌++◌, Bool, false, cond, ltb, List, [], ◌∷◌, length, get_or, inl, inr, refl, sym, ap, ◌∙◌, subst, arith, pow-suc, length-append, ltb-true, true≢false, get_or-append-add, append_assoc, take, set}
use lib.Seq.{take-suc-set}
use Rattle.std.proofs.lemmas.Bool.{lt-ltb}
use Rattle.std.specs.Fmt.{sign_text}
use Rattle.std.specs.Float.{binary64}
use Rattle.std.specs.Float.Numeral.{text_of, IsWellFormed}
use Rattle.std.specs.Str.Parse.{digits_value, AllDigits}
use Rattle.fast_float.proofs.DigitsLemmas.{digits_value-append}
use Rattle.fast_float.proofs.Rows.{AllDigits-append}
use Rattle.mysql_sql_text.proofs.PaddedLemmas.{last_digits}
use Rattle.mysql_float_literal.specs.declared.write.Layout.{Layout}
use Rattle.mysql_float_literal.specs.DoubleShape.{IsDouble, double_shape}
use Rattle.mysql_float_literal.specs.DoubleSpelling.{HasNoZeroInFront, IsAboveZeroAt, EndsAboveZero, IsSpelledNear, IsSpelledFar, IsSpelled}
use Rattle.mysql_float_literal.specs.DoubleDigits.{decimal_of}
use Rattle.mysql_float_literal.specs.WrittenParts.{padded, layout_parts, layout_decimal, IsTight, IsNearLayout, IsFarLayout, IsSpelledLayout}
use Rattle.mysql_float_literal.proofs.DigitLemmas.{order, ten_pos, digit_range, value_first}
use Rattle.mysql_float_literal.proofs.DoubleLemmas.{are_digits, sign_shape, fraction_shape}

-- ---- digits of one width

pub padded_length : (width n : ℕ) → length (padded width n) ≡ width
padded_length zero n = refl
padded_length (suc width) n = length-append (padded width (n / 10)) ((48 + n % 10) ∷ []) ∙ omega (arith, padded_length width (n / 10))

-- it is a number after zeros
pub padded_is : (width n : ℕ) → padded width n ≡ last_digits width n
padded_is zero n = refl
padded_is (suc width) n = ap (λ ds. ds ++ (48 + n % 10) ∷ []) (padded_is width (n / 10))

pub padded_one : (n : ℕ) → n < 10 ^ 1 → (48 + n) ∷ [] ≡ padded 1 n
padded_one n h = let e : 48 + n ≡ 48 + n % 10 = omega (arith, h) in ap (λ d. d ∷ []) e

one_digit : (d : ℕ) → d < 10 → AllDigits 10 ((48 + d) ∷ []) × (digits_value 10 ((48 + d) ∷ []) ≡ d)
one_digit d h = let r = Rattle.fast_float.proofs.DigitsLemmas.is_digit (48 + d) (omega arith) (omega arith) in ((omega (arith, r.1, h), tt), omega (arith, r.1))

pub padded_digits : (width n : ℕ) → AllDigits 10 (padded width n)
padded_digits zero n = tt
padded_digits (suc width) n = AllDigits-append (padded width (n / 10)) ((48 + n % 10) ∷ []) (padded_digits width (n / 10)) (one_digit (n % 10) (omega arith)).0

pub padded_value : (width n : ℕ) → n < 10 ^ width → digits_value 10 (padded width n) ≡ n
padded_value zero n h = omega (arith, h)
padded_value (suc width) n h =
    let step : 10 ^ suc width ≡ 10 ^ width * 10 = pow-suc 10 width in
    let few : n / 10 < 10 ^ width = omega (arith, step, h) in
    digits_value-append (padded width (n / 10)) ((48 + n % 10) ∷ []) ∙ omega (arith, padded_value width (n / 10) few, (one_digit (n % 10) (omega arith)).1)

-- the last digit
padded_last : (width n : ℕ) → 0 < width → get_or (padded width n) (width - 1) 0 ≡ 48 + n % 10
padded_last zero n h = absurd (omega (arith, h))
padded_last (suc width) n h =
    let e : suc width - 1 ≡ length (padded width (n / 10)) + 0 = omega (arith, padded_length width (n / 10)) in
    ap (λ i. get_or (padded (suc width) n) i 0) e ∙ get_or-append-add (padded width (n / 10)) ((48 + n % 10) ∷ []) 0 0

pub ends_above : (width n : ℕ) → 0 < width → 0 < n % 10 → EndsAboveZero (padded width n)
ends_above width n some last =
    let e : length (padded width n) - 1 ≡ width - 1 = omega (arith, padded_length width n) in
    subst (λ i. 48 < get_or (padded width n) i 0) (sym e) (omega (arith, padded_last width n some, last))

-- the first digit above zero, by the size of the number
first_above : (ds : List ℕ) → AllDigits 10 ds → 0 < length ds → 10 ^ (length ds - 1) ≤ digits_value 10 ds → IsAboveZeroAt ds 0
first_above [] h some large = absurd (omega (arith, some))
first_above (d ∷ ds) h some large =
    elim (order 48 d) [
      | inl l ↦ l
      | inr g ↦
          let r = digit_range d h.0 in
          let none : Rattle.std.specs.Char.digit_value d ≡ 0 = omega (arith, r.0, r.2, g) in
          let short : length (d ∷ ds) - 1 ≡ length ds = omega arith in
          absurd (omega (arith, ap (λ n. 10 ^ n) short, large, value_first d ds, ap (λ n. n * 10 ^ length ds) none, Rattle.std.proofs.lemmas.Int.Digits.digits_value-lt 10 ds h.1))
    ]

zero_first : (d : ℕ) (ds : List ℕ) → AllDigits 10 (d ∷ ds) → d ≤ 48 → digits_value 10 (d ∷ ds) ≡ digits_value 10 ds
zero_first d ds h g =
    let r = digit_range d h.0 in
    let none : Rattle.std.specs.Char.digit_value d ≡ 0 = omega (arith, r.0, r.2, g) in
    omega (arith, value_first d ds, ap (λ n. n * 10 ^ length ds) none)

some_above : (ds : List ℕ) (k : ℕ) → AllDigits 10 ds → 10 ^ (length ds - (k + 1)) ≤ digits_value 10 ds → (z : ℕ) × (z ≤ k) × IsAboveZeroAt ds z
some_above [] k h large = absurd (omega (arith, large, ten_pos (length {A = ℕ} [] - (k + 1))))
some_above (d ∷ ds) zero h large =
    elim (order 48 d) [
      | inl l ↦ (0, omega arith, l)
      | inr g ↦
          let short : length (d ∷ ds) - (0 + 1) ≡ length ds = omega arith in
          absurd (omega (arith, ap (λ n. 10 ^ n) short, large, zero_first d ds h g, Rattle.std.proofs.lemmas.Int.Digits.digits_value-lt 10 ds h.1))
    ]
some_above (d ∷ ds) (suc k) h large =
    elim (order 48 d) [
      | inl l ↦ (0, omega arith, l)
      | inr g ↦
          let short : length (d ∷ ds) - (suc k + 1) ≡ length ds - (k + 1) = omega arith in
          let rest : 10 ^ (length ds - (k + 1)) ≤ digits_value 10 ds = omega (arith, ap (λ n. 10 ^ n) short, large, zero_first d ds h g) in
          let found = some_above ds k h.1 rest in
          (suc found.0, omega (arith, found.1), found.2)
    ]

pub no_zero_in_front : (width n : ℕ) → IsTight width n → HasNoZeroInFront (padded width n)
no_zero_in_front width n h = (
  omega (arith, padded_length width n, h.0),
  λ zero_first. elim h.2 [
    | inl one ↦ padded_length width n ∙ one
    | inr large ↦
        let e : length (padded width n) - 1 ≡ width - 1 = omega (arith, padded_length width n) in
        let above : IsAboveZeroAt (padded width n) 0 = first_above (padded width n) (padded_digits width n) (omega (arith, padded_length width n, h.0)) (omega (arith, ap (λ k. 10 ^ k) e, large, padded_value width n h.1)) in
        absurd (omega (arith, above, zero_first))
  ],
)

-- ---- the parts of a text

nothing_padded : (width n : ℕ) → ltb 0 width ≡ false → padded width n ≡ []
nothing_padded zero n h = refl
nothing_padded (suc width) n h = absurd (true≢false (sym (lt-ltb 0 (suc width) (omega arith)) ∙ h))

some_padded : (width n : ℕ) → 0 < width → padded width n ≡ [] → ⊥
some_padded width n some e = omega (arith, some, padded_length width n, ap length e)

layout_formed : (l : Layout) → 0 < l.exponent_width → IsWellFormed (layout_parts l)
layout_formed l some = record {
  whole_digits = padded_digits l.whole_width l.whole;
  fraction_digits = padded_digits l.fraction_width l.fraction;
  exponent_digits = padded_digits l.exponent_width l.exponent;
  no_point = λ h. nothing_padded l.fraction_width l.fraction h;
  no_exponent = λ e. absurd (some_padded l.exponent_width l.exponent some e);
  len_is = refl;
}

one_zero : (width n : ℕ) → width ≡ 1 → n ≡ 0 → padded width n ≡ 48 ∷ []
one_zero width n e f = ap (λ w. padded w n) e ∙ ap (padded 1) f

near_parts : (l : Layout) → IsSpelledLayout l → IsNearLayout l → IsSpelledNear (layout_parts l)
near_parts l h n = record {
  exponent_is = (one_zero l.exponent_width l.exponent n.exponent_is.1 n.exponent_is.0, n.exponent_is.2);
  whole_is = (no_zero_in_front l.whole_width l.whole h.whole_fits, omega (arith, padded_length l.whole_width l.whole, n.whole_is));
  fraction_is = (
    lt-ltb 0 l.fraction_width n.fraction_is.0,
    elim n.fraction_is.1 [
      | inl zero_alone ↦ inl (one_zero l.fraction_width l.fraction zero_alone.0 zero_alone.1)
      | inr last ↦ inr (ends_above l.fraction_width l.fraction n.fraction_is.0 last)
    ],
  );
  few_zeros = λ first. few (order 0 l.whole) first;
}
  where
    few : (0 < l.whole) ⊎ (l.whole ≤ 0) → get_or (padded l.whole_width l.whole) 0 0 ≡ 48
        → (padded l.fraction_width l.fraction ≡ 48 ∷ []) ⊎ ((zeros : ℕ) × (zeros ≤ 4) × IsAboveZeroAt (padded l.fraction_width l.fraction) zeros)
    few (inl some) first = absurd (
        let tight = (no_zero_in_front l.whole_width l.whole h.whole_fits).1 first in
        let one : l.whole_width ≡ 1 = sym (padded_length l.whole_width l.whole) ∙ tight in
        let zero_less : length (padded l.whole_width l.whole) - 1 ≡ 0 = omega (arith, tight) in
        let above = first_above (padded l.whole_width l.whole) (padded_digits l.whole_width l.whole) (omega (arith, tight)) (omega (arith, ap (λ k. 10 ^ k) zero_less, padded_value l.whole_width l.whole h.whole_fits.1, some)) in
        omega (arith, above, first))
    few (inr none) first = elim (n.few_zeros (omega (arith, none))) [
      | inl zero_alone ↦ inl (one_zero l.fraction_width l.fraction zero_alone.0 zero_alone.1)
      | inr large ↦
          let long : length (padded l.fraction_width l.fraction) - (4 + 1) ≡ l.fraction_width - 5 = omega (arith, padded_length l.fraction_width l.fraction) in
          inr (some_above (padded l.fraction_width l.fraction) 4 (padded_digits l.fraction_width l.fraction) (omega (arith, ap (λ k. 10 ^ k) long, large, padded_value l.fraction_width l.fraction h.fraction_fits)))
    ]

far_parts : (l : Layout) → IsSpelledLayout l → IsFarLayout l → IsSpelledFar (layout_parts l)
far_parts l h n = record {
  whole_is = (
    padded_length l.whole_width l.whole ∙ n.whole_is.0,
    let zero_less : length (padded l.whole_width l.whole) - 1 ≡ 0 = omega (arith, padded_length l.whole_width l.whole, n.whole_is.0) in
        first_above (padded l.whole_width l.whole) (padded_digits l.whole_width l.whole) (omega (arith, padded_length l.whole_width l.whole, n.whole_is.0)) (omega (arith, ap (λ k. 10 ^ k) zero_less, padded_value l.whole_width l.whole h.whole_fits.1, n.whole_is.1)),
  );
  fraction_is = λ point. let some = ltb-true 0 l.fraction_width point in ends_above l.fraction_width l.fraction some (n.fraction_is some);
  exponent_is = (no_zero_in_front l.exponent_width l.exponent h.exponent_fits, subst (λ e. cond l.exponent_negative 6 16 ≤ e) (sym (padded_value l.exponent_width l.exponent h.exponent_fits.1)) n.exponent_is);
}

pub layout_spelled : (l : Layout) → IsSpelledLayout l → IsSpelled (layout_parts l)
layout_spelled l h = record {
  well_formed = layout_formed l h.exponent_fits.0;
  near_or_far = elim h.near_or_far [ inl n ↦ inl (near_parts l h n) | inr f ↦ inr (far_parts l h f) ];
}

-- its number
pub layout_number : (l : Layout) → IsSpelledLayout l → decimal_of (layout_parts l) ≡ layout_decimal l
layout_number l h =
    let digits : digits_value 10 (padded l.whole_width l.whole ++ padded l.fraction_width l.fraction) ≡ l.whole * 10 ^ l.fraction_width + l.fraction =
    digits_value-append (padded l.whole_width l.whole) (padded l.fraction_width l.fraction)
    ∙ (λ i. padded_value l.whole_width l.whole h.whole_fits.1 i * 10 ^ padded_length l.fraction_width l.fraction i + padded_value l.fraction_width l.fraction h.fraction_fits i) in
    let exponent = padded_value l.exponent_width l.exponent h.exponent_fits.1 in
    λ i. record { digits = digits i; tens = cond l.exponent_negative 0 (exponent i); places = padded_length l.fraction_width l.fraction i + cond l.exponent_negative (exponent i) 0 }

-- its shape
pub layout_shape : (negative : Bool) (l : Layout) → IsSpelledLayout l → IsDouble (sign_text negative ++ text_of (layout_parts l))
layout_shape negative l h = go (padded l.exponent_width l.exponent) refl
  where
    go : (exponent : List ℕ) → padded l.exponent_width l.exponent ≡ exponent → IsDouble (sign_text negative ++ text_of (layout_parts l))
    go [] e = absurd (some_padded l.exponent_width l.exponent h.exponent_fits.0 e)
    go (d ∷ ds) e =
        rw e (double_shape (sign_text negative) (padded l.whole_width l.whole) (cond (ltb 0 l.fraction_width) (46 ∷ padded l.fraction_width l.fraction) []) (sign_text l.exponent_negative) (d ∷ ds)
        (sign_shape negative) (are_digits (padded l.whole_width l.whole) (padded_digits l.whole_width l.whole) (omega (arith, padded_length l.whole_width l.whole, h.whole_fits.0)))
        (fraction_shape (ltb 0 l.fraction_width) (padded l.fraction_width l.fraction) (padded_digits l.fraction_width l.fraction) (λ point. omega (arith, padded_length l.fraction_width l.fraction, ltb-true 0 l.fraction_width point)))
        (sign_shape l.exponent_negative)
        (are_digits (d ∷ ds) (subst (AllDigits 10) e (padded_digits l.exponent_width l.exponent)) (omega arith)))

-- the text that is written, part by part
pub layout_text : (negative : Bool) (l : Layout) → 0 < l.exponent_width
    → text_of (layout_parts l) ≡ padded l.whole_width l.whole ++ (cond (ltb 0 l.fraction_width) (46 ∷ padded l.fraction_width l.fraction) [] ++ 101 ∷ (sign_text l.exponent_negative ++ padded l.exponent_width l.exponent))
layout_text negative l some = go (padded l.exponent_width l.exponent) refl
  where
    go : (exponent : List ℕ) → padded l.exponent_width l.exponent ≡ exponent
        → text_of (layout_parts l) ≡ padded l.whole_width l.whole ++ (cond (ltb 0 l.fraction_width) (46 ∷ padded l.fraction_width l.fraction) [] ++ 101 ∷ (sign_text l.exponent_negative ++ padded l.exponent_width l.exponent))
    go [] e = absurd (some_padded l.exponent_width l.exponent some e)
    go (d ∷ ds) e = rw e refl

-- ---- bytes written one after another

pub front_set : (xs : List ℕ) (i v : ℕ) → i < length xs → take (i + 1) (set xs i v) ≡ take i xs ++ v ∷ []
front_set xs i v h = let e : i + 1 ≡ suc i = omega arith in ap (λ n. take n (set xs i v)) e ∙ take-suc-set xs i v h

-- a sign, digits, a fraction, a mark and digits
pub all_parts : (negative : Bool) (l : Layout) → 0 < l.exponent_width → (a b c d e : List ℕ) → a ≡ sign_text negative → b ≡ a ++ padded l.whole_width l.whole
    → c ≡ b ++ cond (ltb 0 l.fraction_width) (46 ∷ padded l.fraction_width l.fraction) [] → d ≡ c ++ 101 ∷ sign_text l.exponent_negative → e ≡ d ++ padded l.exponent_width l.exponent
    → e ≡ sign_text negative ++ text_of (layout_parts l)
all_parts negative l some a b c d e ha hb hc hd he =
    let sign : List ℕ = sign_text negative in
    let whole : List ℕ = padded l.whole_width l.whole in
    let fraction : List ℕ = cond (ltb 0 l.fraction_width) (46 ∷ padded l.fraction_width l.fraction) [] in
    let mark : List ℕ = 101 ∷ sign_text l.exponent_negative in
    let exponent : List ℕ = padded l.exponent_width l.exponent in
    let all : e ≡ (((sign ++ whole) ++ fraction) ++ mark) ++ exponent =
    he ∙ ap (λ x. x ++ exponent) (hd ∙ ap (λ x. x ++ mark) (hc ∙ ap (λ x. x ++ fraction) (hb ∙ ap (λ x. x ++ whole) ha))) in
    let apart : (((sign ++ whole) ++ fraction) ++ mark) ++ exponent ≡ sign ++ (whole ++ (fraction ++ (mark ++ exponent))) = regroup sign whole fraction mark exponent in
    all ∙ (apart ∙ ap (λ x. sign ++ x) (sym (layout_text negative l some)))
  where
    regroup : (a b c d e : List ℕ) → (((a ++ b) ++ c) ++ d) ++ e ≡ a ++ (b ++ (c ++ (d ++ e)))
    regroup a b c d e = simp append_assoc
