-- Digits and the number that they write: how large it is, and which digits write it.
use Rattle.std.proofs.Common.{◌≡◌, ℕ, zero, suc, ◌+◌, ◌-◌, ◌*◌, ◌^◌, ◌<◌, ◌≤◌, ◌++◌, ◌⊎◌, ltb, List, [], ◌∷◌, length, get_or, take, inl, inr, refl, sym, ap, ◌∙◌, subst, arith, pow-suc, add-mul, mul-le-mul_right, length-append, ltb-true, ltb-false, take_all, get_or-append-add}
use Rattle.std.proofs.Math.Nat.{one-le-pow, pow-le-pow_right}
use Rattle.std.proofs.lemmas.Bool.{cases_Bool}
use Rattle.std.proofs.lemmas.Int.Digits.{digits_value-lt, digits_value_more}
use Rattle.std.proofs.lemmas.Str.Parse.{digit_from_value}
use Rattle.std.specs.Char.{digit_value}
use Rattle.std.specs.Str.Parse.{digits_value, AllDigits}
use Rattle.fast_float.proofs.DigitsLemmas.{digits_value-append, is_digit}
use Rattle.mysql_float_literal.specs.DoubleSpelling.{HasNoZeroInFront, IsAboveZeroAt, EndsAboveZero}

-- ---- numbers

pub order : (a b : ℕ) → (a < b) ⊎ (b ≤ a)
order a b = elim (cases_Bool (ltb a b)) [ inl e ↦ inl (ltb-true a b e) | inr e ↦ inr (ltb-false a b e) ]

pub ten_pos : (n : ℕ) → 0 < 10 ^ n
ten_pos n = let h : 1 ≤ 10 ^ n = one-le-pow n 10 (omega arith) in omega (arith, h)

pub tens_grow : (m n : ℕ) → m ≤ n → 10 ^ m ≤ 10 ^ n
tens_grow m n h = pow-le-pow_right (omega arith) h

-- a number is at most one multiple with a small rest, and one such rest
not_below : (x a b c d : ℕ) → b < x → a * x + b ≡ c * x + d → a < c → ⊥
not_below x a b c d small e h =
    let more : a + 1 ≤ c = omega (arith, h) in
    omega (arith, small, e, mul-le-mul_right x more, add-mul a 1 x)

pub cut_same : (x a b c d : ℕ) → b < x → d < x → a * x + b ≡ c * x + d → (a ≡ c) × (b ≡ d)
cut_same x a b c d small small_too e =
    elim (order a c) [
      | inl l ↦ absurd (not_below x a b c d small e l)
      | inr g ↦ elim (order c a) [
        | inl l ↦ absurd (not_below x c d a b small_too (sym e) l)
        | inr k ↦
            let same : a ≡ c = omega arith in
            (same, omega (arith, e, ap (λ n. n * x) same))
      ]
    ]

-- ---- one digit

pub digit_range : (d : ℕ) → digit_value d < 10 → (48 ≤ d) × (d ≤ 57) × (digit_value d ≡ d - 48)
digit_range d h = let r = digit_from_value d h in (r.0, r.1, (is_digit d r.0 r.1).1)

same_digit : (c d : ℕ) → digit_value c < 10 → digit_value d < 10 → digit_value c ≡ digit_value d → c ≡ d
same_digit c d h k e = let r = digit_range c h in let s = digit_range d k in omega (arith, r.0, s.0, r.2, s.2, e)

-- ---- the number of digits

pub value_first : (d : ℕ) (ds : List ℕ) → digits_value 10 (d ∷ ds) ≡ digit_value d * 10 ^ length ds + digits_value 10 ds
value_first d ds = let e : 0 * 10 + digit_value d ≡ digit_value d = omega arith in digits_value-append (d ∷ []) ds ∙ ap (λ n. n * 10 ^ length ds + digits_value 10 ds) e

-- as many digits of the same number are the same
pub same_digits : (xs ys : List ℕ) → AllDigits 10 xs → AllDigits 10 ys → length xs ≡ length ys → digits_value 10 xs ≡ digits_value 10 ys → xs ≡ ys
same_digits [] [] h k long e = refl
same_digits [] (y ∷ ys) h k long e = absurd (omega arith)
same_digits (x ∷ xs) [] h k long e = absurd (omega arith)
same_digits (x ∷ xs) (y ∷ ys) h k long e =
    let rest : length xs ≡ length ys = omega arith in
    let below : digits_value 10 ys < 10 ^ length xs = subst (λ n. digits_value 10 ys < 10 ^ n) (sym rest) (digits_value-lt 10 ys k.1) in
    let both : digit_value x * 10 ^ length xs + digits_value 10 xs ≡ digit_value y * 10 ^ length xs + digits_value 10 ys =
    sym (value_first x xs) ∙ (e ∙ (value_first y ys ∙ ap (λ n. digit_value y * 10 ^ n + digits_value 10 ys) (sym rest))) in
    let p = cut_same (10 ^ length xs) (digit_value x) (digits_value 10 xs) (digit_value y) (digits_value 10 ys) (digits_value-lt 10 xs h.1) below both in
    let first : x ≡ y = same_digit x y h.0 k.0 p.0 in
    let more : xs ≡ ys = same_digits xs ys h.1 k.1 rest p.1 in
    λ i. first i ∷ more i

-- a digit that is no zero makes the number as large as its place
pub large_by : (ds : List ℕ) (k : ℕ) → AllDigits 10 ds → IsAboveZeroAt ds k → 10 ^ length ds ≤ digits_value 10 ds * 10 ^ (k + 1)
large_by [] k h above = absurd (omega arith)
large_by (d ∷ ds) zero h above =
    let r = digit_range d h.0 in
    let one : 1 ≤ digit_value d = omega (arith, r.2, above) in
    omega (arith, value_first d ds, mul-le-mul_right (10 ^ length ds) one, pow-suc 10 (length ds))
large_by (d ∷ ds) (suc k) h above =
    let less : digits_value 10 ds ≤ digits_value 10 (d ∷ ds) = omega (arith, value_first d ds) in
    let again : 10 ^ length ds ≤ digits_value 10 ds * 10 ^ (k + 1) = large_by ds k h.1 above in
    let more : digits_value 10 ds * 10 ^ (k + 1) ≤ digits_value 10 (d ∷ ds) * 10 ^ (k + 1) = mul-le-mul_right (10 ^ (k + 1)) less in
    let up : suc k + 1 ≡ suc (k + 1) = omega arith in
    let tens : 10 ^ (suc k + 1) ≡ 10 ^ (k + 1) * 10 = ap (λ n. 10 ^ n) up ∙ pow-suc 10 (k + 1) in
    omega (arith, again, more, pow-suc 10 (length ds), ap (λ n. digits_value 10 (d ∷ ds) * n) tens)

-- the first digit is no zero
pub large_at_first : (ds : List ℕ) → AllDigits 10 ds → 0 < length ds → IsAboveZeroAt ds 0 → 10 ^ (length ds - 1) ≤ digits_value 10 ds
large_at_first [] h some above = absurd (omega arith)
large_at_first (d ∷ ds) h some above =
    let r = digit_range d h.0 in
    let one : 1 ≤ digit_value d = omega (arith, r.2, above) in
    let short : length (d ∷ ds) - 1 ≡ length ds = omega arith in
    omega (arith, value_first d ds, mul-le-mul_right (10 ^ length ds) one, ap (λ n. 10 ^ n) short)

-- a longer one without a zero in front is larger
not_longer : (xs ys : List ℕ) → AllDigits 10 xs → AllDigits 10 ys → HasNoZeroInFront xs → HasNoZeroInFront ys → digits_value 10 xs ≡ digits_value 10 ys → length xs < length ys → ⊥
not_longer xs [] h k lead none e l = omega arith
not_longer xs (y ∷ ys) h k lead none e l =
    let r = digit_range y k.0 in
    let first : 48 < y = elim (order 48 y) [ inl l ↦ l | inr g ↦ absurd (let only : length (y ∷ ys) ≡ 1 = none.1 (omega (arith, g, r.0)) in omega (arith, only, lead.0, l)) ] in
    let large : 10 ^ (length (y ∷ ys) - 1) ≤ digits_value 10 (y ∷ ys) = large_at_first (y ∷ ys) k none.0 first in
    let fits : length xs ≤ length (y ∷ ys) - 1 = omega (arith, l) in
    omega (arith, e, large, digits_value-lt 10 xs h, tens_grow (length xs) (length (y ∷ ys) - 1) fits)

-- without a zero in front a number has one row of digits
pub same_natural : (xs ys : List ℕ) → AllDigits 10 xs → AllDigits 10 ys → HasNoZeroInFront xs → HasNoZeroInFront ys → digits_value 10 xs ≡ digits_value 10 ys → xs ≡ ys
same_natural xs ys h k lead none e =
    elim (order (length xs) (length ys)) [
      | inl l ↦ absurd (not_longer xs ys h k lead none e l)
      | inr g ↦ elim (order (length ys) (length xs)) [
        | inl l ↦ absurd (not_longer ys xs k h none lead (sym e) l)
        | inr l ↦ same_digits xs ys h k (omega arith) e
      ]
    ]

-- ---- the last digit

-- a number whose last digit is no zero isn't a multiple of ten
pub no_multiple : (whole fraction : List ℕ) (n : ℕ) → AllDigits 10 fraction → EndsAboveZero fraction → digits_value 10 (whole ++ fraction) ≡ n * 10 → ⊥
no_multiple whole [] n h above e = omega arith
no_multiple whole (d ∷ ds) n h above e =
    let last : ℕ = length (d ∷ ds) - 1 in
    let ds_all : List ℕ = whole ++ d ∷ ds in
    let at : ℕ = length whole + last in
    let long : at + 1 ≡ length ds_all = omega (arith, length-append whole (d ∷ ds)) in
    let within : at < length ds_all = omega (arith, long) in
    let same : get_or ds_all at 0 ≡ get_or (d ∷ ds) last 0 = get_or-append-add whole (d ∷ ds) last 0 in
    let all : take (at + 1) ds_all ≡ ds_all = take_all (at + 1) ds_all (omega (arith, long)) in
    let cut : digits_value 10 ds_all ≡ digits_value 10 (take at ds_all) * 10 + digit_value (get_or ds_all at 0) =
    ap (digits_value 10) (sym all) ∙ digits_value_more 10 ds_all at within in
    let value : digit_value (get_or ds_all at 0) ≡ digit_value (get_or (d ∷ ds) last 0) = ap digit_value same in
    let r = digit_range (get_or (d ∷ ds) last 0) (digit_below (d ∷ ds) last h (omega arith)) in
    omega (arith, cut, e, value, r.1, r.2, above)
  where
    digit_below : (xs : List ℕ) (i : ℕ) → AllDigits 10 xs → i < length xs → digit_value (get_or xs i 0) < 10
    digit_below [] i h l = absurd (omega arith)
    digit_below (x ∷ xs) zero h l = h.0
    digit_below (x ∷ xs) (suc i) h l = digit_below xs i h.1 (omega arith)
