-- Whole numbers convert back from their values.
use Rattle.std.proofs.Common.{◌≡◌, ◌∙◌, ap, refl, arith, ℕ, ◌-◌, ◌<◌, ◌≤◌, ◌^◌, Bool, true, false, nat_lt, if◌then◌else◌, List, [], ◌∷◌, length, Ok, Some, None, Option, ℤ, pos, negsuc, suc, lit≤}
use Rattle.std.specs.Prelude.{unsigned_abs, ◌==◌, IfSome}
use Rattle.std.specs.Option.{option_map}
use Rattle.std.specs.Char.{is_ascii_digit}
use Rattle.std.specs.Fmt.{decimal, signed_decimal}
use Rattle.std.specs.Str.Parse.{AllDigits}
use Rattle.std.proofs.lemmas.Bool.{ltb-true}
use Rattle.std.proofs.lemmas.Bool.Decides.{nat_tests}
use Rattle.std.proofs.lemmas.Str.Parse.{digit_from_value}
use Rattle.std.proofs.lemmas.Fmt.{decimal_is_IsNumeral_wide}
use Rattle.std.proofs.Math.Pow.{pow_mono}
use Rattle.mysql_value_core.specs.declared.value.Value.TheVariants.{Bytes, Int, UInt}
use Rattle.mysql_value_core.specs.ValueOf.{int_value, uint_value, wide_int_value, wide_uint_value, is_int, is_uint}
use Rattle.mysql_values.specs.Intermediate.{committed}
use Rattle.mysql_values.specs.Rollback.{ConvertsBack}
use Rattle.mysql_values.specs.Decimal.{decimal_number, signed_number, minus_sign, plus_sign}
use Rattle.mysql_sql_text.specs.Digits.{value_of_digits}
use Rattle.mysql_values.specs.WholeNumber.{holds, number_in_type, conversion_by, whole_conversion}
use Rattle.mysql_sql_text.proofs.ValueOfDigitsLemmas.{value_of_digits-IsNumeral}

-- a number that a type of at most 128 bits holds is below 2^128 in magnitude
holds-bounded : (is_signed : Bool) (width : ℕ) → width ≤ 128 → (number : ℤ)
    → holds is_signed width number ≡ true → unsigned_abs number < 2 ^ 128
holds-bounded true width small (pos n) held =
    let low : width - 1 ≤ 127 = omega arith in
    omega (arith, ltb-true n (2 ^ (width - 1)) held, pow_mono low)
holds-bounded true width small (negsuc n) held =
    let low : width - 1 ≤ 127 = omega arith in
    omega (arith, ltb-true n (2 ^ (width - 1)) held, pow_mono low)
holds-bounded false width small (pos n) held =
    omega (arith, ltb-true n (2 ^ width) held, pow_mono small)
holds-bounded false width small (negsuc n) held = absurd cc

-- a larger number is refused
number_in_type-beyond : {T : Type 0} (is_signed : Bool) (width : ℕ) → width ≤ 128
    → (of_number : ℤ → T) (number : ℤ) → 2 ^ 128 ≤ unsigned_abs number
    → number_in_type is_signed width of_number number ≡ None
number_in_type-beyond is_signed width small of_number number large =
    refuse (holds is_signed width number) refl
  where
    refuse : (t : Bool) → holds is_signed width number ≡ t
        → number_in_type is_signed width of_number number ≡ None
    refuse true held =
        let below = holds-bounded is_signed width small number held in
        absurd (omega arith)
    refuse false held = rw held refl

-- so are bytes that are no decimal text, or that of a larger number
pub whole_conversion-bytes_refused : {T : Type 0} (is_signed : Bool) (width : ℕ) → width ≤ 128
    → (of_number : ℤ → T) (bytes : List ℕ) (number : Option ℤ) → decimal_number bytes ≡ number
    → IfSome number (λ z. 2 ^ 128 ≤ unsigned_abs z)
    → whole_conversion is_signed width of_number (Bytes bytes) ≡ None
whole_conversion-bytes_refused is_signed width small of_number bytes None is large = rw is refl
whole_conversion-bytes_refused is_signed width small of_number bytes (Some z) is large =
    rw (is, number_in_type-beyond is_signed width small of_number z large) refl

-- digits with no sign before them
decimal_number-digit : (first : ℕ) (rest : List ℕ) → is_ascii_digit first ≡ true
    → decimal_number (first ∷ rest) ≡ option_map (signed_number false) (value_of_digits (first ∷ rest))
decimal_number-digit first rest digit =
    let no_minus : (first == minus_sign) ≡ false = grind (arith, nat_tests) in
    let no_plus : (first == plus_sign) ≡ false = grind (arith, nat_tests) in
    rw (no_minus, no_plus) refl

decimal_number-digits : (digits : List ℕ) → 0 < length digits → AllDigits 10 digits
    → decimal_number digits ≡ option_map (signed_number false) (value_of_digits digits)
decimal_number-digits [] some all = absurd (omega arith)
decimal_number-digits (first ∷ rest) some all =
    decimal_number-digit first rest (grind (arith, nat_tests, digit_from_value first all.0))

-- a number is read from its decimal text
value_of_digits-decimal : (n : ℕ) → n < 2 ^ 128 → value_of_digits (decimal n) ≡ Some n
value_of_digits-decimal n small =
    let is = decimal_is_IsNumeral_wide n (omega arith) in
    value_of_digits-IsNumeral (decimal n) is.0 ∙ ap Some is.1

decimal_number-decimal : (n : ℕ) → n < 2 ^ 128 → decimal_number (decimal n) ≡ Some (pos n)
decimal_number-decimal n small =
    let is = decimal_is_IsNumeral_wide n (omega arith) in
    decimal_number-digits (decimal n) is.0.0 is.0.1
    ∙ ap (option_map (signed_number false)) (value_of_digits-decimal n small)

decimal_number-signed_decimal : (number : ℤ) → unsigned_abs number < 2 ^ 128
    → decimal_number (signed_decimal number) ≡ Some number
decimal_number-signed_decimal (pos n) small = decimal_number-decimal n small
decimal_number-signed_decimal (negsuc n) small =
    ap (option_map (signed_number true)) (value_of_digits-decimal (suc n) small)

-- a number whose value is its decimal text
text-converts_back : {T : Type 0} (to_type : ℤ → Option T) (number : ℤ) (x : T)
    → unsigned_abs number < 2 ^ 128 → to_type number ≡ Some x
    → ConvertsBack (conversion_by to_type) committed (Ok (Bytes (signed_decimal number))) x
text-converts_back to_type number x small is =
    (rw (decimal_number-signed_decimal number small, is) refl, λ null. cc)

-- types of up to 64 bits
pub int_converts_back : (width : ℕ) (number : ℤ) → holds true width number ≡ true
    → ConvertsBack (whole_conversion true width (λ z. z)) committed (int_value number) number
int_converts_back width number held = (rw held refl, λ null. cc)

pub uint_converts_back : (width n : ℕ) → holds false width (pos n) ≡ true
    → ConvertsBack (whole_conversion false width unsigned_abs) committed (uint_value n) n
uint_converts_back width n held = (rw held refl, λ null. cc)

-- an `i128` beyond the range of `i64`
beyond_int_converts_back : (number : ℤ) → holds true 128 number ≡ true → (t : Bool)
    → is_uint number ≡ t
    → ConvertsBack (whole_conversion true 128 (λ z. z)) committed
    (if t then Ok (UInt (unsigned_abs number)) else Ok (Bytes (signed_decimal number))) number
beyond_int_converts_back (pos n) held true is = (rw held refl, λ null. cc)
beyond_int_converts_back (negsuc n) held true is = absurd cc
beyond_int_converts_back number held false is =
    text-converts_back (number_in_type true 128 (λ z. z)) number number
    (holds-bounded true 128 (lit≤ tt) number held) (rw held refl)

pub wide_int_converts_back : (number : ℤ) → holds true 128 number ≡ true
    → ConvertsBack (whole_conversion true 128 (λ z. z)) committed (wide_int_value number) number
wide_int_converts_back number held =
    elim (is_int number) as (λ t. ConvertsBack (whole_conversion true 128 (λ z. z)) committed
    (if t then Ok (Int number)
    else (if is_uint number then Ok (UInt (unsigned_abs number))
    else Ok (Bytes (signed_decimal number)))) number) [
      | true ↦ (rw held refl, λ null. cc)
      | false ↦ beyond_int_converts_back number held (is_uint number) refl
    ]

pub wide_uint_converts_back : (n : ℕ) → holds false 128 (pos n) ≡ true
    → ConvertsBack (whole_conversion false 128 unsigned_abs) committed (wide_uint_value n) n
wide_uint_converts_back n held =
    elim (nat_lt n (2 ^ 64)) as (λ t. ConvertsBack (whole_conversion false 128 unsigned_abs) committed
    (if t then Ok (UInt n) else Ok (Bytes (decimal n))) n) [
      | true ↦ (rw held refl, λ null. cc)
      | false ↦
          text-converts_back (number_in_type false 128 unsigned_abs) (pos n) n
          (ltb-true n (2 ^ 128) held) (rw held refl)
    ]
