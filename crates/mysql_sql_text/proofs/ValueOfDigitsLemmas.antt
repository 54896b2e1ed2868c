-- The number of digits: by std's parser, by the definition, and how large it is.
use Rattle.std.proofs.Common.{◌≡◌, ◌∙◌, ap, ap₂, sym, refl, ℕ, ◌+◌, ◌-◌, ◌*◌, ◌<◌, ◌≤◌, ◌^◌, Bool, true, false, ◌&&◌, nat_lt, List, take, get_or, length, Option, Some, None, arith, rules, inl, inr}
use Rattle.std.specs.Prelude.{IfSome, IfNone}
use Rattle.std.specs.Option.{SomeIff}
use Rattle.std.specs.Char.{is_ascii_digit}
use Rattle.std.specs.List.{list_all}
use Rattle.std.specs.Str.{IsUtf8}
use Rattle.std.specs.Str.Parse.{IsNumeral, digits_value}
use Rattle.std.specs.Int.{IsInRange}
use Rattle.std.proofs.lemmas.Str.{IsUtf8-from_ascii, digit_value_digit}
use Rattle.std.proofs.lemmas.List.{length-take}
use Rattle.std.proofs.lemmas.List.Folds.{list_all_more}
use Rattle.std.proofs.lemmas.Int.Digits.{digits_value_more}
use Rattle.std.proofs.lemmas.Fmt.{IsAscii-from_digits}
use Rattle.std.proofs.lemmas.Str.Parse.{IsNumeralModel, numerals_by_value, digits_value_short}
use Rattle.std.proofs.lemmas.Bool.{cases_Bool, cond_both, and_parts, ltb-true, ltb-false, lt-ltb, false≢true}
use Rattle.std.proofs.lemmas.Option.{same_Some}
use Rattle.std.proofs.lemmas.Nat.{pow-add}
use Rattle.std.proofs.Math.Nat.{mul-lt-mul_of_pos_right, one-le-pow}
use Rattle.mysql_sql_text.specs.Digits.{value_of_digits}

-- digits are a text
pub numeral_is_utf8 : (digits : List ℕ) → IsNumeral 10 digits → IsUtf8 digits
numeral_is_utf8 digits numeral = IsUtf8-from_ascii digits (IsAscii-from_digits digits numeral.1)

-- std's word for digits, and the test that the definition makes
numeral_model : IsNumeralModel (λ digits. list_all is_ascii_digit digits ≡ true) (digits_value 10)
numeral_model = numerals_by_value _ (search rules)

-- digits have their number
pub value_of_digits-IsNumeral : (digits : List ℕ) → IsNumeral 10 digits
    → value_of_digits digits ≡ Some (digits_value 10 digits)
value_of_digits-IsNumeral digits numeral =
    let nonempty : nat_lt 0 (length digits) ≡ true = lt-ltb 0 (length digits) numeral.0 in
    rw (nonempty, numeral_model.from digits numeral.1) refl

-- a text that has a number is one or more digits, and the number is theirs
pub value_of_digits-found : (digits : List ℕ) (n : ℕ) → value_of_digits digits ≡ Some n
    → (0 < length digits) × (list_all is_ascii_digit digits ≡ true) × (digits_value 10 digits ≡ n)
value_of_digits-found digits n e =
    elim (cases_Bool (nat_lt 0 (length digits) && list_all is_ascii_digit digits)) [
      | inl h ↦
          let p = and_parts (nat_lt 0 (length digits)) (list_all is_ascii_digit digits) h in
          let v : Some (digits_value 10 digits) ≡ Some n = rw h at e in
          (ltb-true 0 (length digits) p.0, p.1, same_Some _ _ v)
      | inr h ↦ let v : None ≡ Some n = rw h at e in absurd cc
    ]

-- one to `width` digits write a number below that power of ten
pub value_of_digits-below : (digits : List ℕ) (n width : ℕ) → value_of_digits digits ≡ Some n
    → length digits ≤ width → n < 10 ^ width
value_of_digits-below digits n width e short =
    let is = value_of_digits-found digits n e in
    let below : digits_value 10 digits < 10 ^ width = digits_value_short numeral_model digits width is.1 short in
    rw is.2 at below

-- a text that std's parser refuses is no number, or a number that 128 bits don't hold
value_of_digits-refused : (digits : List ℕ)
    → ¬ (IsNumeral 10 digits × (digits_value 10 digits < 2 ^ 128))
    → IfSome (value_of_digits digits) (λ n. 2 ^ 128 ≤ n)
value_of_digits-refused digits refused =
    cond_both (nat_lt 0 (length digits) && list_all is_ascii_digit digits) _ _
    (λ number. IfSome number (λ n. 2 ^ 128 ≤ n))
    (λ hold.
    let tests = and_parts (nat_lt 0 (length digits)) (list_all is_ascii_digit digits) hold in
    let numeral : IsNumeral 10 digits =
    (ltb-true 0 (length digits) tests.0, numeral_model.to digits tests.1) in
    beyond numeral (nat_lt (digits_value 10 digits) (2 ^ 128)) refl)
    (λ _. tt)
  where
    beyond : IsNumeral 10 digits → (t : Bool) → nat_lt (digits_value 10 digits) (2 ^ 128) ≡ t
        → 2 ^ 128 ≤ digits_value 10 digits
    beyond numeral true small =
        absurd (refused (numeral, ltb-true (digits_value 10 digits) (2 ^ 128) small))
    beyond numeral false large = ltb-false (digits_value 10 digits) (2 ^ 128) large

-- the result of std's parser is the number
pub parsed-found : (digits : List ℕ) (result : Option ℕ)
    → SomeIff result (IsNumeral 10 digits × (digits_value 10 digits < 2 ^ 128)) (digits_value 10 digits)
    → IfSome result (λ n. value_of_digits digits ≡ Some n)
parsed-found digits None parsed = tt
parsed-found digits (Some n) parsed =
    value_of_digits-IsNumeral digits parsed.0.0 ∙ ap Some (sym parsed.1)

pub parsed-refused : (digits : List ℕ) (result : Option ℕ)
    → SomeIff result (IsNumeral 10 digits × (digits_value 10 digits < 2 ^ 128)) (digits_value 10 digits)
    → IfNone result (IfSome (value_of_digits digits) (λ n. 2 ^ 128 ≤ n))
parsed-refused digits None parsed = value_of_digits-refused digits parsed
parsed-refused digits (Some n) parsed = tt

-- digits after a point, filled up to six, write a number below a million
pub fraction_microseconds_below : (n width : ℕ) → n < 10 ^ width → width ≤ 6 → n * 10 ^ (6 - width) < 1000000
fraction_microseconds_below n width small short =
    let more : n * 10 ^ (6 - width) < 10 ^ width * 10 ^ (6 - width) =
    mul-lt-mul_of_pos_right small (one-le-pow (6 - width) 10 (omega arith)) in
    let sum : 10 ^ width * 10 ^ (6 - width) ≡ 10 ^ (width + (6 - width)) = sym (pow-add 10 width (6 - width)) in
    let whole : width + (6 - width) ≡ 6 = omega arith in
    let six : 10 ^ (width + (6 - width)) ≡ 10 ^ 6 = ap (λ m. 10 ^ m) whole in
    omega (arith, more, sum, six)

-- digits so far, and one more

pub digits_so_far_below : (digits : List ℕ) (i : ℕ) → i ≤ 18 → list_all is_ascii_digit (take i digits) ≡ true
    → digits_value 10 (take i digits) < 10 ^ 18
digits_so_far_below digits i few all =
    digits_value_short numeral_model (take i digits) 18 all (omega (arith, length-take i digits))

pub digits_so_far_more : (digits : List ℕ) (i : ℕ) → i < length digits → list_all is_ascii_digit (take i digits) ≡ true
    → is_ascii_digit (get_or digits i 0) ≡ true → list_all is_ascii_digit (take (i + 1) digits) ≡ true
digits_so_far_more digits i within all digit =
    list_all_more is_ascii_digit digits i 0 within ∙ ap₂ (λ a b. a && b) all digit

pub digits_so_far_value : (digits : List ℕ) (i : ℕ) → i < length digits → IsInRange 48 57 (get_or digits i 0)
    → 10 * digits_value 10 (take i digits) + (get_or digits i 0 - 48) ≡ digits_value 10 (take (i + 1) digits)
digits_so_far_value digits i within digit =
    omega (arith, digits_value_more 10 digits i within, digit_value_digit (get_or digits i 0) digit)

-- digits that were all read write the number, and others none
pub value_of_digits-all : (digits : List ℕ) (n : ℕ) → 0 < length digits → list_all is_ascii_digit digits ≡ true
    → n ≡ digits_value 10 digits → Some n ≡ value_of_digits digits
value_of_digits-all digits n some all is =
    let nonempty : nat_lt 0 (length digits) ≡ true = lt-ltb 0 (length digits) some in
    rw (nonempty, all) (ap Some is)

pub value_of_digits-other : (digits : List ℕ) → list_all is_ascii_digit digits ≡ false → None ≡ value_of_digits digits
value_of_digits-other digits other =
    elim (cases_Bool (nat_lt 0 (length digits) && list_all is_ascii_digit digits)) [
      | inl h ↦
          let p = and_parts (nat_lt 0 (length digits)) (list_all is_ascii_digit digits) h in
          absurd (false≢true (sym other ∙ p.1))
      | inr h ↦ rw h refl
    ]
