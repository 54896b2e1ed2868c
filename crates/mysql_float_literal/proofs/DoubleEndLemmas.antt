-- The first and the last byte of a double.
use Rattle.std.proofs.Common.{◌≡◌, ◌++◌, ◌==◌, ◌||◌, ℕ, Bool, true, false, List, [], ◌∷◌, refl}
use Rattle.std.proofs.lemmas.Bool.{and_parts}
use Rattle.std.specs.Prelude.{codes}
use Rattle.std.specs.Char.{is_ascii_digit}
use Rattle.std.specs.List.{list_all}
use Rattle.std.specs.Str.{byte}
use Rattle.mysql_sql_text.specs.LiteralShape.{AreDigits}
use Rattle.mysql_float_literal.specs.DoubleEnds.{begins_number, ends_in_digit}
use Rattle.mysql_float_literal.specs.DoubleShape.{no_sign, minus_sign, IsDouble, double_shape}

ends_in_these : (d : ℕ) (digits : List ℕ) → is_ascii_digit d ≡ true → list_all is_ascii_digit digits ≡ true → ends_in_digit (d ∷ digits) ≡ true
ends_in_these d [] h all = h
ends_in_these d (c ∷ digits) h all = let p = and_parts (is_ascii_digit c) (list_all is_ascii_digit digits) all in ends_in_these c digits p.0 p.1

ends_in_digits : (digits : List ℕ) → AreDigits digits → ends_in_digit digits ≡ true
ends_in_digits [] h = absurd h
ends_in_digits (d ∷ digits) h = ends_in_these d digits h.0 h.1

ends_after : (front back : List ℕ) → ends_in_digit back ≡ true → ends_in_digit (front ++ back) ≡ true
ends_after [] back h = h
ends_after (b ∷ []) [] h = cc
ends_after (b ∷ []) (c ∷ back) h = h
ends_after (b ∷ c ∷ front) back h = ends_after (c ∷ front) back h

pub double_ends : {text : List ℕ} → IsDouble text → ends_in_digit text ≡ true
double_ends (double_shape sign whole fraction exponent_sign exponent s w f es e) =
    let last : List ℕ = exponent_sign ++ exponent in
    ends_after sign (whole ++ (fraction ++ (codes "e" ++ last))) (ends_after whole (fraction ++ (codes "e" ++ last)) (ends_after fraction (codes "e" ++ last)
    (ends_after (codes "e") last (ends_after exponent_sign exponent (ends_in_digits exponent e)))))

or_true : (a : Bool) → (a || true) ≡ true
or_true true = refl
or_true false = refl

digits_begin : (digits rest : List ℕ) → AreDigits digits → begins_number (digits ++ rest) ≡ true
digits_begin [] rest h = absurd h
digits_begin (d ∷ digits) rest h = rw h.0 (or_true (d == byte "-"))

pub double_begins : {text : List ℕ} → IsDouble text → begins_number text ≡ true
double_begins (double_shape _ whole fraction exponent_sign exponent no_sign w f es e) = digits_begin whole _ w
double_begins (double_shape _ whole fraction exponent_sign exponent minus_sign w f es e) = refl
