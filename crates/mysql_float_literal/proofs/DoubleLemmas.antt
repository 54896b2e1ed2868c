-- The parts of a double's text have their shapes.
use Rattle.std.proofs.Common.{◌≡◌, ℕ, ◌<◌, Bool, true, false, cond, List, [], ◌∷◌, length, refl, arith}
use Rattle.std.proofs.lemmas.Bool.{and_from}
use Rattle.std.proofs.lemmas.Str.Parse.{digit_from_value}
use Rattle.std.specs.Char.{is_ascii_digit}
use Rattle.std.specs.Fmt.{sign_text}
use Rattle.std.specs.List.{list_all}
use Rattle.std.specs.Str.Parse.{AllDigits}
use Rattle.fast_float.proofs.DigitsLemmas.{is_digit}
use Rattle.mysql_sql_text.specs.LiteralShape.{AreDigits}
use Rattle.mysql_float_literal.specs.DoubleShape.{IsSign, no_sign, minus_sign, IsFraction, no_fraction, point_and_digits}

digits_all : (ds : List ℕ) → AllDigits 10 ds → list_all is_ascii_digit ds ≡ true
digits_all [] h = refl
digits_all (d ∷ ds) h = let r = digit_from_value d h.0 in and_from _ _ (is_digit d r.0 r.1).0 (digits_all ds h.1)

pub are_digits : (ds : List ℕ) → AllDigits 10 ds → 0 < length ds → AreDigits ds
are_digits [] h some = absurd (omega arith)
are_digits (d ∷ ds) h some = let r = digit_from_value d h.0 in ((is_digit d r.0 r.1).0, digits_all ds h.1)

pub sign_shape : (negative : Bool) → IsSign (sign_text negative)
sign_shape true = minus_sign
sign_shape false = no_sign

pub fraction_shape : (point : Bool) (fraction : List ℕ) → AllDigits 10 fraction → (point ≡ true → 0 < length fraction) →
    IsFraction (cond point (46 ∷ fraction) [])
fraction_shape true fraction h some = point_and_digits fraction (are_digits fraction h (some refl))
fraction_shape false fraction h some = no_fraction
