-- The digits of a number, as the reader of literals takes them.
use Rattle.std.proofs.Common.{◌≡◌, ℕ, ◌+◌, ◌-◌, ◌*◌, ◌<◌, ◌^◌, true, List, [], ◌∷◌, ◌++◌, length, refl, ◌∙◌, ap, arith, rules}
use Rattle.std.specs.Prelude.{Some}
use Rattle.std.specs.Char.{is_ascii_digit}
use Rattle.std.specs.List.{list_all}
use Rattle.std.specs.Fmt.{decimal}
use Rattle.std.proofs.lemmas.Bool.{cond-false, cond-true, and_parts}
use Rattle.std.proofs.lemmas.Str.Parse.{IsNumeralModel, numerals_by_fold}
use Rattle.std.proofs.lemmas.Fmt.{digits_decimal, digits_value-decimal, decimal_nonempty}
use Rattle.mysql_sql_text.specs.ReadLiteral.{read_digits, read_natural}
use Rattle.mysql_sql_text.specs.LiteralEnd.{BeginsWithout}
use Rattle.mysql_sql_text.proofs.ByteNames.{digit_zero}

-- the number that digits go on to, after the number so far
unfoldable pub value_after : ℕ → List ℕ → ℕ
value_after n [] = n
value_after n (d ∷ ds) = value_after (10 * n + (d - digit_zero)) ds

pub numeral_model : IsNumeralModel (λ ds. list_all is_ascii_digit ds ≡ true) (value_after 0)
unfolding value_after
numeral_model = numerals_by_fold _ (search rules) value_after (search rules)

pub all_digits-decimal : (n : ℕ) → n < 2 ^ 64 → list_all is_ascii_digit (decimal n) ≡ true
all_digits-decimal n h = digits_decimal numeral_model n h

pub read_digits-append : (n : ℕ) (ds rest : List ℕ) → list_all is_ascii_digit ds ≡ true → BeginsWithout is_ascii_digit rest
    → read_digits n (ds ++ rest) ≡ (value_after n ds, rest)
unfolding value_after
read_digits-append n [] [] d h = refl
read_digits-append n [] (b ∷ rest) d h = cond-false (is_ascii_digit b) _ _ h
read_digits-append n (c ∷ ds) rest d h =
    let parts = and_parts (is_ascii_digit c) (list_all is_ascii_digit ds) d in
    cond-true (is_ascii_digit c) _ _ parts.0 ∙ read_digits-append (10 * n + (c - digit_zero)) ds rest parts.1 h

read_natural-append : (ds rest : List ℕ) → list_all is_ascii_digit ds ≡ true → 0 < length ds
    → BeginsWithout is_ascii_digit rest → read_natural (ds ++ rest) ≡ Some (value_after 0 ds, rest)
unfolding value_after
read_natural-append [] rest d nonempty h = absurd (omega arith)
read_natural-append (c ∷ ds) rest d nonempty h =
    cond-true (is_ascii_digit c) _ _ (and_parts (is_ascii_digit c) (list_all is_ascii_digit ds) d).0
    ∙ ap Some (read_digits-append 0 (c ∷ ds) rest d h)

-- the digits of a number read as that number
pub read_natural-decimal : (n : ℕ) (rest : List ℕ) → n < 2 ^ 64 → BeginsWithout is_ascii_digit rest
    → read_natural (decimal n ++ rest) ≡ Some (n, rest)
read_natural-decimal n rest h no_digit =
    read_natural-append (decimal n) rest (all_digits-decimal n h) (decimal_nonempty n h) no_digit
    ∙ ap (λ k. Some (k, rest)) (digits_value-decimal numeral_model n h)
