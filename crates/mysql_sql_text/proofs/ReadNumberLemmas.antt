-- A number in decimal reads as that number.
use Rattle.std.proofs.Common.{◌≡◌, ℕ, ◌<◌, ◌^◌, Bool, false, true, eqb, List, [], ◌∷◌, ◌++◌, length, refl, ap, arith, suc}
use Rattle.std.specs.Prelude.{Some, None, ℤ, pos, negsuc, neg_ℤ, option_map, option_and_then, Option}
use Rattle.std.specs.Char.{is_ascii_digit}
use Rattle.std.specs.List.{list_all}
use Rattle.std.specs.Option.{option_or}
use Rattle.std.specs.Fmt.{decimal, signed_decimal}
use Rattle.std.proofs.lemmas.Bool.{cond_both, cond-false, and_parts}
use Rattle.std.proofs.lemmas.Bool.Decides.{nat_tests}
use Rattle.std.proofs.lemmas.Fmt.{decimal_nonempty}
use lib.Signed.{mag}
use Rattle.mysql_sql_text.specs.ReadLiteral.{Content, number, if_any, read_pairs, read_natural, read_null, read_hexadecimal, read_negative, read_unsigned, read_string, read_literal}
use Rattle.mysql_sql_text.specs.LiteralEnd.{continues_literal, BeginsWithout, ReadsBefore}
use Rattle.mysql_sql_text.proofs.ReadNaturalLemmas.{all_digits-decimal, read_natural-decimal}
use Rattle.mysql_sql_text.proofs.ByteNames.{letter_x, capital_n, minus, digit_zero}

-- a byte that fails the wider test fails the narrower one
pub begins_narrower : (wide narrow : ℕ → Bool) → ((b : ℕ) → wide b ≡ false → narrow b ≡ false)
    → (rest : List ℕ) → BeginsWithout wide rest → BeginsWithout narrow rest
begins_narrower wide narrow weaker [] h = tt
begins_narrower wide narrow weaker (b ∷ rest) h = weaker b h

not_digit : (b : ℕ) → continues_literal b ≡ false → is_ascii_digit b ≡ false
not_digit b h = grind (arith, nat_tests)

not_x : (b : ℕ) → continues_literal b ≡ false → eqb letter_x b ≡ false
not_x b h = grind (arith, nat_tests)

pub begins_without_digit : (rest : List ℕ) → BeginsWithout continues_literal rest → BeginsWithout is_ascii_digit rest
begins_without_digit rest h = begins_narrower continues_literal is_ascii_digit not_digit rest h

digit_not_x : (b : ℕ) → is_ascii_digit b ≡ true → eqb letter_x b ≡ false
digit_not_x b h = grind (arith, nat_tests)

digit_not_n : (b : ℕ) → is_ascii_digit b ≡ true → eqb capital_n b ≡ false
digit_not_n b h = grind (arith, nat_tests)

digit_not_minus : (b : ℕ) → is_ascii_digit b ≡ true → eqb minus b ≡ false
digit_not_minus b h = grind (arith, nat_tests)

-- no `0x` if the second byte is another
not_hexadecimal : (a b : ℕ) (text : List ℕ) → eqb letter_x b ≡ false → read_hexadecimal (a ∷ b ∷ text) ≡ None
not_hexadecimal a b text h =
    let digits_of : Option (List ℕ) → Option (Content × List ℕ) = option_and_then (λ digits. if_any (read_pairs digits)) in
    cond_both (eqb digit_zero a) _ _ (λ o. digits_of o ≡ None) (λ _. ap digits_of (cond-false (eqb letter_x b) _ _ h)) (λ _. refl)

digits_not_hexadecimal : (ds rest : List ℕ) → list_all is_ascii_digit ds ≡ true → 0 < length ds
    → BeginsWithout continues_literal rest → read_hexadecimal (ds ++ rest) ≡ None
digits_not_hexadecimal [] rest d nonempty h = absurd (omega arith)
digits_not_hexadecimal (c ∷ []) [] d nonempty h =
    cond_both (eqb digit_zero c) _ _ (λ o. option_and_then (λ digits. if_any (read_pairs digits)) o ≡ None) (λ _. refl) (λ _. refl)
digits_not_hexadecimal (c ∷ []) (r ∷ rest) d nonempty h = not_hexadecimal c r rest (not_x r h)
digits_not_hexadecimal (c ∷ e ∷ ds) rest d nonempty h =
    let digits = (and_parts (is_ascii_digit c) (list_all is_ascii_digit (e ∷ ds)) d).1 in
    not_hexadecimal c e (ds ++ rest) (digit_not_x e (and_parts (is_ascii_digit e) (list_all is_ascii_digit ds) digits).0)

digits_not_null : (ds rest : List ℕ) → list_all is_ascii_digit ds ≡ true → 0 < length ds → read_null (ds ++ rest) ≡ None
digits_not_null [] rest d nonempty = absurd (omega arith)
digits_not_null (c ∷ ds) rest d nonempty =
    let digit = (and_parts (is_ascii_digit c) (list_all is_ascii_digit ds) d).0 in
    ap (option_map _) (cond-false (eqb capital_n c) _ _ (digit_not_n c digit))

digits_not_negative : (ds rest : List ℕ) → list_all is_ascii_digit ds ≡ true → 0 < length ds → read_negative (ds ++ rest) ≡ None
digits_not_negative [] rest d nonempty = absurd (omega arith)
digits_not_negative (c ∷ ds) rest d nonempty =
    let digit = (and_parts (is_ascii_digit c) (list_all is_ascii_digit ds) d).0 in
    ap (option_and_then _) (cond-false (eqb minus c) _ _ (digit_not_minus c digit))

-- a text that reads as a number without a sign, and as nothing before that
read_literal-positive : (mode : Bool) (text rest : List ℕ) (n : ℕ) → read_null text ≡ None → read_hexadecimal text ≡ None
    → read_negative text ≡ None → read_natural text ≡ Some (n, rest)
    → read_literal mode text ≡ Some (number (pos n), rest)
read_literal-positive mode text rest n no_null no_hexadecimal no_sign natural =
    rw (no_null, no_hexadecimal, no_sign, natural) refl

pub decimal_reads : (mode : Bool) (n : ℕ) → n < 2 ^ 64 → ReadsBefore continues_literal mode (decimal n) (number (pos n))
decimal_reads mode n h rest b =
    let digits = all_digits-decimal n h in
    let nonempty = decimal_nonempty n h in
    read_literal-positive mode (decimal n ++ rest) rest n (digits_not_null (decimal n) rest digits nonempty)
    (digits_not_hexadecimal (decimal n) rest digits nonempty b) (digits_not_negative (decimal n) rest digits nonempty)
    (read_natural-decimal n rest h (begins_without_digit rest b))

negative_reads : (mode : Bool) (n : ℕ) → suc n < 2 ^ 64
    → ReadsBefore continues_literal mode (minus ∷ decimal (suc n)) (number (negsuc n))
negative_reads mode n h rest b =
    ap (λ read. option_or (option_map (λ r. (number (neg_ℤ (pos r.0)), r.1)) read)
    (option_or (read_unsigned (minus ∷ (decimal (suc n) ++ rest))) (read_string mode (minus ∷ (decimal (suc n) ++ rest)))))
    (read_natural-decimal (suc n) rest h (begins_without_digit rest b))

pub signed_reads : (mode : Bool) (z : ℤ) → mag z < 2 ^ 63 → ReadsBefore continues_literal mode (signed_decimal z) (number z)
signed_reads mode (pos n) h = decimal_reads mode n (omega arith)
signed_reads mode (negsuc n) h = negative_reads mode n (omega arith)
