-- The text between the quotes of a time is a time text with the microseconds of the time.
use Rattle.std.proofs.Common.{◌≡◌, ℕ, ◌+◌, ◌*◌, ◌/◌, ◌%◌, ◌^◌, ◌<◌, ◌≤◌, true, false, eqb, List, [], ◌∷◌, ◌++◌, length, length-append, append_assoc, refl, sym, ◌∙◌, ap, arith, suc, zero}
use Rattle.std.specs.Prelude.{Some, nat_lt}
use Rattle.std.specs.List.{list_all}
use Rattle.std.specs.Char.{is_ascii_digit, digit_value}
use Rattle.std.specs.Option.{option_map}
use Rattle.std.specs.Str.Parse.{digits_value}
use Rattle.std.proofs.lemmas.Bool.{cond_both, eqb-true, le-leb, lt-ltb}
use Rattle.std.proofs.lemmas.Bool.Decides.{nat_tests}
use Rattle.std.proofs.lemmas.Fmt.{length-decimal-le}
use Rattle.std.proofs.lemmas.Int.Digits.{digits_value_push}
use Rattle.std.proofs.lemmas.List.Folds.{list_all-append}
use Rattle.std.proofs.Math.Nat.{pow-succ'}
use Rattle.mysql_sql_text.specs.Digits.{value_of_digits}
use Rattle.mysql_sql_text.specs.LiteralText.{padded, fraction, time_text}
use Rattle.mysql_sql_text.specs.TimeText.{total_microseconds}
use Rattle.mysql_sql_text.specs.ReadTimeText.{at_most, fraction_of, sum_of_fields, time_after_hours, time_of_text}
use Rattle.mysql_sql_text.proofs.PaddedLemmas.{last_digits, last_digits-padded}
use Rattle.mysql_sql_text.proofs.ByteNames.{digit_zero, colon, minus, point}

-- as many digits of a number as the width says, from the last

digit_is_ascii : (d : ℕ) → d < 10 → is_ascii_digit (digit_zero + d) ≡ true
digit_is_ascii d h = grind (arith, nat_tests)

digit_value-digit : (d : ℕ) → d < 10 → digit_value (digit_zero + d) ≡ d
digit_value-digit d h = grind (arith, nat_tests)

are_digits-last_digits : (width n : ℕ) → list_all is_ascii_digit (last_digits width n) ≡ true
are_digits-last_digits zero n = refl
are_digits-last_digits (suc width) n =
    rw (list_all-append is_ascii_digit (last_digits width (n / 10)) ((digit_zero + n % 10) ∷ []), are_digits-last_digits width (n / 10), digit_is_ascii (n % 10) (omega arith)) refl

length-last_digits : (width n : ℕ) → length (last_digits width n) ≡ width
length-last_digits zero n = refl
length-last_digits (suc width) n =
    omega (arith, length-append (last_digits width (n / 10)) ((digit_zero + n % 10) ∷ []), length-last_digits width (n / 10))

digits_value-last_digits : (width n : ℕ) → n < 10 ^ width → digits_value 10 (last_digits width n) ≡ n
digits_value-last_digits zero n h = omega arith
digits_value-last_digits (suc width) n h =
    omega (
      arith,
      digits_value_push 10 (last_digits width (n / 10)) (digit_zero + n % 10),
      digit_value-digit (n % 10) (omega arith),
      digits_value-last_digits width (n / 10) (omega (arith, pow-succ' 10 width)),
    )

number-last_digits : (width n : ℕ) → 0 < width → n < 10 ^ width → value_of_digits (last_digits width n) ≡ Some n
number-last_digits width n nonempty h =
    let test : nat_lt 0 width ≡ true = lt-ltb 0 width nonempty in
    rw (length-last_digits width n, are_digits-last_digits width n, digits_value-last_digits width n h, test) refl

padded-last_digits : (width n : ℕ) → 0 < width → n < 10 ^ width → n < 2 ^ 64 → padded width n ≡ last_digits width n
padded-last_digits width n nonempty h small =
    sym (last_digits-padded width n small (length-decimal-le width n nonempty h small))

-- the parts of the text, read

at_most-le : (n greatest : ℕ) → n ≤ greatest → at_most greatest (Some n) ≡ Some n
at_most-le n greatest h = rw (le-leb n greatest h) refl

digit_is_no_colon : (d : ℕ) → d < 10 → eqb (digit_zero + d) colon ≡ false
digit_is_no_colon d h = grind (arith, nat_tests)

fraction_of-fraction : (us : ℕ) → us < 1000000 → fraction_of (fraction us) ≡ Some us
fraction_of-fraction us h =
    cond_both (eqb us 0) [] (point ∷ padded 6 us) (λ t. fraction_of t ≡ Some us)
    (λ e. ap Some (sym (eqb-true us 0 e)))
    (λ e. rw (padded-last_digits 6 us (omega arith) h (omega arith), number-last_digits 6 us (omega arith) h) (ap Some (omega arith)))

time_of_text-three_digits : (a b c : ℕ) (text : List ℕ) → eqb a minus ≡ false → eqb c colon ≡ false
    → time_of_text (a ∷ b ∷ c ∷ colon ∷ text)
    ≡ option_map (λ us. (false, us)) (time_after_hours (at_most 899 (value_of_digits (a ∷ b ∷ c ∷ []))) text)
time_of_text-three_digits a b c text no_minus no_colon = rw (no_minus, no_colon) refl

time_of_text-padded : (hours : ℕ) (text : List ℕ) → hours ≤ 899
    → time_of_text (padded 3 hours ++ colon ∷ text) ≡ option_map (λ us. (false, us)) (time_after_hours (Some hours) text)
time_of_text-padded hours text h =
    let digits : padded 3 hours ≡ (digit_zero + hours / 10 / 10 % 10) ∷ (digit_zero + hours / 10 % 10) ∷ (digit_zero + hours % 10) ∷ [] =
    padded-last_digits 3 hours (omega arith) (omega arith) (omega arith) in
    let number : value_of_digits ((digit_zero + hours / 10 / 10 % 10) ∷ (digit_zero + hours / 10 % 10) ∷ (digit_zero + hours % 10) ∷ []) ≡ Some hours =
    number-last_digits 3 hours (omega arith) (omega arith) in
    ap (λ t. time_of_text (t ++ colon ∷ text)) digits
    ∙ time_of_text-three_digits (digit_zero + hours / 10 / 10 % 10) (digit_zero + hours / 10 % 10) (digit_zero + hours % 10) text (grind (arith, nat_tests)) (digit_is_no_colon (hours % 10) (omega arith))
    ∙ ap (λ o. option_map (λ us. (false, us)) (time_after_hours (at_most 899 o) text)) number
    ∙ ap (λ o. option_map (λ us. (false, us)) (time_after_hours o text)) (at_most-le hours 899 h)

at_most_59-last_digits : (n : ℕ) → n ≤ 59 → at_most 59 (value_of_digits ((digit_zero + n / 10 % 10) ∷ (digit_zero + n % 10) ∷ [])) ≡ Some n
at_most_59-last_digits n h =
    let number : value_of_digits ((digit_zero + n / 10 % 10) ∷ (digit_zero + n % 10) ∷ []) ≡ Some n = number-last_digits 2 n (omega arith) (omega arith) in
    ap (at_most 59) number ∙ at_most-le n 59 h

padded-two_digits : (n : ℕ) → n ≤ 59 → padded 2 n ≡ (digit_zero + n / 10 % 10) ∷ (digit_zero + n % 10) ∷ []
padded-two_digits n h = padded-last_digits 2 n (omega arith) (omega arith) (omega arith)

time_after_hours-padded : (hours m s us : ℕ) → m ≤ 59 → s ≤ 59 → us < 1000000
    → time_after_hours (Some hours) (padded 2 m ++ colon ∷ (padded 2 s ++ fraction us)) ≡ Some (total_microseconds 0 hours m s us)
time_after_hours-padded hours m s us mh sh ush =
    ap (λ t. time_after_hours (Some hours) (t ++ colon ∷ (padded 2 s ++ fraction us))) (padded-two_digits m mh)
    ∙ ap (λ t. time_after_hours (Some hours) ((digit_zero + m / 10 % 10) ∷ (digit_zero + m % 10) ∷ colon ∷ (t ++ fraction us))) (padded-two_digits s sh)
    ∙ ap (λ o. sum_of_fields (Some hours) o (at_most 59 (value_of_digits ((digit_zero + s / 10 % 10) ∷ (digit_zero + s % 10) ∷ []))) (fraction_of (fraction us))) (at_most_59-last_digits m mh)
    ∙ ap (λ o. sum_of_fields (Some hours) (Some m) o (fraction_of (fraction us))) (at_most_59-last_digits s sh)
    ∙ ap (λ o. sum_of_fields (Some hours) (Some m) (Some s) o) (fraction_of-fraction us ush)

-- the text between the quotes, part by part
time_text-parts : (days hours minutes seconds us : ℕ)
    → time_text false days hours minutes seconds us
    ≡ padded 3 (days * 24 + hours) ++ colon ∷ (padded 2 minutes ++ colon ∷ (padded 2 seconds ++ fraction us))
time_text-parts days hours minutes seconds us =
    ap (λ t. padded 3 (days * 24 + hours) ++ colon ∷ t)
    (append_assoc (padded 2 minutes ++ colon ∷ []) (padded 2 seconds) (fraction us)
    ∙ append_assoc (padded 2 minutes) (colon ∷ []) (padded 2 seconds ++ fraction us))

pub times_read_back : (days hours minutes seconds us : ℕ) → days * 24 + hours ≤ 899 → minutes ≤ 59 → seconds ≤ 59
    → us < 1000000
    → time_of_text (time_text false days hours minutes seconds us) ≡ Some (false, total_microseconds days hours minutes seconds us)
times_read_back days hours minutes seconds us h mh sh ush =
    let same : total_microseconds 0 (days * 24 + hours) minutes seconds us ≡ total_microseconds days hours minutes seconds us = omega arith in
    ap time_of_text (time_text-parts days hours minutes seconds us)
    ∙ time_of_text-padded (days * 24 + hours) (padded 2 minutes ++ colon ∷ (padded 2 seconds ++ fraction us)) h
    ∙ ap (option_map (λ us. (false, us))) (time_after_hours-padded (days * 24 + hours) minutes seconds us mh sh ush)
    ∙ ap (λ n. Some (false, n)) same
