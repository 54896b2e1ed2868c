-- The texts that literals are made of have no byte 0 and no newline, whatever numbers and bytes they say.
use Rattle.std.specs.Prelude.{Bool, ℤ, pos, negsuc, codes, nat_lt, if◌then◌else◌}
use Rattle.std.proofs.Common.{◌≡◌, ◌++◌, ◌==◌, ◌+◌, ◌*◌, ◌-◌, ◌/◌, ◌%◌, ℕ, zero, suc, true, false, List, [], ◌∷◌, length, replicate, refl, ◌∙◌, arith}
use Rattle.std.specs.Fmt.{decimal, digit_glyph, digits, digits_onto, signed_decimal}
use Rattle.std.specs.List.{list_all}
use Rattle.std.specs.Str.{byte, is_utf8}
use Rattle.std.proofs.lemmas.Bool.{and_from, and_parts, cond_both}
use Rattle.std.proofs.lemmas.Bool.Decides.{nat_tests}
use Rattle.std.proofs.lemmas.List.Folds.{list_all-append}
use Rattle.mysql_sql_text.specs.InLine.{is_in_line}
use Rattle.mysql_sql_text.specs.LiteralText.{after_hours, bytes_literal, control_z, date_text, day_text, escaped, escaped_byte, fraction, hexadecimal, hexadecimal_digit, is_midnight, padded, quoted, time_text}

-- a record, so that its argument is found where it is cited
pub record StandsInLine (text : List ℕ) : Type 0 where
  pub all : list_all is_in_line text ≡ true

pub both_in_line : {front back : List ℕ} → StandsInLine front → StandsInLine back → StandsInLine (front ++ back)
both_in_line {front} {back} f b = record { all = list_all-append is_in_line front back ∙ and_from _ _ f.all b.all }

byte_in_line : (b : ℕ) → is_in_line b ≡ true → StandsInLine (b ∷ [])
byte_in_line b h = record { all = and_from _ _ h refl }

quote_in_line : StandsInLine (codes "'")
quote_in_line = byte_in_line (byte "'") refl

pub quoted_in_line : {text : List ℕ} → StandsInLine text → StandsInLine (quoted text)
quoted_in_line h = both_in_line (both_in_line quote_in_line h) quote_in_line

-- ---- numbers

from_zero : (d : ℕ) → is_in_line (48 + d) ≡ true
from_zero d = grind (arith, nat_tests)

from_a : (d : ℕ) → is_in_line (87 + d) ≡ true
from_a d = grind (arith, nat_tests)

glyph_in_line : (d : ℕ) → is_in_line (digit_glyph false d) ≡ true
glyph_in_line d = cond_both (nat_lt d 10) _ _ (λ b. is_in_line b ≡ true) (λ e. from_zero d) (λ e. from_a d)

digits_in_line : (k n : ℕ) (acc : List ℕ) → list_all is_in_line acc ≡ true → list_all is_in_line (digits_onto k 10 false n acc) ≡ true
digits_in_line zero n acc h = h
digits_in_line (suc k) n acc h =
    let more : list_all is_in_line (digit_glyph false (n % 10) ∷ acc) ≡ true = and_from _ _ (glyph_in_line (n % 10)) h in
    cond_both (n / 10 == 0) _ _ (λ bytes. list_all is_in_line bytes ≡ true) (λ e. more) (λ e. digits_in_line k (n / 10) (digit_glyph false (n % 10) ∷ acc) more)

pub decimal_in_line : (n : ℕ) → StandsInLine (decimal n)
unfolding digits
decimal_in_line n = record { all = digits_in_line 64 n [] refl }

pub signed_in_line : (z : ℤ) → StandsInLine (signed_decimal z)
signed_in_line (pos n) = decimal_in_line n
signed_in_line (negsuc n) = both_in_line (byte_in_line (byte "-") refl) (decimal_in_line (suc n))

zeros_in_line : (n : ℕ) → StandsInLine (replicate n (byte "0"))
zeros_in_line zero = record { all = refl }
zeros_in_line (suc n) = both_in_line (byte_in_line (byte "0") refl) (zeros_in_line n)

padded_in_line : (width n : ℕ) → StandsInLine (padded width n)
padded_in_line width n = both_in_line (zeros_in_line (width - length (decimal n))) (decimal_in_line n)

-- ---- dates and times

fraction_in_line : (n : ℕ) → StandsInLine (fraction n)
fraction_in_line n =
    cond_both (n == 0) _ _ StandsInLine (λ e. record { all = refl }) (λ e. both_in_line (byte_in_line (byte ".") refl) (padded_in_line 6 n))

after_hours_in_line : (minutes seconds microseconds : ℕ) → StandsInLine (after_hours minutes seconds microseconds)
after_hours_in_line minutes seconds microseconds =
    let colon = byte_in_line (byte ":") refl in
    both_in_line (both_in_line (both_in_line (both_in_line colon (padded_in_line 2 minutes)) colon) (padded_in_line 2 seconds)) (fraction_in_line microseconds)

day_in_line : (year month day : ℕ) → StandsInLine (day_text year month day)
day_in_line year month day =
    let dash = byte_in_line (byte "-") refl in
    both_in_line (both_in_line (both_in_line (both_in_line (padded_in_line 4 year) dash) (padded_in_line 2 month)) dash) (padded_in_line 2 day)

pub date_in_line : (year month day hour minute second microseconds : ℕ) → StandsInLine (date_text year month day hour minute second microseconds)
date_in_line year month day hour minute second microseconds =
    cond_both (is_midnight hour minute second microseconds) _ _ StandsInLine
    (λ e. day_in_line year month day)
    (λ e. both_in_line (both_in_line (both_in_line (day_in_line year month day) (byte_in_line (byte " ") refl)) (padded_in_line 2 hour))
    (after_hours_in_line minute second microseconds))

sign_in_line : (negative : Bool) → StandsInLine (if negative then codes "-" else [])
sign_in_line true = byte_in_line (byte "-") refl
sign_in_line false = record { all = refl }

pub time_in_line : (negative : Bool) (days hours minutes seconds microseconds : ℕ) → StandsInLine (time_text negative days hours minutes seconds microseconds)
time_in_line negative days hours minutes seconds microseconds =
    both_in_line (both_in_line (sign_in_line negative) (padded_in_line 3 (days * 24 + hours))) (after_hours_in_line minutes seconds microseconds)

-- ---- bytes

from_letter_a : (d : ℕ) → is_in_line (byte "A" + d) ≡ true
from_letter_a d = grind (arith, nat_tests)

hexadecimal_digit_in_line : (n : ℕ) → is_in_line (hexadecimal_digit n) ≡ true
hexadecimal_digit_in_line n = cond_both (nat_lt n 10) _ _ (λ b. is_in_line b ≡ true) (λ e. from_zero n) (λ e. from_letter_a (n - 10))

pub hexadecimal_in_line : (bytes : List ℕ) → StandsInLine (hexadecimal bytes)
hexadecimal_in_line [] = record { all = refl }
hexadecimal_in_line (b ∷ bytes) =
    both_in_line (both_in_line (byte_in_line _ (hexadecimal_digit_in_line (b / 16))) (byte_in_line _ (hexadecimal_digit_in_line (b % 16)))) (hexadecimal_in_line bytes)

pub pairs_in_line : (bytes : List ℕ) → StandsInLine (codes "0x" ++ hexadecimal bytes)
pairs_in_line bytes = both_in_line (both_in_line (byte_in_line (byte "0") refl) (byte_in_line (byte "x") refl)) (hexadecimal_in_line bytes)

other_in_line : (b : ℕ) → (b == 0) ≡ false → (b == byte "\n") ≡ false → StandsInLine (b ∷ [])
other_in_line b no_zero no_newline = record { all = rw (no_zero, no_newline) refl }

two_in_line : {a b : ℕ} → list_all is_in_line (a ∷ b ∷ []) ≡ true → StandsInLine (a ∷ b ∷ [])
two_in_line h = record { all = h }

-- with backslash escapes the two bytes are escaped
escaped_byte_in_line : (b : ℕ) → StandsInLine (escaped_byte false b)
escaped_byte_in_line b =
    cond_both (b == 0) _ _ StandsInLine (λ e. two_in_line refl) (λ no_zero.
    cond_both (b == byte "\n") _ _ StandsInLine (λ e. two_in_line refl) (λ no_newline.
    cond_both (b == byte "\r") _ _ StandsInLine (λ e. two_in_line refl) (λ e.
    cond_both (b == control_z) _ _ StandsInLine (λ e. two_in_line refl) (λ e.
    cond_both (b == byte "\\") _ _ StandsInLine (λ e. two_in_line refl) (λ e.
    cond_both (b == byte "'") _ _ StandsInLine (λ e. two_in_line refl) (λ e.
    cond_both (b == byte "\"") _ _ StandsInLine (λ e. two_in_line refl) (λ e. other_in_line b no_zero no_newline)))))))

escaped_in_line : (bytes : List ℕ) → StandsInLine (escaped false bytes)
escaped_in_line [] = record { all = refl }
escaped_in_line (b ∷ bytes) = both_in_line (escaped_byte_in_line b) (escaped_in_line bytes)

pub bytes_in_line : (bytes : List ℕ) → StandsInLine (bytes_literal false bytes)
bytes_in_line bytes =
    cond_both (is_utf8 bytes) _ _ StandsInLine (λ e. quoted_in_line (escaped_in_line bytes)) (λ e. pairs_in_line bytes)

-- without them only quotes change
pub doubled_in_line : (bytes : List ℕ) → list_all is_in_line bytes ≡ true → StandsInLine (escaped true bytes)
doubled_in_line [] h = record { all = refl }
doubled_in_line (b ∷ bytes) h =
    let p = and_parts (is_in_line b) (list_all is_in_line bytes) h in
    both_in_line (cond_both (b == byte "'") _ _ StandsInLine (λ e. two_in_line refl) (λ e. byte_in_line b p.0)) (doubled_in_line bytes p.1)
