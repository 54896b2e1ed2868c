-- The text between the quotes of a date or a time: digits, space, `-`, `.` and `:`. None of these
-- is escaped, and all are ASCII.
use Rattle.std.proofs.Common.{◌≡◌, ℕ, ◌+◌, ◌-◌, ◌*◌, ◌^◌, ◌<◌, Bool, true, false, ◌||◌, eqb, List, [], ◌∷◌, ◌++◌, length, refl, ◌∙◌, ap, arith, suc, zero}
use Rattle.std.specs.Prelude.{replicate, codes, if◌then◌else◌}
use Rattle.std.specs.Char.{is_ascii_digit}
use Rattle.std.specs.List.{list_all}
use Rattle.std.specs.Fmt.{decimal}
use Rattle.std.specs.Str.{IsAscii}
use Rattle.std.proofs.lemmas.Bool.{cond_both, and_parts, and_from}
use Rattle.std.proofs.lemmas.Bool.Decides.{nat_tests}
use Rattle.std.proofs.lemmas.List.Folds.{list_all-append}
use Rattle.std.proofs.lemmas.Str.Ascii.{IsAscii-cons, IsAscii-nil}
use Rattle.mysql_sql_text.specs.LiteralText.{escaped_byte, escaped, padded, fraction, after_hours, day_text, is_midnight, date_text, time_text}
use Rattle.mysql_sql_text.proofs.ReadNaturalLemmas.{all_digits-decimal}
use Rattle.mysql_sql_text.proofs.ByteNames.{space, minus, point, digit_zero, colon}

abbrev pub is_clock_byte : ℕ → Bool
is_clock_byte b = is_ascii_digit b || (eqb b space || (eqb b minus || (eqb b point || eqb b colon)))

-- a record, so that its argument is found where it is cited
pub record IsClockText (text : List ℕ) : Type 0 where
  pub all : list_all is_clock_byte text ≡ true

IsClockText-nil : IsClockText []
IsClockText-nil = record { all = refl }

IsClockText-append : {front back : List ℕ} → IsClockText front → IsClockText back → IsClockText (front ++ back)
IsClockText-append {front} {back} f b =
    record { all = list_all-append is_clock_byte front back ∙ and_from _ _ f.all b.all }

-- one byte
IsClockText-byte : (b : ℕ) → is_clock_byte b ≡ true → IsClockText (b ∷ [])
IsClockText-byte b h = record { all = and_from _ _ h refl }

-- one byte more in front
IsClockText-cons : (b : ℕ) {text : List ℕ} → is_clock_byte b ≡ true → IsClockText text → IsClockText (b ∷ text)
IsClockText-cons b h t = record { all = and_from _ _ h t.all }

is_clock_byte-digit : (b : ℕ) → is_ascii_digit b ≡ true → is_clock_byte b ≡ true
is_clock_byte-digit b h = grind (arith, nat_tests)

IsClockText-digits : (ds : List ℕ) → list_all is_ascii_digit ds ≡ true → IsClockText ds
IsClockText-digits [] h = IsClockText-nil
IsClockText-digits (d ∷ ds) h =
    let parts = and_parts (is_ascii_digit d) (list_all is_ascii_digit ds) h in
    IsClockText-cons d (is_clock_byte-digit d parts.0) (IsClockText-digits ds parts.1)

IsClockText-zeros : (n : ℕ) → IsClockText (replicate n digit_zero)
IsClockText-zeros zero = IsClockText-nil
IsClockText-zeros (suc n) = IsClockText-cons digit_zero refl (IsClockText-zeros n)

IsClockText-padded : (width n : ℕ) → n < 2 ^ 64 → IsClockText (padded width n)
IsClockText-padded width n h = IsClockText-append (IsClockText-zeros (width - length (decimal n))) (IsClockText-digits (decimal n) (all_digits-decimal n h))

IsClockText-fraction : (micros : ℕ) → micros < 2 ^ 64 → IsClockText (fraction micros)
IsClockText-fraction micros h =
    cond_both (eqb micros 0) _ _ IsClockText (λ _. IsClockText-nil) (λ _. IsClockText-cons point refl (IsClockText-padded 6 micros h))

IsClockText-after_hours : (minutes seconds micros : ℕ) → minutes < 2 ^ 64 → seconds < 2 ^ 64 → micros < 2 ^ 64
    → IsClockText (after_hours minutes seconds micros)
IsClockText-after_hours minutes seconds micros m s u =
    let one = IsClockText-byte colon refl in
    IsClockText-append (IsClockText-append (IsClockText-append (IsClockText-append one (IsClockText-padded 2 minutes m)) one) (IsClockText-padded 2 seconds s))
    (IsClockText-fraction micros u)

IsClockText-day_text : (year month day : ℕ) → year < 2 ^ 64 → month < 2 ^ 64 → day < 2 ^ 64
    → IsClockText (day_text year month day)
IsClockText-day_text year month day y m d =
    let dash = IsClockText-byte minus refl in
    IsClockText-append (IsClockText-append (IsClockText-append (IsClockText-append (IsClockText-padded 4 year y) dash) (IsClockText-padded 2 month m)) dash)
    (IsClockText-padded 2 day d)

pub IsClockText-date_text : (year month day hour minute second micros : ℕ) → year < 2 ^ 64 → month < 2 ^ 64
    → day < 2 ^ 64 → hour < 2 ^ 64 → minute < 2 ^ 64 → second < 2 ^ 64 → micros < 2 ^ 64
    → IsClockText (date_text year month day hour minute second micros)
IsClockText-date_text year month day hour minute second micros y m d h i s u =
    cond_both (is_midnight hour minute second micros) _ _ IsClockText
    (λ _. IsClockText-day_text year month day y m d)
    (λ _. IsClockText-append (IsClockText-append (IsClockText-append (IsClockText-day_text year month day y m d) (IsClockText-byte space refl)) (IsClockText-padded 2 hour h))
    (IsClockText-after_hours minute second micros i s u))

pub IsClockText-time_text : (negative : Bool) (days hours minutes seconds micros : ℕ) → days * 24 + hours < 2 ^ 64
    → minutes < 2 ^ 64 → seconds < 2 ^ 64 → micros < 2 ^ 64
    → IsClockText (time_text negative days hours minutes seconds micros)
IsClockText-time_text negative days hours minutes seconds micros h m s u =
    IsClockText-append (IsClockText-append (sign negative) (IsClockText-padded 3 (days * 24 + hours) h))
    (IsClockText-after_hours minutes seconds micros m s u)
  where
    sign : (b : Bool) → IsClockText (if b then codes "-" else [])
    sign true = IsClockText-byte minus refl
    sign false = IsClockText-nil

escaped_byte-clock : (mode : Bool) (b : ℕ) → is_clock_byte b ≡ true → escaped_byte mode b ≡ b ∷ []
escaped_byte-clock true b h = grind (arith, nat_tests)
escaped_byte-clock false b h = grind (arith, nat_tests)

escaped-clock_bytes : (mode : Bool) (text : List ℕ) → list_all is_clock_byte text ≡ true → escaped mode text ≡ text
escaped-clock_bytes mode [] h = refl
escaped-clock_bytes mode (b ∷ text) h =
    let parts = and_parts (is_clock_byte b) (list_all is_clock_byte text) h in
    ap (λ t. t ++ escaped mode text) (escaped_byte-clock mode b parts.0) ∙ ap (λ t. b ∷ t) (escaped-clock_bytes mode text parts.1)

pub escaped-clock : (mode : Bool) (text : List ℕ) → IsClockText text → escaped mode text ≡ text
escaped-clock mode text h = escaped-clock_bytes mode text h.all

clock_byte_ascii : (b : ℕ) → is_clock_byte b ≡ true → b < 128
clock_byte_ascii b h = grind (arith, nat_tests)

IsAscii-clock_bytes : (text : List ℕ) → list_all is_clock_byte text ≡ true → IsAscii text
IsAscii-clock_bytes [] h = IsAscii-nil
IsAscii-clock_bytes (b ∷ text) h =
    let parts = and_parts (is_clock_byte b) (list_all is_clock_byte text) h in
    IsAscii-cons b text (clock_byte_ascii b parts.0) (IsAscii-clock_bytes text parts.1)

pub IsAscii-clock : (text : List ℕ) → IsClockText text → IsAscii text
IsAscii-clock text h = IsAscii-clock_bytes text h.all
