-- Each value reads back from its binary form, before any bytes.
use Rattle.std.proofs.Common.{◌≡◌, ℕ, ◌^◌, ◌<◌, Bool, true, false, ◌==◌, ◌&&◌, List, [], ◌∷◌, ◌++◌, length, leb, refl, sym, ◌∙◌, ap, arith}
use Rattle.std.specs.Prelude.{Ok, ℤ, FitsSigned}
use Rattle.std.specs.Int.{w64, cast_unsigned}
use Rattle.std.proofs.lemmas.Int.{ints}
use Rattle.std.proofs.lemmas.Bool.{cond_both, cond-true, cond-false, eqb-true, and_parts, le-leb}
use Rattle.std.proofs.lemmas.Bool.Decides.{nat_tests}
use Rattle.byteorder.specs.Endian.{little_bytes, twos_complement}
use Rattle.byteorder.specs.Numbers.{little_number-reads_back}
use Rattle.mysql_wire_part.specs.Reading.{read_bytes, read_number, map_read, and_then_read}
use Rattle.mysql_wire_part.proofs.ReadingLemmas.{read_bytes-append, read_number-little_bytes}
use Rattle.mysql_wire_part.proofs.LenencLemmas.{lenenc_reads_back}
use Rattle.mysql_value_core.specs.Value.{FieldsInRange}
use Rattle.mysql_value_core.specs.declared.value.Value.{Value}
use Rattle.mysql_value_core.specs.declared.value.Value.TheVariants.{NULL, Bytes, Int, UInt, Float, Double, Date, Time}
use Rattle.mysql_value_core.specs.BinaryForm.{day_bytes, date_form, sign_byte, time_form}
use Rattle.mysql_value_core.specs.BinaryReading.{integer_value, date_value, time_value, read_counted, read_date, read_time}
use Rattle.mysql_value_core.specs.BinaryReadBack.{value_read_back, ReadsBackInBinary}

-- a signed number reads back from its lowest eight bytes
twos_complement-cast_unsigned : (number : ℤ) → FitsSigned w64 number
    → twos_complement 8 (cast_unsigned w64 number) ≡ number
twos_complement-cast_unsigned number fits = grind (arith, ints, nat_tests)

cast_unsigned_fits : (number : ℤ) → FitsSigned w64 number → cast_unsigned w64 number < 256 ^ 8
cast_unsigned_fits number fits = omega (arith, ints)

-- a length byte and that many bytes read back
read_counted-append : (count : ℕ) (fields rest : List ℕ) → length fields ≡ count
    → read_counted (count ∷ (fields ++ rest)) ≡ Ok (fields, rest)
read_counted-append count fields rest same =
    let text = fields ++ rest in
    let first : read_number 1 (count ∷ text) ≡ Ok (count, text) =
    cond-true (leb 1 (length (count ∷ text))) _ _ (le-leb 1 _ (omega arith))
    ∙ ap (λ n. Ok (n, text)) (omega arith) in
    ap (λ read. and_then_read read read_bytes) first ∙ read_bytes-append count fields rest same

same_date : (y m d h i s u y' m' d' h' i' s' u' : ℕ) → y ≡ y' → m ≡ m' → d ≡ d' → h ≡ h' → i ≡ i'
    → s ≡ s' → u ≡ u' → Date y m d h i s u ≡ Date y' m' d' h' i' s' u'
same_date y m d h i s u y' m' d' h' i' s' u' a b c e f g j = cc

same_time : (n n' : Bool) (d h m s u d' u' : ℕ) → n ≡ n' → d ≡ d' → u ≡ u'
    → Time n d h m s u ≡ Time n' d' h m s u'
same_time n n' d h m s u d' u' a b e = cc

-- a number that passes the test for 0 is 0
zero_of : (n : ℕ) → (n == 0) ≡ true → 0 ≡ n
zero_of n is_zero = sym (eqb-true n 0 is_zero)

read_date-date_form : (y m d h i s u : ℕ) (rest : List ℕ) → y < 2 ^ 16 → u < 2 ^ 32
    → read_date (date_form y m d h i s u ++ rest) ≡ Ok (Date y m d h i s u, rest)
read_date-date_form y m d h i s u rest year_fits microseconds_fit =
    let day = y == 0 && m == 0 && d == 0 in
    let clock = h == 0 && i == 0 && s == 0 in
    let Reads : List ℕ → Type 0 =
    λ form. read_date (form ++ rest) ≡ Ok (Date y m d h i s u, rest) in
    let year = little_number-reads_back 2 y [] year_fits in
    let microseconds = little_number-reads_back 4 u [] microseconds_fit in
    cond_both (day && (clock && u == 0)) _ _ Reads (λ zeros.
    let parts = and_parts day (clock && u == 0) zeros in
    let days = and_parts (y == 0 && m == 0) (d == 0) parts.0 in
    let months = and_parts (y == 0) (m == 0) days.0 in
    let rests = and_parts clock (u == 0) parts.1 in
    let seconds = and_parts (h == 0 && i == 0) (s == 0) rests.0 in
    let minutes = and_parts (h == 0) (i == 0) seconds.0 in
    ap (map_read date_value) (read_counted-append 0 [] rest refl)
    ∙ ap (λ value. Ok (value, rest)) (same_date 0 0 0 0 0 0 0 y m d h i s u
    (zero_of y months.0) (zero_of m months.1) (zero_of d days.1)
    (zero_of h minutes.0) (zero_of i minutes.1) (zero_of s seconds.1) (zero_of u rests.1)))
    (λ _. cond_both (clock && u == 0) _ _ Reads (λ zeros.
    let rests = and_parts clock (u == 0) zeros in
    let seconds = and_parts (h == 0 && i == 0) (s == 0) rests.0 in
    let minutes = and_parts (h == 0) (i == 0) seconds.0 in
    ap (map_read date_value) (read_counted-append 4 (day_bytes y m d) rest refl)
    ∙ ap (λ value. Ok (value, rest)) (same_date _ m d 0 0 0 0 y m d h i s u
    year refl refl
    (zero_of h minutes.0) (zero_of i minutes.1) (zero_of s seconds.1) (zero_of u rests.1)))
    (λ _. cond_both (u == 0) _ _ Reads (λ no_microseconds.
    ap (map_read date_value)
    (read_counted-append 7 (day_bytes y m d ++ h ∷ i ∷ s ∷ []) rest refl)
    ∙ ap (λ value. Ok (value, rest)) (same_date _ m d h i s 0 y m d h i s u
    year refl refl refl refl refl (zero_of u no_microseconds)))
    (λ _.
    ap (map_read date_value)
    (read_counted-append 11 (day_bytes y m d ++ h ∷ i ∷ s ∷ little_bytes 4 u) rest refl)
    ∙ ap (λ value. Ok (value, rest)) (same_date _ m d h i s _ y m d h i s u
    year refl refl refl refl refl microseconds))))

sign_byte-test : (negative : Bool) → (sign_byte negative == 1) ≡ negative
sign_byte-test true = refl
sign_byte-test false = refl

read_time-time_form : (n : Bool) (d h m s u : ℕ) (rest : List ℕ) → d < 2 ^ 32 → u < 2 ^ 32
    → read_time (time_form n d h m s u ++ rest) ≡ Ok (value_read_back (Time n d h m s u), rest)
read_time-time_form n d h m s u rest days_fit microseconds_fit =
    let all_zero = d == 0 && h == 0 && m == 0 && s == 0 && u == 0 in
    let Reads : List ℕ → Type 0 =
    λ form. read_time (form ++ rest) ≡ Ok (value_read_back (Time n d h m s u), rest) in
    let days = little_number-reads_back 4 d [] days_fit in
    let microseconds = little_number-reads_back 4 u [] microseconds_fit in
    let whole = sign_byte n ∷ (little_bytes 4 d ++ h ∷ m ∷ s ∷ []) in
    cond_both all_zero _ _ Reads (λ zeros.
    ap (map_read time_value) (read_counted-append 0 [] rest refl)
    ∙ ap (λ value. Ok (value, rest)) (sym (cond-true all_zero _ _ zeros)))
    (λ no_zeros. cond_both (u == 0) _ _ Reads (λ no_microseconds.
    ap (map_read time_value) (read_counted-append 8 whole rest refl)
    ∙ ap (λ value. Ok (value, rest)) (same_time _ n _ h m s 0 d u
    (sign_byte-test n) days (zero_of u no_microseconds) ∙ sym (cond-false all_zero _ _ no_zeros)))
    (λ _.
    ap (map_read time_value)
    (read_counted-append 12 (whole ++ little_bytes 4 u) rest refl)
    ∙ ap (λ value. Ok (value, rest)) (same_time _ n _ h m s _ d u
    (sign_byte-test n) days microseconds ∙ sym (cond-false all_zero _ _ no_zeros))))

pub reads_back_in_binary : (value : Value) → FieldsInRange value → ReadsBackInBinary value
reads_back_in_binary NULL fits rest = refl
reads_back_in_binary (Bytes bytes) fits rest =
    ap (map_read Bytes) (lenenc_reads_back bytes (omega (arith, fits.0)) rest)
reads_back_in_binary (Int number) fits rest =
    ap (map_read (integer_value 8 false))
    (read_number-little_bytes 8 (cast_unsigned w64 number) rest (cast_unsigned_fits number fits))
    ∙ ap (λ n. Ok (Int n, rest)) (twos_complement-cast_unsigned number fits)
reads_back_in_binary (UInt number) fits rest =
    ap (map_read (integer_value 8 true)) (read_number-little_bytes 8 number rest fits)
reads_back_in_binary (Float bits) fits rest =
    ap (map_read Float) (read_number-little_bytes 4 bits rest fits)
reads_back_in_binary (Double bits) fits rest =
    ap (map_read Double) (read_number-little_bytes 8 bits rest fits)
reads_back_in_binary (Date y m d h i s u) fits rest =
    read_date-date_form y m d h i s u rest fits.0 fits.6
reads_back_in_binary (Time n d h m s u) fits rest =
    read_time-time_form n d h m s u rest fits.0 fits.4
