-- A double before a text that doesn't begin with a digit is read as it is on its own.
use Rattle.std.proofs.Common.{◌≡◌, ℕ, ◌+◌, ◌-◌, ◌<◌, ◌++◌, ◌&&◌, Bool, true, false, cond, eqb, List, [], ◌∷◌, length, get_or, slice_range, Some, refl, sym, ap, ◌∙◌, subst, arith, add-zero, append_assoc, length-append, drop_at, take_at, lt-ltb, ne_eqb, true≢false}
use Rattle.std.proofs.lemmas.Bool.{and_parts}
use Rattle.std.proofs.lemmas.Str.Parse.{digit_from_value}
use Rattle.std.specs.Char.{digit_value, is_ascii_digit}
use Rattle.std.specs.Fmt.{sign_text}
use Rattle.std.specs.List.{list_all}
use Rattle.std.specs.Str.Parse.{AllDigits}
use Rattle.std.specs.Float.Numeral.{digits_len, Parts, digits_end, exponent_start, has_exponent, scan_numeral, nearest_float, IsWellFormed}
use Rattle.std.specs.Float.Parse.{read_float, parse_float}
use Rattle.std.proofs.lemmas.Float.Parse.{parse_float-text_of}
use Rattle.fast_float.proofs.DigitsLemmas.{is_digit, digit_range}
use lib.Ieee.{Float, Format}
use lib.Seq.{get_or-append-add}
use Rattle.mysql_sql_text.specs.LiteralEnd.{BeginsWithout}
use Rattle.mysql_sql_text.specs.LiteralShape.{AreDigits}
use Rattle.mysql_float_literal.specs.DoubleShape.{no_sign, minus_sign, no_fraction, point_and_digits, IsDouble, double_shape}
use Rattle.mysql_sql_text.proofs.DigitLemmas.{digits_all}

-- ---- runs of digits

digits_len-append : (ds rest : List ℕ) → AllDigits 10 ds → digits_len (ds ++ rest) ≡ length ds + digits_len rest
digits_len-append [] rest h = omega arith
digits_len-append (d ∷ ds) rest h = let r = digit_from_value d h.0 in rw ((is_digit d r.0 r.1).0) (omega (arith, digits_len-append ds rest h.1))

module _ (front ds rest : List ℕ) (i : ℕ) (at : length front ≡ i) (digits : AllDigits 10 ds) (ends : digits_len rest ≡ 0) where
  run_end : digits_end (front ++ (ds ++ rest)) i ≡ i + length ds
  run_end = rw (drop_at front _ i at, digits_len-append ds rest digits, ends, add-zero)

  run_is : slice_range (front ++ (ds ++ rest)) i (i + length ds) ≡ ds
  run_is = rw (drop_at front _ i at) (take_at ds rest (i + length ds - i) (omega arith))

byte_after : (front rest : List ℕ) (i k : ℕ) → length front ≡ i → get_or (front ++ rest) (i + k) 0 ≡ get_or rest k 0
byte_after front rest i k e = rw (← e) (get_or-append-add front rest k 0)

byte_at_end : (front rest : List ℕ) (i : ℕ) → length front ≡ i → get_or (front ++ rest) i 0 ≡ get_or rest 0 0
byte_at_end front rest i e = rw add-zero at (byte_after front rest i 0 e)

-- ---- the exponent

abbrev Tail : List ℕ → ℕ → Bool → List ℕ → ℕ → Type 0
Tail bs b negative exponent end =
    ((has_exponent bs b && eqb (get_or bs (b + 1) 0) 45) ≡ negative)
    × (cond (has_exponent bs b) (slice_range bs (exponent_start bs b) (digits_end bs (exponent_start bs b))) [] ≡ exponent)
    × (cond (has_exponent bs b) (digits_end bs (exponent_start bs b)) b ≡ end)

tail_of : (bs : List ℕ) (b c : ℕ) (negative : Bool) (exponent : List ℕ) → has_exponent bs b ≡ true → exponent_start bs b ≡ c → eqb (get_or bs (b + 1) 0) 45 ≡ negative
    → digits_end bs c ≡ c + length exponent → slice_range bs c (c + length exponent) ≡ exponent → Tail bs b negative exponent (c + length exponent)
tail_of bs b c negative exponent has start sign end is = (rw has sign, rw (has, start, end) is, rw (has, start, end))

abbrev exponent_len : Bool → List ℕ → ℕ
exponent_len negative exponent = length (101 ∷ (sign_text negative ++ exponent))

tail : (front : List ℕ) (b : ℕ) (negative : Bool) (d : ℕ) (ds rest : List ℕ) → length front ≡ b → AllDigits 10 (d ∷ ds) → digits_len rest ≡ 0
    → Tail (front ++ 101 ∷ (sign_text negative ++ ((d ∷ ds) ++ rest))) b negative (d ∷ ds) (b + exponent_len negative (d ∷ ds))
tail front b false d ds rest at digits ends =
    let r = digit_from_value d digits.0 in
    let bs = front ++ 101 ∷ ((d ∷ ds) ++ rest) in
    let next : get_or bs (b + 1) 0 ≡ d = byte_after front _ b 1 at in
    let start : exponent_start bs b ≡ b + 1 = rw (next, ne_eqb d 45 (λ e. omega arith), ne_eqb d 43 (λ e. omega arith)) in
    let cut : (front ++ 101 ∷ []) ++ ((d ∷ ds) ++ rest) ≡ bs = rw append_assoc in
    let long : length (front ++ 101 ∷ []) ≡ b + 1 = rw (length-append, at) in
    let end : b + 1 + length (d ∷ ds) ≡ b + exponent_len false (d ∷ ds) = omega arith in
    subst (λ n. Tail bs b false (d ∷ ds) n) end
    (tail_of bs b (b + 1) false (d ∷ ds) (rw (start, next, byte_at_end front _ b at) (is_digit d r.0 r.1).0) start (rw next (ne_eqb d 45 (λ e. omega arith)))
    (rw cut at (run_end _ (d ∷ ds) rest (b + 1) long digits ends)) (rw cut at (run_is _ (d ∷ ds) rest (b + 1) long digits ends)))
tail front b true d ds rest at digits ends =
    let r = digit_from_value d digits.0 in
    let bs = front ++ 101 ∷ 45 ∷ ((d ∷ ds) ++ rest) in
    let next : get_or bs (b + 1) 0 ≡ 45 = byte_after front _ b 1 at in
    let start : exponent_start bs b ≡ b + 2 = rw next in
    let cut : (front ++ 101 ∷ 45 ∷ []) ++ ((d ∷ ds) ++ rest) ≡ bs = rw append_assoc in
    let long : length (front ++ 101 ∷ 45 ∷ []) ≡ b + 2 = rw (length-append, at) in
    let end : b + 2 + length (d ∷ ds) ≡ b + exponent_len true (d ∷ ds) = omega arith in
    subst (λ n. Tail bs b true (d ∷ ds) n) end
    (tail_of bs b (b + 2) true (d ∷ ds) (rw (start, byte_after front _ b 2 at, byte_at_end front _ b at) (is_digit d r.0 r.1).0) start (rw next)
    (rw cut at (run_end _ (d ∷ ds) rest (b + 2) long digits ends)) (rw cut at (run_is _ (d ∷ ds) rest (b + 2) long digits ends)))

-- ---- the number

abbrev parts : List ℕ → Bool → List ℕ → Bool → List ℕ → ℕ → Parts
parts whole point fraction negative exponent len = record { whole = whole; point = point; fraction = fraction; exponent_negative = negative; exponent = exponent; len = len }

scan_is : (bs whole fraction exponent : List ℕ) (point negative : Bool) (a b end : ℕ) → digits_end bs 0 ≡ a → eqb (get_or bs a 0) 46 ≡ point → cond point (digits_end bs (a + 1)) a ≡ b
    → slice_range bs 0 a ≡ whole → cond point (slice_range bs (a + 1) b) [] ≡ fraction → Tail bs b negative exponent end
    → scan_numeral bs ≡ parts whole point fraction negative exponent end
unfolding scan_numeral
scan_is bs whole fraction exponent point negative a b end ea ep eb ew ef t =
    rw (ea, ep, eb) (λ i. record { whole = ew i; point = point; fraction = ef i; exponent_negative = t.0 i; exponent = t.1 i; len = t.2 i })

abbrev body : List ℕ → Bool → List ℕ → Bool → List ℕ → List ℕ → List ℕ
body whole point fraction negative exponent rest = whole ++ (cond point (46 ∷ fraction) [] ++ 101 ∷ (sign_text negative ++ (exponent ++ rest)))

abbrev body_len : List ℕ → Bool → List ℕ → Bool → List ℕ → ℕ
body_len whole point fraction negative exponent = length whole + (length (cond point (46 ∷ fraction) []) + exponent_len negative exponent)

scanned : (whole fraction : List ℕ) (d : ℕ) (ds : List ℕ) (point negative : Bool) (rest : List ℕ) → AllDigits 10 whole → AllDigits 10 fraction → AllDigits 10 (d ∷ ds) → (point ≡ false → fraction ≡ []) → digits_len rest ≡ 0
    → scan_numeral (body whole point fraction negative (d ∷ ds) rest) ≡ parts whole point fraction negative (d ∷ ds) (body_len whole point fraction negative (d ∷ ds))
scanned whole fraction d ds false negative rest w f e none ends =
    let x = 101 ∷ (sign_text negative ++ ((d ∷ ds) ++ rest)) in
    let a = 0 + length whole in
    let at : length whole ≡ a = omega arith in
    let len : a + exponent_len negative (d ∷ ds) ≡ body_len whole false fraction negative (d ∷ ds) = omega arith in
    scan_is _ whole fraction (d ∷ ds) false negative a a _ (run_end [] whole x 0 refl w refl) (rw (byte_at_end whole x a at)) refl (run_is [] whole x 0 refl w refl) (sym (none refl))
    (subst (λ n. Tail (whole ++ x) a negative (d ∷ ds) n) len (tail whole a negative d ds rest at e ends))
scanned whole fraction d ds true negative rest w f e none ends =
    let x = 101 ∷ (sign_text negative ++ ((d ∷ ds) ++ rest)) in
    let a = 0 + length whole in
    let b = a + 1 + length fraction in
    let at : length whole ≡ a = omega arith in
    let cut : (whole ++ 46 ∷ []) ++ (fraction ++ x) ≡ whole ++ 46 ∷ (fraction ++ x) = append_assoc whole (46 ∷ []) _ in
    let long : length (whole ++ 46 ∷ []) ≡ a + 1 = omega (arith, length-append whole (46 ∷ [])) in
    let front : (whole ++ 46 ∷ fraction) ++ x ≡ whole ++ 46 ∷ (fraction ++ x) = append_assoc whole (46 ∷ fraction) x in
    let len : b + exponent_len negative (d ∷ ds) ≡ body_len whole true fraction negative (d ∷ ds) = omega arith in
    scan_is _ whole fraction (d ∷ ds) true negative a b _ (run_end [] whole _ 0 refl w refl) (rw (byte_at_end whole _ a at)) (rw cut at (run_end _ fraction x (a + 1) long f refl))
    (run_is [] whole _ 0 refl w refl) (rw cut at (run_is _ fraction x (a + 1) long f refl))
    (subst (λ n. Tail (whole ++ 46 ∷ (fraction ++ x)) b negative (d ∷ ds) n) len (rw front at (tail (whole ++ 46 ∷ fraction) b negative d ds rest (omega (arith, length-append whole (46 ∷ fraction))) e ends)))

pub first_digit : (ds rest : List ℕ) → AllDigits 10 ds → 0 < length ds → (eqb (get_or (ds ++ rest) 0 0) 45 ≡ false) × (eqb (get_or (ds ++ rest) 0 0) 43 ≡ false)
first_digit [] rest h l = absurd (omega arith)
first_digit (d ∷ ds) rest h l = let r = digit_from_value d h.0 in (ne_eqb d 45 (λ e. omega arith), ne_eqb d 43 (λ e. omega arith))

module _ (f : Format) (whole fraction : List ℕ) (d : ℕ) (ds : List ℕ) (point minus : Bool) (rest : List ℕ) (w : AllDigits 10 whole) (fr : AllDigits 10 fraction) (e : AllDigits 10 (d ∷ ds)) (none : point ≡ false → fraction ≡ []) (some : 0 < length whole) (ends : digits_len rest ≡ 0) where
  len : ℕ
  len = body_len whole point fraction minus (d ∷ ds)

  q : Parts
  q = parts whole point fraction minus (d ∷ ds) (body_len whole point fraction minus (d ∷ ds))

  read_signed : (negative : Bool) →
      read_float f (sign_text negative ++ body whole point fraction minus (d ∷ ds) rest)
      ≡ Some (nearest_float f negative (parts whole point fraction minus (d ∷ ds) (body_len whole point fraction minus (d ∷ ds))), length (sign_text negative) + body_len whole point fraction minus (d ∷ ds))
  unfolding read_float
  read_signed true = rw (scanned whole fraction d ds point minus rest w fr e none ends, lt-ltb 0 (length whole + length fraction) (omega arith)) refl
  read_signed false =
      let first = first_digit whole (cond point (46 ∷ fraction) [] ++ 101 ∷ (sign_text minus ++ ((d ∷ ds) ++ rest))) w some in
      rw (first.0, first.1, scanned whole fraction d ds point minus rest w fr e none ends, lt-ltb 0 (length whole + length fraction) (omega arith)) refl

-- ---- a double, known by its shape

value_below : (b : ℕ) → is_ascii_digit b ≡ true → digit_value b < 10
value_below b h = let r = digit_range b h in omega (arith, (is_digit b r.0 r.1).1)

pub all_digits : (ds : List ℕ) → list_all is_ascii_digit ds ≡ true → AllDigits 10 ds
all_digits [] h = tt
all_digits (d ∷ ds) h = let p = and_parts (is_ascii_digit d) (list_all is_ascii_digit ds) h in (value_below d p.0, all_digits ds p.1)

are_some : (ds : List ℕ) → AreDigits ds → 0 < length ds
are_some [] h = absurd h
are_some (d ∷ ds) h = omega arith

no_digit : (rest : List ℕ) → BeginsWithout is_ascii_digit rest → digits_len rest ≡ 0
no_digit [] h = refl
no_digit (b ∷ rest) h = rw h refl

abbrev unsigned : List ℕ → Bool → List ℕ → Bool → List ℕ → List ℕ
unsigned whole point fraction minus exponent = whole ++ (cond point (46 ∷ fraction) [] ++ 101 ∷ (sign_text minus ++ exponent))

by_parts : (f : Format) (x : Float) (negative point minus : Bool) (whole fraction : List ℕ) (d : ℕ) (ds rest : List ℕ) →
    AreDigits whole → list_all is_ascii_digit fraction ≡ true → (point ≡ false → fraction ≡ []) → AreDigits (d ∷ ds) →
    BeginsWithout is_ascii_digit rest → parse_float f (sign_text negative ++ unsigned whole point fraction minus (d ∷ ds)) ≡ Some x →
    read_float f ((sign_text negative ++ unsigned whole point fraction minus (d ∷ ds)) ++ rest) ≡ Some (x, length (sign_text negative ++ unsigned whole point fraction minus (d ∷ ds)))
by_parts f x negative point minus whole fraction d ds rest w fr none e ends parsed =
    let exponent : List ℕ = d ∷ ds in
    let p : Parts = parts whole point fraction minus exponent (length (unsigned whole point fraction minus exponent)) in
    let formed : IsWellFormed p = record {
      whole_digits = all_digits whole (digits_all whole w);
      fraction_digits = all_digits fraction fr;
      exponent_digits = all_digits exponent (digits_all exponent e);
      no_point = none;
      no_exponent = λ h. cc;
      len_is = refl;
    } in
    let alone = parse_float-text_of f negative p formed (are_some whole w) in
    let same : nearest_float f negative p ≡ x = cc in
    let joined : (sign_text negative ++ unsigned whole point fraction minus exponent) ++ rest ≡ sign_text negative ++ body whole point fraction minus exponent rest = simp append_assoc in
    let long : length (sign_text negative) + body_len whole point fraction minus exponent ≡ length (sign_text negative ++ unsigned whole point fraction minus exponent) =
    sym (length-append (sign_text negative) _ ∙ ap (λ n. length (sign_text negative) + n) (length-append whole _ ∙ ap (λ n. length whole + n) (length-append (cond point (46 ∷ fraction) []) _))) in
    let read = read_signed f whole fraction d ds point minus rest (all_digits whole (digits_all whole w)) (all_digits fraction fr) (all_digits exponent (digits_all exponent e)) none (are_some whole w) (no_digit rest ends) negative in
    rw joined (read ∙ (λ i. Some (same i, long i)))

-- a double that reads as a float on its own reads as this float before such a text, and ends there
pub reads_before : (f : Format) (x : Float) {text : List ℕ} → IsDouble text → parse_float f text ≡ Some x →
    (rest : List ℕ) → BeginsWithout is_ascii_digit rest → read_float f (text ++ rest) ≡ Some (x, length text)
reads_before f x (double_shape _ whole _ _ [] s w fr es e) parsed rest ends = absurd e
reads_before f x (double_shape _ whole _ _ (d ∷ ds) no_sign w no_fraction no_sign e) parsed rest ends = by_parts f x false false false whole [] d ds rest w refl (λ h. refl) e ends parsed
reads_before f x (double_shape _ whole _ _ (d ∷ ds) no_sign w no_fraction minus_sign e) parsed rest ends = by_parts f x false false true whole [] d ds rest w refl (λ h. refl) e ends parsed
reads_before f x (double_shape _ whole _ _ (d ∷ ds) minus_sign w no_fraction no_sign e) parsed rest ends = by_parts f x true false false whole [] d ds rest w refl (λ h. refl) e ends parsed
reads_before f x (double_shape _ whole _ _ (d ∷ ds) minus_sign w no_fraction minus_sign e) parsed rest ends = by_parts f x true false true whole [] d ds rest w refl (λ h. refl) e ends parsed
reads_before f x (double_shape _ whole _ _ (d ∷ ds) no_sign w (point_and_digits fraction fr) no_sign e) parsed rest ends = by_parts f x false true false whole fraction d ds rest w (digits_all fraction fr) (λ h. absurd (true≢false h)) e ends parsed
reads_before f x (double_shape _ whole _ _ (d ∷ ds) no_sign w (point_and_digits fraction fr) minus_sign e) parsed rest ends = by_parts f x false true true whole fraction d ds rest w (digits_all fraction fr) (λ h. absurd (true≢false h)) e ends parsed
reads_before f x (double_shape _ whole _ _ (d ∷ ds) minus_sign w (point_and_digits fraction fr) no_sign e) parsed rest ends = by_parts f x true true false whole fraction d ds rest w (digits_all fraction fr) (λ h. absurd (true≢false h)) e ends parsed
reads_before f x (double_shape _ whole _ _ (d ∷ ds) minus_sign w (point_and_digits fraction fr) minus_sign e) parsed rest ends = by_parts f x true true true whole fraction d ds rest w (digits_all fraction fr) (λ h. absurd (true≢false h)) e ends parsed
