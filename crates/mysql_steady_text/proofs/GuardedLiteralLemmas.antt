-- The guarded literal of a value: its shape, and how it reads over every client set.
use Rattle.std.specs.Prelude.{nat_le, if◌then◌else◌, ◌&&◌, ℤ, pos, negsuc, codes, not, ◌<◌, ◌^◌, IfSome, is_none}
use Rattle.std.proofs.Common.{◌≡◌, ◌++◌, eqb, ℕ, Bool, true, false, List, [], ◌∷◌, length, refl, sym, ap, ◌∙◌, subst, inl, inr, arith, append_assoc}
use Rattle.std.specs.Char.{is_ascii_digit}
use Rattle.std.specs.Fmt.{decimal, signed_decimal}
use Rattle.std.specs.List.{list_all}
use Rattle.std.specs.Str.{is_utf8, IsAscii}
use Rattle.std.proofs.lemmas.Bool.{and_parts, and_from, cases_Bool, cond_both, eqb-true, eqb-false, false_from_ne_true, both_ways, not-true}
use Rattle.std.proofs.lemmas.Bool.Decides.{nat_tests}
use Rattle.std.proofs.lemmas.Str.{IsUtf8-from_ascii, IsUtf8-from_is_utf8, is_utf8-from_IsUtf8}
use Rattle.std.proofs.lemmas.Str.Ascii.{IsAscii-cons, IsAscii-nil}
use Rattle.std.proofs.lemmas.Fmt.{decimal_nonempty}
use Rattle.std.proofs.lemmas.Int.{ints}
use lib.Signed.{mag}
use Rattle.mysql_sql_text.specs.StringUnits.{AreUnits, no_units, byte_unit, escape_unit}
use Rattle.mysql_sql_text.specs.LiteralText.{hexadecimal, quoted, date_text, time_text}
use Rattle.mysql_sql_text.specs.ReadLiteral.{Content, null, byte_string, number}
use Rattle.mysql_sql_text.proofs.ByteNames.{backslash, single_quote}
use Rattle.mysql_sql_text.proofs.ClockLemmas.{is_clock_byte, IsClockText, IsClockText-date_text, IsClockText-time_text}
use Rattle.mysql_sql_text.proofs.ReadBytesLemmas.{begins_without_quote}
use Rattle.mysql_sql_text.proofs.ReadNaturalLemmas.{all_digits-decimal}
use Rattle.mysql_named_params.specs.Bytes.{space}
use Rattle.mysql_values.specs.declared.value.Value.{Value}
use Rattle.mysql_values.specs.declared.value.Value.TheVariants.{NULL, Bytes, Int, UInt, Float, Double, Date, Time}
use Rattle.mysql_values.specs.Value.{FieldsInRange}
use Rattle.mysql_values.specs.Literal.{is_float}
use Rattle.mysql_portable.specs.CharacterSet.{CharacterSet}
use Rattle.mysql_portable.specs.Steady.{is_no_backslash, is_steady}
use Rattle.mysql_portable.proofs.SteadyLemmas.{no_backslashes}
use Rattle.mysql_steady_text.specs.SteadyLiteral.{is_spelled_out, steady_bytes_literal}
use Rattle.mysql_steady_text.specs.ReadSteadyLiteral.{read_steady_literal, ReadsSteadyBefore}
use Rattle.mysql_steady_text.proofs.FormLemmas as steady
use Rattle.mysql_steady_text.proofs.SteadyLiteralLemmas.{all_wider, spelled_out_no_backslash, steady_shape, steady_bytes, steady_reads}
use Rattle.mysql_steady_text.specs.GuardedLiteral.{guarded, guarded_bytes_literal, guarded_literal_of, are_held}
use Rattle.mysql_steady_text.specs.GuardedShape.{AreGuardedStrings, one_guarded, more_guarded, spaced_guarded, guarded_string, IsGuardedLiteral, KeepsApart, keeps_apart, guarded_strings, steady_literal}
use Rattle.mysql_steady_text.specs.ReadGuarded.{backslashes_doubled, the_same, doubled, read_as_one, read_in, ReadsOver, ReadsNearly, ReadsGuardedAs}
use Rattle.mysql_steady_text.proofs.ReadInLemmas.{content_bytes, guarded_read}

-- ---- the forms: a guarded string, or the steady literal

spelled_out_low : (b : ℕ) → is_spelled_out b ≡ true → b < 128
spelled_out_low b h = grind (arith, nat_tests)

spelled_out_ascii : (bytes : List ℕ) → list_all is_spelled_out bytes ≡ true → IsAscii bytes
spelled_out_ascii [] h = IsAscii-nil
spelled_out_ascii (b ∷ bytes) h =
    let p = and_parts (is_spelled_out b) (list_all is_spelled_out bytes) h in
    IsAscii-cons b bytes (spelled_out_low b p.0) (spelled_out_ascii bytes p.1)

never_both : (a : Bool) → not (a && false) ≡ true
never_both true = refl
never_both false = refl

-- a text without a backslash keeps them apart
plain_apart : (high : Bool) (bytes : List ℕ) → list_all is_no_backslash bytes ≡ true → keeps_apart high bytes ≡ true
plain_apart high [] h = refl
plain_apart high (b ∷ bytes) h =
    let p = and_parts (is_no_backslash b) (list_all is_no_backslash bytes) h in
    and_from _ _ (subst (λ c. not (high && c) ≡ true) (sym (not-true _ p.0)) (never_both high)) (plain_apart (nat_le 128 b) bytes p.1)

held_plain : (mode : Bool) (bytes : List ℕ) → list_all is_no_backslash bytes ≡ true → are_held mode bytes ≡ true
held_plain false bytes h = refl
held_plain true bytes h = h

not_spelled_out : (mode : Bool) (bytes : List ℕ) → are_held mode bytes ≡ false → list_all is_spelled_out bytes ≡ false
not_spelled_out mode bytes h =
    false_from_ne_true _ (λ s. both_ways (are_held mode bytes) h (held_plain mode bytes (all_wider is_spelled_out is_no_backslash spelled_out_no_backslash bytes s)))

other_not_spelled_out : (bytes : List ℕ) → is_utf8 bytes ≡ false → list_all is_spelled_out bytes ≡ false
other_not_spelled_out bytes h =
    false_from_ne_true _ (λ s. both_ways (is_utf8 bytes) h (is_utf8-from_IsUtf8 bytes (IsUtf8-from_ascii bytes (spelled_out_ascii bytes s))))

-- a fact about the forms of the literal of bytes holds for the literal
by_form : (P : List ℕ → Type 0) (mode : Bool) (bytes : List ℕ) →
    (are_held mode bytes ≡ true → P (quoted (guarded false bytes))) →
    (steady_bytes_literal bytes ≡ codes "_utf8mb4 0x" ++ hexadecimal bytes → P (codes "_utf8mb4 0x" ++ hexadecimal bytes)) →
    (steady_bytes_literal bytes ≡ codes "0x" ++ hexadecimal bytes → P (codes "0x" ++ hexadecimal bytes)) →
    P (guarded_bytes_literal mode bytes)
by_form P mode bytes string introduced bare =
    cond_both (is_utf8 bytes) _ _ P
    (λ utf8. cond_both (are_held mode bytes) _ _ P string
    (λ other. introduced (steady.literal-introduced bytes (not_spelled_out mode bytes other) (IsUtf8-from_is_utf8 bytes utf8))))
    (λ other. bare (steady.literal-bare bytes (other_not_spelled_out bytes other) (λ utf8. both_ways (is_utf8 bytes) other (is_utf8-from_IsUtf8 bytes utf8))))

-- ---- the shape

units_append : (mode : Bool) {front back : List ℕ} → AreUnits mode single_quote front → AreUnits mode single_quote back →
    AreUnits mode single_quote (front ++ back)
units_append mode no_units k = k
units_append mode (byte_unit n e u) k = byte_unit n e (units_append mode u k)
units_append mode (escape_unit e u) k = escape_unit e (units_append mode u k)

-- two backslashes are units in both modes
escape_in : AreUnits false single_quote (backslash ∷ backslash ∷ [])
escape_in = escape_unit refl no_units

bytes_in : AreUnits true single_quote (backslash ∷ backslash ∷ [])
bytes_in = byte_unit (eqb-false backslash single_quote refl) refl (byte_unit (eqb-false backslash single_quote refl) refl no_units)

-- two backslashes, in this string or in the next
escape_from : (high : Bool) (front more : List ℕ) → AreUnits false single_quote front → AreUnits true single_quote front →
    AreGuardedStrings (single_quote ∷ ((front ++ backslash ∷ backslash ∷ []) ++ (more ++ single_quote ∷ []))) →
    AreGuardedStrings (single_quote ∷ backslash ∷ backslash ∷ (more ++ single_quote ∷ [])) →
    AreGuardedStrings (single_quote ∷ (front ++ (((if high then codes "' '\\\\" else codes "\\\\") ++ more) ++ single_quote ∷ [])))
escape_from false front more u v here next =
    subst (λ t. AreGuardedStrings (single_quote ∷ t)) (append_assoc front (backslash ∷ backslash ∷ []) (more ++ single_quote ∷ [])) here
escape_from true front more u v here next =
    subst (λ t. AreGuardedStrings (single_quote ∷ t))
    (append_assoc front (single_quote ∷ []) (space ∷ single_quote ∷ backslash ∷ backslash ∷ (more ++ single_quote ∷ [])))
    (spaced_guarded (single_quote ∷ (front ++ single_quote ∷ [])) (single_quote ∷ backslash ∷ backslash ∷ (more ++ single_quote ∷ [])) (guarded_string front u v) next)

-- the units of a string so far, and the bytes that are left
strings_from : (high : Bool) (front bytes : List ℕ) → AreUnits false single_quote front → AreUnits true single_quote front →
    AreGuardedStrings (single_quote ∷ (front ++ (guarded high bytes ++ single_quote ∷ [])))
strings_from high front [] u v = one_guarded (single_quote ∷ (front ++ single_quote ∷ [])) (guarded_string front u v)
strings_from high front (b ∷ bytes) u v = elim (cases_Bool (eqb b single_quote)) [
  | inl quote ↦ rw quote (subst (λ t. AreGuardedStrings (single_quote ∷ t))
      (append_assoc front (single_quote ∷ []) (single_quote ∷ (guarded (nat_le 128 b) bytes ++ single_quote ∷ [])))
      (more_guarded (single_quote ∷ (front ++ single_quote ∷ [])) (single_quote ∷ (guarded (nat_le 128 b) bytes ++ single_quote ∷ [])) (guarded_string front u v)
      (strings_from (nat_le 128 b) [] bytes no_units no_units)))
  | inr other ↦ elim (cases_Bool (eqb b backslash)) [
    | inl escape ↦ rw (other, escape) (escape_from high front (guarded (nat_le 128 b) bytes) u v
        (strings_from (nat_le 128 b) (front ++ backslash ∷ backslash ∷ []) bytes (units_append false u escape_in) (units_append true v bytes_in))
        (strings_from (nat_le 128 b) (backslash ∷ backslash ∷ []) bytes escape_in bytes_in))
    | inr none ↦ rw (other, none) (subst (λ t. AreGuardedStrings (single_quote ∷ t))
        (append_assoc front (b ∷ []) (guarded (nat_le 128 b) bytes ++ single_quote ∷ []))
        (strings_from (nat_le 128 b) (front ++ b ∷ []) bytes
        (units_append false u (byte_unit (eqb-false b single_quote other) none no_units))
        (units_append true v (byte_unit (eqb-false b single_quote other) refl no_units))))
  ]
]

string_shape : (bytes : List ℕ) → IsGuardedLiteral (quoted (guarded false bytes))
string_shape bytes = guarded_strings (quoted (guarded false bytes)) (strings_from false [] bytes no_units no_units)

pub guarded_shape : (mode : Bool) (v : Value) → FieldsInRange v → IfSome (guarded_literal_of mode v) IsGuardedLiteral
guarded_shape mode NULL r = steady_literal _ (steady_shape NULL r) (steady_bytes NULL r)
guarded_shape mode (Bytes bytes) r =
    let of_steady : (t : List ℕ) → steady_bytes_literal bytes ≡ t → IsGuardedLiteral t =
    λ t e. subst IsGuardedLiteral e (steady_literal _ (steady_shape (Bytes bytes) r) (steady_bytes (Bytes bytes) r)) in
    by_form IsGuardedLiteral mode bytes (λ h. string_shape bytes) (of_steady _) (of_steady _)
guarded_shape mode (Int n) r = steady_literal _ (steady_shape (Int n) r) (steady_bytes (Int n) r)
guarded_shape mode (UInt n) r = steady_literal _ (steady_shape (UInt n) r) (steady_bytes (UInt n) r)
guarded_shape mode (Float bits) r = tt
guarded_shape mode (Double bits) r = tt
guarded_shape mode (Date y m d h i s u) r = steady_literal _ (steady_shape (Date y m d h i s u) r) (steady_bytes (Date y m d h i s u) r)
guarded_shape mode (Time n d h m s u) r = steady_literal _ (steady_shape (Time n d h m s u) r) (steady_bytes (Time n d h m s u) r)

-- ---- no backslash directly follows a byte from 128 on

escape_apart : (high : Bool) (bytes : List ℕ) → keeps_apart false (guarded false bytes ++ single_quote ∷ []) ≡ true →
    keeps_apart high (guarded high (backslash ∷ bytes) ++ single_quote ∷ []) ≡ true
escape_apart true bytes h = h
escape_apart false bytes h = h

guarded_apart : (high : Bool) (bytes : List ℕ) → keeps_apart high (guarded high bytes ++ single_quote ∷ []) ≡ true
guarded_apart true [] = refl
guarded_apart false [] = refl
guarded_apart high (b ∷ bytes) = elim (cases_Bool (eqb b single_quote)) [
  | inl quote ↦ rw (eqb-true b single_quote quote) (and_from _ _ (never_both high) (guarded_apart false bytes))
  | inr other ↦ elim (cases_Bool (eqb b backslash)) [
    | inl escape ↦ rw (eqb-true b backslash escape) (escape_apart high bytes (guarded_apart false bytes))
    | inr none ↦ rw (other, none) (and_from _ _ (subst (λ c. not (high && c) ≡ true) (sym none) (never_both high)) (guarded_apart (nat_le 128 b) bytes))
  ]
]

string_apart : (bytes : List ℕ) → KeepsApart (quoted (guarded false bytes))
string_apart bytes = guarded_apart false bytes

steady_apart : (text : List ℕ) → list_all is_steady text ≡ true → KeepsApart text
steady_apart text h = plain_apart false text (no_backslashes text h)

pub guarded_kept_apart : (mode : Bool) (v : Value) → FieldsInRange v → IfSome (guarded_literal_of mode v) KeepsApart
guarded_kept_apart mode NULL r = refl
guarded_kept_apart mode (Bytes bytes) r =
    let of_steady : (t : List ℕ) → steady_bytes_literal bytes ≡ t → KeepsApart t =
    λ t e. subst KeepsApart e (steady_apart (steady_bytes_literal bytes) (steady_bytes (Bytes bytes) r)) in
    by_form KeepsApart mode bytes (λ h. string_apart bytes) (of_steady _) (of_steady _)
guarded_kept_apart mode (Int n) r = steady_apart (signed_decimal n) (steady_bytes (Int n) r)
guarded_kept_apart mode (UInt n) r = steady_apart (decimal n) (steady_bytes (UInt n) r)
guarded_kept_apart mode (Float bits) r = tt
guarded_kept_apart mode (Double bits) r = tt
guarded_kept_apart mode (Date y m d h i s u) r = steady_apart (quoted (date_text y m d h i s u)) (steady_bytes (Date y m d h i s u) r)
guarded_kept_apart mode (Time n d h m s u) r = steady_apart (quoted (time_text n d h m s u)) (steady_bytes (Time n d h m s u) r)

-- ---- how it reads

-- a literal that reads so in both modes
Reads : List ℕ → Content → Type 0
Reads literal content = (mode : Bool) → ReadsOver mode literal content

as_value : (mode : Bool) (literal : List ℕ) (content : Content) → Reads literal content →
    ReadsOver mode literal content × ReadsNearly (not mode) literal content
unfolding Reads
as_value mode literal content r = (r mode, (content, the_same content, r (not mode)))

as_they_are : (bytes : List ℕ) → content_bytes false bytes ≡ bytes
as_they_are [] = refl
as_they_are (b ∷ bytes) = ap (λ t. b ∷ t) (as_they_are bytes)

plain_content : (mode : Bool) (bytes : List ℕ) → list_all is_no_backslash bytes ≡ true → content_bytes mode bytes ≡ bytes
plain_content false bytes h = as_they_are bytes
plain_content true [] h = refl
plain_content true (b ∷ bytes) h =
    let p = and_parts (is_no_backslash b) (list_all is_no_backslash bytes) h in
    rw (not-true _ p.0) (ap (λ t. b ∷ t) (plain_content true bytes p.1))

-- strings, in each mode
strings_read : (mode : Bool) (bytes : List ℕ) → ReadsOver mode (quoted (guarded false bytes)) (byte_string (content_bytes mode bytes))
strings_read mode bytes set client rest n = guarded_read set client mode rest (begins_without_quote rest n) bytes

-- strings without a backslash
plain_reads : (bytes : List ℕ) → list_all is_no_backslash bytes ≡ true → Reads (quoted (guarded false bytes)) (byte_string bytes)
unfolding Reads
plain_reads bytes h mode =
    subst (λ t. ReadsOver mode (quoted (guarded false bytes)) (byte_string t)) (plain_content mode bytes h) (strings_read mode bytes)

string_reads : (mode : Bool) (bytes : List ℕ) → are_held mode bytes ≡ true →
    ReadsOver mode (quoted (guarded false bytes)) (byte_string bytes) × ReadsNearly (not mode) (quoted (guarded false bytes)) (byte_string bytes)
string_reads true bytes h = as_value true (quoted (guarded false bytes)) (byte_string bytes) (plain_reads bytes h)
string_reads false bytes h = (
  subst (λ t. ReadsOver false (quoted (guarded false bytes)) (byte_string t)) (as_they_are bytes) (strings_read false bytes),
  (byte_string (backslashes_doubled bytes), doubled bytes, strings_read true bytes),
)

-- what begins with no quote is read as a steady literal is
digits_read : (set : CharacterSet) (mode : Bool) (digits rest : List ℕ) → 0 < length digits → list_all is_ascii_digit digits ≡ true →
    read_in set mode (digits ++ rest) ≡ read_steady_literal mode (digits ++ rest)
digits_read set mode [] rest some h = absurd (omega arith)
digits_read set mode (d ∷ digits) rest some h = rw (digit_no_quote d (and_parts (is_ascii_digit d) (list_all is_ascii_digit digits) h).0) refl
  where
    digit_no_quote : (d : ℕ) → is_ascii_digit d ≡ true → eqb d single_quote ≡ false
    digit_no_quote d k = grind (arith, nat_tests)

natural_reads : (n : ℕ) → n < 2 ^ 64 → ReadsSteadyBefore (decimal n) (number (pos n)) → Reads (decimal n) (number (pos n))
unfolding Reads
natural_reads n h r mode set client rest b =
    read_as_one (decimal n ++ rest) (number (pos n)) rest (digits_read set mode (decimal n) rest (decimal_nonempty n h) (all_digits-decimal n h) ∙ r mode rest b)

signed_reads : (z : ℤ) → mag z < 2 ^ 63 → ReadsSteadyBefore (signed_decimal z) (number z) → Reads (signed_decimal z) (number z)
unfolding Reads
signed_reads (pos n) h r = natural_reads n (omega (arith, h)) r
signed_reads (negsuc n) h r = λ mode set client rest b. read_as_one (signed_decimal (negsuc n) ++ rest) (number (negsuc n)) rest (r mode rest b)

-- the text of a date or a time has no quote and no backslash
clock_no_backslash : (b : ℕ) → is_clock_byte b ≡ true → is_no_backslash b ≡ true
clock_no_backslash b h = grind (arith, nat_tests)

clock_no_quote : (b : ℕ) → is_clock_byte b ≡ true → eqb b single_quote ≡ false
clock_no_quote b h = grind (arith, nat_tests)

guarded-clock : (high : Bool) (text : List ℕ) → list_all is_clock_byte text ≡ true → guarded high text ≡ text
guarded-clock high [] h = refl
guarded-clock high (b ∷ text) h =
    let p = and_parts (is_clock_byte b) (list_all is_clock_byte text) h in
    rw (clock_no_quote b p.0, not-true _ (clock_no_backslash b p.0)) (ap (λ t. b ∷ t) (guarded-clock (nat_le 128 b) text p.1))

clock_reads : (text : List ℕ) → IsClockText text → Reads (quoted text) (byte_string text)
clock_reads text c =
    subst (λ t. Reads (quoted t) (byte_string text)) (guarded-clock false text c.all)
    (plain_reads text (all_wider is_clock_byte is_no_backslash clock_no_backslash text c.all))

pub guarded_reads : (mode : Bool) (v : Value) → FieldsInRange v → IfSome (guarded_literal_of mode v) (ReadsGuardedAs mode v)
unfolding Reads
guarded_reads mode NULL r = as_value mode (codes "NULL") null (λ m set client rest n. read_as_one (codes "NULL" ++ rest) null rest (steady_reads NULL r m rest n))
guarded_reads mode (Bytes bytes) r =
    by_form (λ t. ReadsOver mode t (byte_string bytes) × ReadsNearly (not mode) t (byte_string bytes)) mode bytes (string_reads mode bytes)
    (λ e. as_value mode (codes "_utf8mb4 0x" ++ hexadecimal bytes) (byte_string bytes)
    (λ m set client rest n. read_as_one ((codes "_utf8mb4 0x" ++ hexadecimal bytes) ++ rest) (byte_string bytes) rest
    (subst (λ t. ReadsSteadyBefore t (byte_string bytes)) e (steady_reads (Bytes bytes) r) m rest n)))
    (λ e. as_value mode (codes "0x" ++ hexadecimal bytes) (byte_string bytes)
    (λ m set client rest n. read_as_one ((codes "0x" ++ hexadecimal bytes) ++ rest) (byte_string bytes) rest
    (subst (λ t. ReadsSteadyBefore t (byte_string bytes)) e (steady_reads (Bytes bytes) r) m rest n)))
guarded_reads mode (Int n) r = as_value mode (signed_decimal n) (number n) (signed_reads n (omega (arith, ints)) (steady_reads (Int n) r))
guarded_reads mode (UInt n) r = as_value mode (decimal n) (number (pos n)) (natural_reads n r (steady_reads (UInt n) r))
guarded_reads mode (Float bits) r = tt
guarded_reads mode (Double bits) r = tt
guarded_reads mode (Date y m d h i s u) r =
    as_value mode (quoted (date_text y m d h i s u)) (byte_string (date_text y m d h i s u)) (clock_reads (date_text y m d h i s u) (IsClockText-date_text y m d h i s u (omega arith) (omega arith) (omega arith) (omega arith) (omega arith) (omega arith) (omega arith)))
guarded_reads mode (Time n d h m s u) r =
    as_value mode (quoted (time_text n d h m s u)) (byte_string (time_text n d h m s u)) (clock_reads (time_text n d h m s u) (IsClockText-time_text n d h m s u (omega arith) (omega arith) (omega arith) (omega arith)))

pub guarded_float : (mode : Bool) (v : Value) → is_none (guarded_literal_of mode v) ≡ is_float v
guarded_float mode NULL = refl
guarded_float mode (Bytes bytes) = refl
guarded_float mode (Int n) = refl
guarded_float mode (UInt n) = refl
guarded_float mode (Float bits) = refl
guarded_float mode (Double bits) = refl
guarded_float mode (Date y m d h i s u) = refl
guarded_float mode (Time n d h m s u) = refl
