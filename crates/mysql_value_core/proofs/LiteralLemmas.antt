-- The facts about the literal of every value: it is read as the value's content, has the shape of
-- literals, is UTF-8, and for many times is a time text between quotes.
use Rattle.std.proofs.Common.{◌≡◌, ℕ, Bool, true, false, List, [], ◌∷◌, ◌++◌, length, get_or, subst, sym, ◌∙◌, ap, arith, refl, ◌<◌, ◌^◌, suc, rules}
use Rattle.std.specs.Prelude.{IfSome, is_none, pos, negsuc, ℤ, codes}
use Rattle.std.specs.Char.{is_ascii_digit}
use Rattle.std.specs.List.{list_all}
use Rattle.std.specs.Fmt.{decimal, signed_decimal}
use Rattle.std.specs.Str.{IsUtf8, is_utf8, byte}
use Rattle.std.proofs.lemmas.Int.{ints}
use Rattle.std.proofs.lemmas.Bool.{cond_both, and_parts}
use Rattle.std.proofs.lemmas.Fmt.{IsAscii-decimal, IsAscii-signed, decimal_nonempty}
use Rattle.std.proofs.lemmas.Str.{IsUtf8-from_ascii, IsUtf8-from_is_utf8}
use Rattle.std.proofs.lemmas.Str.Ascii.{IsAscii-cons, IsAscii-from_all}
use lib.Signed.{mag}
use Rattle.mysql_value_core.specs.declared.value.Value.{Value}
use Rattle.mysql_value_core.specs.declared.value.Value.TheVariants.{NULL, Bytes, Int, UInt, Float, Double, Date, Time}
use Rattle.mysql_value_core.specs.Value.{FieldsInRange}
use Rattle.mysql_sql_text.specs.LiteralText.{escaped, quoted, hexadecimal, bytes_literal, date_text, time_text}
use Rattle.mysql_value_core.specs.Literal.{literal_of, is_float}
use Rattle.mysql_sql_text.specs.ReadLiteral.{byte_string, read_literal}
use Rattle.mysql_value_core.specs.Content.{content_of}
use Rattle.mysql_sql_text.specs.LiteralEnd.{continues_literal, ReadsBefore}
use Rattle.mysql_value_core.specs.ReadBack.{ReadsAs}
use Rattle.mysql_value_core.specs.TimeLiteral.{WritesTimeText}
use Rattle.mysql_sql_text.specs.TimeText.{total_microseconds}
use Rattle.mysql_sql_text.proofs.TimeTextLemmas.{time_texts_are_read}
use Rattle.mysql_sql_text.proofs.WrittenTimeLemmas.{times_read_back}
use Rattle.mysql_sql_text.specs.LiteralShape.{AreDigits, IsLiteral, null_literal, natural_literal, negative_literal, hexadecimal_literal, quoted_literal}
use Rattle.mysql_sql_text.proofs.ReadNaturalLemmas.{all_digits-decimal}
use Rattle.mysql_sql_text.proofs.ReadStringLemmas.{read_quoted}
use Rattle.mysql_sql_text.proofs.ReadNumberLemmas.{decimal_reads, signed_reads}
use Rattle.mysql_sql_text.proofs.ReadBytesLemmas.{length-not_utf8, begins_without_quote, bytes_read, utf8_bytes_read}
use Rattle.mysql_sql_text.proofs.HexadecimalLemmas.{AreHexadecimalPairs-hexadecimal, IsAscii-hexadecimal}
use Rattle.mysql_sql_text.proofs.ClockLemmas.{IsClockText, IsClockText-date_text, IsClockText-time_text, escaped-clock, IsAscii-clock}
use Rattle.mysql_sql_text.proofs.EscapedLemmas.{IsUtf8-escaped, IsUtf8-quoted}
use Rattle.mysql_sql_text.proofs.QuotedLemmas.{IsQuoted-escaped}

date_clock : (year month day hour minute second micros : ℕ) → FieldsInRange (Date year month day hour minute second micros)
    → IsClockText (date_text year month day hour minute second micros)
date_clock year month day hour minute second micros r =
    IsClockText-date_text year month day hour minute second micros (omega arith) (omega arith) (omega arith)
    (omega arith) (omega arith) (omega arith) (omega arith)

time_clock : (negative : Bool) (days hours minutes seconds micros : ℕ)
    → FieldsInRange (Time negative days hours minutes seconds micros)
    → IsClockText (time_text negative days hours minutes seconds micros)
time_clock negative days hours minutes seconds micros r =
    IsClockText-time_text negative days hours minutes seconds micros (omega arith) (omega arith) (omega arith) (omega arith)

-- reading back

clock_reads : (mode : Bool) (text : List ℕ) → IsClockText text
    → ReadsBefore continues_literal mode (quoted text) (byte_string text)
clock_reads mode text clock rest h =
    ap (λ t. read_literal mode (quoted t ++ rest)) (sym (escaped-clock mode text clock))
    ∙ read_quoted mode text rest (begins_without_quote rest h)

pub literal_reads : (mode : Bool) (value : Value) → FieldsInRange value → IfSome (literal_of mode value) (ReadsAs mode value)
literal_reads mode NULL r = record { content = λ rest h. refl; utf8_bytes = tt }
literal_reads mode (Bytes bytes) r = record { content = bytes_read mode bytes r.1; utf8_bytes = utf8_bytes_read mode bytes }
literal_reads mode (Int n) r = record { content = signed_reads mode n (omega (arith, ints)); utf8_bytes = tt }
literal_reads mode (UInt n) r = record { content = decimal_reads mode n r; utf8_bytes = tt }
literal_reads mode (Float bits) r = tt
literal_reads mode (Double bits) r = tt
literal_reads mode (Date y m d h i s u) r =
    record { content = clock_reads mode (date_text y m d h i s u) (date_clock y m d h i s u r); utf8_bytes = tt }
literal_reads mode (Time n d h m s u) r =
    record { content = clock_reads mode (time_text n d h m s u) (time_clock n d h m s u r); utf8_bytes = tt }

-- the shape

are_digits : (ds : List ℕ) → 0 < length ds → list_all is_ascii_digit ds ≡ true → AreDigits ds
are_digits [] some h = absurd (omega arith)
are_digits (d ∷ ds) some h = and_parts (is_ascii_digit d) (list_all is_ascii_digit ds) h

AreDigits-decimal : (n : ℕ) → n < 2 ^ 64 → AreDigits (decimal n)
AreDigits-decimal n h = are_digits (decimal n) (decimal_nonempty n h) (all_digits-decimal n h)

IsLiteral-signed : (mode : Bool) (z : ℤ) → mag z < 2 ^ 63 → IsLiteral mode (signed_decimal z)
IsLiteral-signed mode (pos n) h = natural_literal (decimal n) (AreDigits-decimal n (omega arith))
IsLiteral-signed mode (negsuc n) h = negative_literal (decimal (suc n)) (AreDigits-decimal (suc n) (omega arith))

IsLiteral-bytes : (mode : Bool) (bytes : List ℕ) → ((i : ℕ) → get_or bytes i 0 < 256) → IsLiteral mode (bytes_literal mode bytes)
IsLiteral-bytes mode bytes small =
    cond_both (is_utf8 bytes) _ _ (IsLiteral mode)
    (λ _. quoted_literal _ (IsQuoted-escaped mode bytes))
    (λ other. hexadecimal_literal (hexadecimal bytes) (AreHexadecimalPairs-hexadecimal bytes small (length-not_utf8 bytes other)))

IsLiteral-clock : (mode : Bool) (text : List ℕ) → IsClockText text → IsLiteral mode (quoted text)
IsLiteral-clock mode text clock =
    subst (λ t. IsLiteral mode (quoted t)) (escaped-clock mode text clock) (quoted_literal _ (IsQuoted-escaped mode text))

pub literal_shape : (mode : Bool) (value : Value) → FieldsInRange value → IfSome (literal_of mode value) (IsLiteral mode)
literal_shape mode NULL r = null_literal
literal_shape mode (Bytes bytes) r = IsLiteral-bytes mode bytes r.1
literal_shape mode (Int n) r = IsLiteral-signed mode n (omega (arith, ints))
literal_shape mode (UInt n) r = natural_literal (decimal n) (AreDigits-decimal n r)
literal_shape mode (Float bits) r = tt
literal_shape mode (Double bits) r = tt
literal_shape mode (Date y m d h i s u) r = IsLiteral-clock mode (date_text y m d h i s u) (date_clock y m d h i s u r)
literal_shape mode (Time n d h m s u) r = IsLiteral-clock mode (time_text n d h m s u) (time_clock n d h m s u r)

-- UTF-8

IsUtf8-clock : (text : List ℕ) → IsClockText text → IsUtf8 (quoted text)
IsUtf8-clock text clock = IsUtf8-quoted text (IsUtf8-from_ascii text (IsAscii-clock text clock))

IsUtf8-bytes : (mode : Bool) (bytes : List ℕ) → ((i : ℕ) → get_or bytes i 0 < 256) → IsUtf8 (bytes_literal mode bytes)
IsUtf8-bytes mode bytes small =
    cond_both (is_utf8 bytes) _ _ IsUtf8
    (λ utf8. IsUtf8-quoted (escaped mode bytes) (IsUtf8-escaped mode bytes (IsUtf8-from_is_utf8 bytes utf8)))
    (λ _. IsUtf8-from_ascii (codes "0x" ++ hexadecimal bytes)
    (IsAscii-cons (byte "0") (byte "x" ∷ hexadecimal bytes) (omega arith)
    (IsAscii-cons (byte "x") (hexadecimal bytes) (omega arith) (IsAscii-hexadecimal bytes small))))

pub literal_utf8 : (mode : Bool) (value : Value) → FieldsInRange value → IfSome (literal_of mode value) IsUtf8
literal_utf8 mode NULL r = IsUtf8-from_ascii (codes "NULL") (IsAscii-from_all (codes "NULL") (search rules))
literal_utf8 mode (Bytes bytes) r = IsUtf8-bytes mode bytes r.1
literal_utf8 mode (Int n) r = IsUtf8-from_ascii (signed_decimal n) (IsAscii-signed n (omega (arith, ints)))
literal_utf8 mode (UInt n) r = IsUtf8-from_ascii (decimal n) (IsAscii-decimal n r)
literal_utf8 mode (Float bits) r = tt
literal_utf8 mode (Double bits) r = tt
literal_utf8 mode (Date y m d h i s u) r = IsUtf8-clock (date_text y m d h i s u) (date_clock y m d h i s u r)
literal_utf8 mode (Time n d h m s u) r = IsUtf8-clock (time_text n d h m s u) (time_clock n d h m s u r)

-- floats

pub is_none-literal_of : (mode : Bool) (value : Value) → is_none (literal_of mode value) ≡ is_float value
is_none-literal_of mode NULL = refl
is_none-literal_of mode (Bytes bytes) = refl
is_none-literal_of mode (Int n) = refl
is_none-literal_of mode (UInt n) = refl
is_none-literal_of mode (Float bits) = refl
is_none-literal_of mode (Double bits) = refl
is_none-literal_of mode (Date y m d h i s u) = refl
is_none-literal_of mode (Time n d h m s u) = refl

pub is_none-content_of : (value : Value) → is_none (content_of value) ≡ is_float value
is_none-content_of NULL = refl
is_none-content_of (Bytes bytes) = refl
is_none-content_of (Int n) = refl
is_none-content_of (UInt n) = refl
is_none-content_of (Float bits) = refl
is_none-content_of (Double bits) = refl
is_none-content_of (Date y m d h i s u) = refl
is_none-content_of (Time n d h m s u) = refl

-- times

pub literal_writes_time : (mode : Bool) (value : Value) → IfSome (literal_of mode value) (WritesTimeText value)
literal_writes_time mode NULL = tt
literal_writes_time mode (Bytes bytes) = tt
literal_writes_time mode (Int n) = tt
literal_writes_time mode (UInt n) = tt
literal_writes_time mode (Float bits) = tt
literal_writes_time mode (Double bits) = tt
literal_writes_time mode (Date y m d h i s u) = tt
literal_writes_time mode (Time true d h m s u) = tt
literal_writes_time mode (Time false d h m s u) =
    λ hours minutes seconds microseconds. (
      time_text false d h m s u,
      refl,
      (time_texts_are_read (time_text false d h m s u) false (total_microseconds d h m s u)).0
          (times_read_back d h m s u hours minutes seconds microseconds),
    )
